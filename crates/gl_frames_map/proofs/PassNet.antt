-- What asks for a slot: the source two cycles later, and whether the same key stood one or two cycles before.
use Rattle.std.proofs.Common.{◌≡◌, ℕ, zero, suc, ◌<◌, List, length, Some, true, refl, sym, ap, ◌∙◌, arith}
use Rattle.std.specs.Prelude.{not, ◌&&◌, nat_eq, slice_get, slice_index, slice_index_or}
use Rattle.std.specs.List.{sum}
use Rattle.gl_values.specs.Results.{Row}
use Rattle.gl_net.specs.declared.node.Bit.{Bit}
use Rattle.gl_net.specs.declared.node.Bus.{Bus}
use Rattle.gl_net.specs.Net.{IsBus, IsRun, Keeps, Net, Run}
use Rattle.gl_net.proofs.Determined.{keeps_then}
use Rattle.gl_wire.specs.declared.wire.Wire.{Wire}
use Rattle.gl_wire.specs.Shapes.{IsDelayed}
use Rattle.gl_wire.specs.Stages.{IsPad}
use Rattle.gl_wire.specs.Wire.{AreBuses, IsWire, carried, line_at, widths}
use Rattle.gl_wire.proofs.ColumnLemmas.{bit_kept, bus_kept, row_at-value, same_length, wire_kept}
use Rattle.gl_wire.proofs.StageLemmas.{delayed_more}
use Rattle.gl_wire_registers.specs.Held.{held_at}
use Rattle.gl_slots.proofs.PartLemmas.{column_is, width_there}
use Rattle.gl_frames_lanes.specs.LaneNets.{key_in}
use Rattle.gl_frames_lanes.proofs.LaneNet.{line_behind, row_behind, row_is}
use Rattle.gl_frames_map.specs.declared.passing.Asked.{Asked}
use Rattle.gl_frames_map.specs.MapNets.{IsFarIn, IsNearIn, IsPassing, IsPassingIn}

-- the column at a place of buses that are as wide as others
module _ (ws bs cs : List Bus) (k : ℕ) (d : Bus) (same : widths bs ≡ widths ws) (e : cs ≡ bs) (l : k < length ws) where
  pub bus_at : slice_get bs k ≡ Some (slice_index_or cs k d)
  bus_at = column_is bs cs k d e (omega (arith, same_length bs ws same, l))

  pub bus_there : (net : Net) → AreBuses net bs → IsBus net (slice_index_or cs k d)
  bus_there net are = are.each k (slice_index_or cs k d) bus_at

  pub bus_width : (slice_index_or cs k d).width ≡ slice_index (widths ws) k
  bus_width = width_there bs k (slice_index_or cs k d) bus_at ∙ ap (λ (v : List ℕ). slice_index v k) same

module _ (n0 n1 n2 n3 n4 : Net) (source after late : Wire) (column : ℕ) (here next last : Bus) (near far : Bit)
    (at_here : slice_get source.columns column ≡ Some here) (at_next : slice_get after.columns column ≡ Some next) (at_last : slice_get late.columns column ≡ Some last)
    (is_source : IsWire n0 source) (l : IsPad n0 n1 1 source after) (m : IsPad n1 n2 1 after late)
    (is_near : IsNearIn n2 n3 next last late.eos near) (is_far : IsFarIn n3 n4 next last late.eos far) where
  abbrev asked : Asked
  asked = record { valid = late.valid; ends = late.eos; here = here; last = last; near = near; far = far }

  after_late : Keeps n2 n4
  after_late = keeps_then n2 n3 n4 is_near.keeps is_far.keeps

  after_first : Keeps n1 n4
  after_first = keeps_then n1 n2 n4 m.keeps after_late

  all : Keeps n0 n4
  all = keeps_then n0 n1 n4 l.keeps after_first

  last_width : last.width ≡ slice_index (widths source.columns) column
  last_width = width_there late.columns column last at_last ∙ ap (λ ws. slice_index ws column) (m.same_widths ∙ l.same_widths)

  module _ (run : Run) (r : IsRun n4 run) where
    at_near : IsRun n3 run
    at_near = is_far.keeps.runs run r

    at_late : IsRun n2 run
    at_late = is_near.keeps.runs run at_near

    once : IsDelayed 1 (carried run source) (carried run after)
    once = l.delayed run (m.keeps.runs run at_late)

    again : IsDelayed 1 (carried run after) (carried run late)
    again = m.delayed run at_late

    delayed : IsDelayed 2 (carried run source) (carried run late)
    delayed = delayed_more 1 (carried run source) (carried run after) (carried run late) once again

    key : (t : ℕ) (row : Row) → (carried run late).tuple t ≡ Some row → held_at 0 run last t ≡ key_in column row
    unfolding held_at
    key zero row p = absurd (let z = again.before 0 (omega arith) in cc (z, p))
    key (suc t) row p = sym (row_at-value run (suc t) late.columns column last at_last) ∙ ap (key_in column) (row_is run late.valid late.columns (suc t) row p)

    -- where a row came it stood one cycle before in the wire before
    on_after : (t : ℕ) → line_at run late.valid (suc t) ≡ true → line_at run after.valid t ≡ true
    on_after t v = sym (line_behind run after.valid late.valid after.columns late.columns t (again.tuples t)) ∙ v

    on_source : (t : ℕ) → line_at run late.valid (suc (suc t)) ≡ true → line_at run source.valid t ≡ true
    on_source t v = sym (line_behind run source.valid after.valid source.columns after.columns t (once.tuples t)) ∙ on_after (suc t) v

    next_is : (t : ℕ) → line_at run late.valid (suc t) ≡ true → run.at t next.node ≡ run.at (suc t) last.node
    next_is t v =
        sym (row_at-value run t after.columns column next at_next)
        ∙ sym (ap (λ row. slice_index row column) (row_behind run after.valid late.valid after.columns late.columns t (again.tuples t) (on_after t v)))
        ∙ row_at-value run (suc t) late.columns column last at_last

    here_is : (t : ℕ) → line_at run late.valid (suc (suc t)) ≡ true → run.at t here.node ≡ run.at (suc (suc t)) last.node
    here_is t v =
        sym (row_at-value run t source.columns column here at_here)
        ∙ sym (ap (λ row. slice_index row column) (row_behind run source.valid after.valid source.columns after.columns t (once.tuples t) (on_source t v)))
        ∙ row_at-value run (suc t) after.columns column next at_next ∙ next_is (suc t) v

    passing : IsPassing run source column (record { late = late; asked = asked })
    passing = record {
      delayed = delayed;
      key = key;
      here = λ t v. here_is (suc t) v;
      near = λ t v. is_near.line run at_near (suc (suc t))
          ∙ ap (λ x. nat_eq x (run.at (suc (suc t)) last.node) && not (line_at run late.eos (suc (suc t)))) (next_is (suc (suc t)) v);
      far = λ t v. is_far.line run r t
          ∙ ap (λ x. (nat_eq x (run.at (suc t) last.node) && not (line_at run late.eos (suc (suc t)))) && not (line_at run late.eos (suc t))) (next_is (suc (suc t)) v);
    }

  pub passing_is : IsPassingIn n0 n4 source column (record { late = late; asked = asked })
  passing_is =
      let many = ap length l.same_widths in
      let wide = ap sum l.same_widths in
      record {
        keeps = all;
        cost = record {
          nodes = omega (arith, l.cost.nodes, m.cost.nodes, is_near.cost.nodes, is_far.cost.nodes, many);
          registers = omega (arith, l.cost.registers, m.cost.registers, is_near.cost.registers, is_far.cost.registers, wide, last_width);
          memories = omega (arith, l.cost.memories, m.cost.memories, is_near.cost.memories, is_far.cost.memories);
        };
        late = wire_kept n2 n4 late after_late m.wire;
        same_widths = m.same_widths ∙ l.same_widths;
        same_valid = refl;
        same_ends = refl;
        asked = record {
          valid = bit_kept n2 n4 late.valid after_late m.wire.valid;
          ends = bit_kept n2 n4 late.eos after_late m.wire.eos;
          here = bus_kept n0 n4 here all (is_source.columns.each column here at_here);
          here_width = width_there source.columns column here at_here;
          last = bus_kept n2 n4 last after_late (m.wire.columns.each column last at_last);
          last_width = last_width;
          near = bit_kept n3 n4 near is_far.keeps is_near.bit;
          far = is_far.bit;
        };
        law = passing;
      }
