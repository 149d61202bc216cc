-- What asks the slots: the source one cycle later, a register with the key of the row that came last, and the end one
-- cycle later still.
use Rattle.std.proofs.Common.{◌≡◌, ℕ, zero, suc, ◌+◌, Some, Bool, true, false, refl, sym, ap, ◌∙◌, arith}
use Rattle.std.specs.Prelude.{if◌then◌else◌, is_some, slice_get}
use Rattle.gl_values.specs.Results.{Row}
use Rattle.gl_bits.proofs.Bools.{not_both}
use Rattle.gl_net.specs.declared.node.Bit.{Bit}
use Rattle.gl_net.specs.declared.node.Bus.{Bus}
use Rattle.gl_net.specs.Net.{Keeps, Net, Run, IsRun}
use Rattle.gl_net.proofs.Determined.{keeps_then}
use Rattle.gl_wire.specs.declared.wire.Wire.{Wire}
use Rattle.gl_wire.specs.Shapes.{IsDelayed}
use Rattle.gl_wire.specs.Stages.{IsLaterLine, IsPad}
use Rattle.gl_wire.specs.Wire.{IsWire, carried, line_at, row_at}
use Rattle.gl_wire.proofs.ColumnLemmas.{bit_kept, bus_kept, row_at-value, wire_kept}
use Rattle.gl_wire.proofs.GateLemmas.{choose_line}
use Rattle.gl_wire.proofs.StageLemmas.{line_first}
use Rattle.gl_wire_registers.specs.Counters.{IsHold}
use Rattle.gl_wire_registers.specs.Held.{held_at}
use Rattle.gl_groups.specs.declared.finding.Asking.{Asking}
use Rattle.gl_slots.proofs.PartLemmas.{width_there}
use Rattle.gl_frames_lanes.specs.LaneNets.{IsLooking, IsLookingIn, key_in}
use Rattle.gl_frames_lanes.proofs.LaneNet.{line_behind, row_is, some_line}

module _ (n0 n1 n2 n3 : Net) (source late : Wire) (column : ℕ) (here last : Bus) (free : Bit) (at_here : slice_get source.columns column ≡ Some here)
    (is_source : IsWire n0 source) (l : IsPad n0 n1 1 source late) (h : IsHold n1 n2 source.valid here last) (f : IsLaterLine n2 n3 late.eos free) where
  abbrev asking : Asking
  asking = record { free = free; ask = late.valid; last = last; come = source.valid; here = here }

  after_last : Keeps n1 n3
  after_last = keeps_then n1 n2 n3 h.keeps f.keeps

  all : Keeps n0 n3
  all = keeps_then n0 n1 n3 l.keeps after_last

  module _ (run : Run) (r : IsRun n3 run) where
    at_last : IsRun n2 run
    at_last = f.keeps.runs run r

    delayed : IsDelayed 1 (carried run source) (carried run late)
    delayed = l.delayed run (h.keeps.runs run at_last)

    on_late : (t : ℕ) → line_at run late.valid (suc t) ≡ line_at run source.valid t
    on_late t = line_behind run source.valid late.valid source.columns late.columns t (delayed.tuples t)

    last_is : (t : ℕ) → run.at (suc (suc t)) last.node ≡ (if line_at run late.valid (suc (suc t)) then run.at (suc t) here.node else run.at (suc t) last.node)
    last_is t =
        h.value run at_last t ∙ choose_line run source.valid (run.at (suc t) here.node) (run.at (suc t) last.node) t
        ∙ ap (λ (b : Bool). if b then run.at (suc t) here.node else run.at (suc t) last.node) (sym (on_late (suc t)))

    comes : (t : ℕ) → line_at run late.valid (suc t) ≡ true → held_at 0 run last (suc t) ≡ held_at 0 run here t
    unfolding held_at
    comes zero e = absurd (not_both (line_at run late.valid 1) e (on_late 0 ∙ line_first run source.valid))
    comes (suc t) e = last_is t ∙ ap (λ (b : Bool). if b then run.at (suc t) here.node else run.at (suc t) last.node) e

    stays : (t : ℕ) → line_at run late.valid (suc (suc t)) ≡ false → held_at 0 run last (suc (suc t)) ≡ held_at 0 run last (suc t)
    unfolding held_at
    stays t e = last_is t ∙ ap (λ (b : Bool). if b then run.at (suc t) here.node else run.at (suc t) last.node) e

    -- the key of a row that came
    key_came : (t : ℕ) (row : Row) → (carried run source).tuple t ≡ Some row → held_at 0 run here t ≡ key_in column row
    unfolding held_at
    key_came zero row p = absurd (let z = sym (some_line run source.valid source.columns 0) ∙ ap is_some p in not_both (line_at run source.valid 0) z (line_first run source.valid))
    key_came (suc t) row p = sym (row_at-value run (suc t) source.columns column here at_here) ∙ ap (key_in column) (row_is run source.valid source.columns (suc t) row p)

    last_key : (t : ℕ) (row : Row) → (carried run late).tuple t ≡ Some row → held_at 0 run last t ≡ key_in column row
    last_key zero row p = absurd (let z = delayed.before 0 (omega arith) in cc (z, p))
    last_key (suc t) row p =
        let e : t + 1 ≡ suc t = omega arith in
        comes t (sym (some_line run late.valid late.columns (suc t)) ∙ ap is_some p)
        ∙ key_came t row (sym (delayed.tuples t) ∙ ap (carried run late).tuple e ∙ p)

    looking : IsLooking run source column (record { late = late; asking = asking })
    looking = record {
      delayed = delayed;
      asked = record { ask = on_late; comes = comes; stays = stays };
      free = f.line run r;
      last = last_key;
    }

  pub looking_is : IsLookingIn n0 n3 source column (record { late = late; asking = asking })
  looking_is = record {
    keeps = all;
    cost = record {
      nodes = omega (arith, l.cost.nodes, h.cost.nodes, f.cost.nodes);
      registers = omega (arith, l.cost.registers, h.cost.registers, f.cost.registers, width_there source.columns column here at_here);
      memories = omega (arith, l.cost.memories, h.cost.memories, f.cost.memories);
    };
    late = wire_kept n1 n3 late after_last l.wire;
    same_widths = l.same_widths;
    asking = record {
      free = f.bit;
      ask = bit_kept n1 n3 late.valid after_last l.wire.valid;
      last = bus_kept n2 n3 last f.keeps h.bus;
      come = bit_kept n0 n3 source.valid all is_source.valid;
      here = bus_kept n0 n3 here all (is_source.columns.each column here at_here);
      same_width = sym h.width;
    };
    same_line = refl;
    last_width = h.width ∙ width_there source.columns column here at_here;
    law = looking;
  }
