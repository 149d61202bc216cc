-- Rows at the root in a netlist.
use Rattle.std.proofs.Common.{◌≡◌, ℕ, zero, suc, ◌<◌, ◌≤◌, ◌^◌, Some, Bool, true, false, refl, sym, ap, ◌∙◌}
use Rattle.std.specs.Prelude.{◌*◌, not, ◌&&◌, ◌||◌, is_some, slice_get, slice_index}
use Rattle.gl_values.specs.Results.{Row}
use Rattle.gl_net.specs.declared.node.Bit.{Bit}
use Rattle.gl_net.specs.declared.node.Bus.{Bus}
use Rattle.gl_net.specs.Net.{Run}
use Rattle.gl_wire.specs.declared.wire.Wire.{Wire}
use Rattle.gl_wire.specs.Wire.{carried, line_at, wire_of}
use Rattle.gl_wire.proofs.ColumnLemmas.{row_at-value}
use Rattle.gl_wire.proofs.StageLemmas.{delayed_none, line_first}
use Rattle.gl_wire_registers.specs.Held.{held_at}
use Rattle.gl_frames_lanes.specs.LaneNets.{key_in}
use Rattle.gl_frames_lanes.specs.declared.lane.Keys.{Keys}
use Rattle.gl_frames_lanes.proofs.LaneNet.{row_is, some_line}
use Rattle.gl_frames_tree.specs.declared.level.Climb.{Climb}
use Rattle.gl_frames_tree.specs.Growing.{Leads, Numbers}
use Rattle.gl_frames_tree.specs.TreeNets.{IsClimb, name_before, rows_at_level}
use Rattle.gl_frames_tree.proofs.PartLemmas.{none_above}
use Rattle.gl_frames_tree.proofs.RootLemmas.{root_numbered}

module _ (run : Run) (keys : Keys) (source : Wire) (rest : ℕ) (node here : Bus) (fresh begun lost : Bit) (some : 1 ≤ keys.groups)
    (at_here : slice_get source.columns keys.column ≡ Some here) (narrow : here.width ≤ 2 * rest) (small : (t : ℕ) → run.at t here.node < 2 ^ here.width)
    (node_is : (t : ℕ) → run.at t node.node ≡ 0) (fresh_is : (t : ℕ) → line_at run fresh t ≡ (line_at run source.valid t && not (line_at run begun t)))
    (begun_is : (t : ℕ) → line_at run begun (suc t) ≡ ((line_at run source.valid t && not (line_at run source.eos t)) || (line_at run begun t && not (line_at run source.eos t))))
    (lost_is : (t : ℕ) → line_at run lost t ≡ false) where
  abbrev climb : Climb
  climb = record { wire = wire_of source.valid source.eos source.columns; node = node; next = node; fresh = fresh; lost = lost }

  number_is : (t : ℕ) → held_at 0 run node t ≡ 0
  unfolding held_at
  number_is zero = refl
  number_is (suc t) = node_is (suc t)

  numbered : Numbers keys.groups (rows_at_level run (line_at run source.valid) (λ c. 0) climb)
  numbered =
      let root = root_numbered keys.groups some (line_at run source.valid) (line_at run source.eos) (line_at run begun) (line_first run begun) begun_is in
      record {
        valid = root.valid;
        fresh = λ c. fresh_is c ∙ root.fresh c;
        number = λ c e. ap (slice_get _) (number_is c) ∙ root.number c e;
      }

  came : (t : ℕ) → is_some ((carried run source).tuple t) ≡ line_at run source.valid t
  came t = some_line run source.valid source.columns t

  name_is : (t : ℕ) (row : Row) → (carried run source).tuple t ≡ Some row → 0 ≡ name_before rest (key_in keys.column row)
  name_is zero row p = absurd (let z = sym (came 0) ∙ ap is_some p in let none = line_first run source.valid in cc (z, none))
  name_is (suc t) row p =
      let value : run.at (suc t) here.node ≡ key_in keys.column row =
      sym (row_at-value run (suc t) source.columns keys.column here at_here) ∙ ap (λ xs. slice_index xs keys.column) (row_is run source.valid source.columns (suc t) row p) in
      sym (none_above (run.at (suc t) here.node) here.width (2 * rest) (small (suc t)) narrow) ∙ ap (name_before rest) value

  leads : Leads keys.groups (key_in keys.column) (carried run source) (name_before rest) (rows_at_level run (line_at run source.valid) (λ c. 0) climb)
  leads = record {
    none = λ c p. sym (came c) ∙ ap is_some p;
    name = λ c r p e. name_is c r p;
    ends = λ c. refl;
    kept = λ c r p e. sym (came c) ∙ ap is_some p;
  }

  no_lost : (t : ℕ) → line_at run lost t ≡ (is_some ((carried run source).tuple t) && not (line_at run source.valid t))
  no_lost t = lost_is t ∙ by (line_at run source.valid t) ∙ ap (λ (b : Bool). b && not (line_at run source.valid t)) (sym (came t))
    where
      by : (b : Bool) → false ≡ (b && not b)
      by true = refl
      by false = refl

  pub root_is : IsClimb 0 rest run keys source climb
  root_is = record {
    late = carried run source;
    behind = delayed_none (carried run source);
    asks = line_at run source.valid;
    name = λ c. 0;
    quiet = line_first run source.valid;
    numbered = numbered;
    leads = leads;
    rows = λ t row p e. row_is run source.valid source.columns t row p;
    lost = no_lost;
    next = λ t e f. node_is (suc t) ∙ sym (node_is (suc (suc t)));
  }
