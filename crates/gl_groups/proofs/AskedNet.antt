-- The key that is looked for follows the rows of a wire and of the same one cycle later.
use Rattle.std.proofs.Common.{◌≡◌, ℕ, zero, suc, Some, Bool, true, false, sym, ap, ◌∙◌}
use Rattle.std.specs.Prelude.{slice_get, slice_index, if◌then◌else◌}
use Rattle.gl_net.specs.declared.node.Bus.{Bus}
use Rattle.gl_net.specs.Net.{Run}
use Rattle.gl_wire.specs.declared.wire.Wire.{Wire}
use Rattle.gl_wire.specs.Wire.{line_at, row_at}
use Rattle.gl_wire.proofs.ColumnLemmas.{row_at-value}
use Rattle.gl_wire_registers.specs.Held.{held_at}
use Rattle.gl_slots.specs.declared.parts.Flush.{Flush}
use Rattle.gl_groups.specs.Finding.{IsAsked}
use Rattle.gl_groups.specs.Lanes.{IsLate}
use Rattle.gl_groups.proofs.LaneRun.{asking_of}

pub asked_is : (run : Run) (source late : Wire) (key : ℕ) (f : Flush) (last here : Bus) → slice_get late.columns key ≡ Some last → slice_get source.columns key ≡ Some here → IsLate run source late
    → IsAsked run (asking_of source late f last here)
unfolding line_at held_at
asked_is run source late key f last here at_last at_here is = record { ask = is.valid; comes = comes; stays = stays }
  where
    last_is : (t : ℕ) → run.at (suc t) last.node ≡ slice_index (row_at run (suc t) late.columns) key
    last_is t = sym (row_at-value run (suc t) late.columns key last at_last)

    comes : (t : ℕ) → line_at run late.valid (suc t) ≡ true → held_at 0 run last (suc t) ≡ held_at 0 run here t
    comes zero e = absurd (let z = is.valid 0 in cc (z, e))
    comes (suc t) e =
        last_is (suc t) ∙ ap (λ row. slice_index row key) (is.row t)
        ∙ ap (λ (b : Bool). slice_index (if b then row_at run (suc t) source.columns else row_at run (suc t) late.columns) key) (sym (is.valid (suc t)) ∙ e)
        ∙ row_at-value run (suc t) source.columns key here at_here

    stays : (t : ℕ) → line_at run late.valid (suc (suc t)) ≡ false → held_at 0 run last (suc (suc t)) ≡ held_at 0 run last (suc t)
    stays t e =
        last_is (suc t) ∙ ap (λ row. slice_index row key) (is.row t)
        ∙ ap (λ (b : Bool). slice_index (if b then row_at run (suc t) source.columns else row_at run (suc t) late.columns) key) (sym (is.valid (suc t)) ∙ e)
        ∙ sym (last_is t)
