-- A choice between two lines is a line.
use Rattle.std.proofs.Common.{◌≡◌, ℕ, zero, suc, List, Some, Bool, true, false, refl, ap, ◌∙◌}
use Rattle.std.specs.Prelude.{slice_get, if◌then◌else◌, nat_eq}
use Rattle.gl_bits.specs.Words.{choose_of}
use Rattle.gl_net.specs.declared.node.Bit.{Bit}
use Rattle.gl_net.specs.Net.{Net, Run, IsRun, IsBit, Keeps}
use Rattle.gl_wire.specs.Costs.{Costs, nodes_alone}
use Rattle.gl_wire.specs.Wire.{line_at}
use Rattle.gl_wire.proofs.GateLemmas.{choose_line}
use Rattle.gl_wire_registers.specs.Lines.{AddsLine}
use Rattle.gl_wire_registers.proofs.LineLemmas.{line_of-get}
use Rattle.gl_slots.specs.Choices.{chosen, chosen_to}

pub chosen_line : (old new : Net) (test left right b : Bit) → Keeps old new → Costs old new (nodes_alone 1) → IsBit new b
    → ((run : Run) → IsRun new run → (t : ℕ) → run.at t b.node ≡ choose_of (run.at t test.node) (run.at t left.node) (run.at t right.node)) → AddsLine old new 1 b (chosen test left right)
unfolding line_at chosen
chosen_line old new test left right b keeps cost is value = record { keeps = keeps; bit = is; cost = cost; line = line }
  where
    by : (q : Bool) (y n : ℕ) → nat_eq (if q then y else n) 1 ≡ (if q then nat_eq y 1 else nat_eq n 1)
    by true y n = refl
    by false y n = refl

    line : (run : Run) → IsRun new run → (t : ℕ) → line_at run b t ≡ chosen test left right run t
    line run r zero = refl
    line run r (suc t) =
        ap (λ v. nat_eq v 1) (value run r (suc t) ∙ choose_line run test (run.at (suc t) left.node) (run.at (suc t) right.node) t) ∙ by (line_at run test (suc t)) (run.at (suc t) left.node) (run.at (suc t) right.node)

pub chosen_here : (run : Run) (test x y : Bit) (xs ys : List Bit) (i t : ℕ) → slice_get xs i ≡ Some x → slice_get ys i ≡ Some y → chosen test x y run t ≡ chosen_to test xs ys run i t
unfolding chosen chosen_to
chosen_here run test x y xs ys i t h k = let a = line_of-get run xs i x t h in let b = line_of-get run ys i y t k in rw (a, b) refl
