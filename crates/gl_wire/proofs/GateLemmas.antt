-- What gates give for lines, in each cycle, the reset cycle included.
use Rattle.std.proofs.Common.{◌≡◌, ℕ, zero, suc, ◌<◌, Some, false, refl, ap, ◌∙◌, arith}
use Rattle.std.specs.Prelude.{nat_eq, not, ◌&&◌, ◌||◌, bit_and, bit_or, if◌then◌else◌}
use Rattle.gl_bits.proofs.Bools.{bit_is}
use Rattle.gl_bits.specs.Words.{choose_of, eq_of, lt_of}
use Rattle.gl_net.specs.declared.node.Bus.{Bus}
use Rattle.gl_net.specs.declared.node.Bit.{Bit}
use Rattle.gl_net.specs.Net.{Net, Run, IsRun, IsBit, IsBus, Keeps, Value, shape_in}
use Rattle.gl_net.proofs.Values.{bit_fits}
use Rattle.gl_wire.specs.Wire.{line_at}
use Rattle.gl_wire.specs.Costs.{Costs, nodes_alone}
use Rattle.gl_wire.specs.Gates.{IsGate, IsSame, same_at}

and_bits : (x y : ℕ) → x < 2 → y < 2 → nat_eq (bit_and x y) 1 ≡ (nat_eq x 1 && nat_eq y 1)
and_bits zero zero hx hy = refl
and_bits zero (suc zero) hx hy = refl
and_bits (suc zero) zero hx hy = refl
and_bits (suc zero) (suc zero) hx hy = refl
and_bits (suc (suc x)) y hx hy = absurd (omega arith)
and_bits x (suc (suc y)) hx hy = absurd (omega arith)

or_bits : (x y : ℕ) → x < 2 → y < 2 → nat_eq (bit_or x y) 1 ≡ (nat_eq x 1 || nat_eq y 1)
or_bits zero zero hx hy = refl
or_bits zero (suc zero) hx hy = refl
or_bits (suc zero) zero hx hy = refl
or_bits (suc zero) (suc zero) hx hy = refl
or_bits (suc (suc x)) y hx hy = absurd (omega arith)
or_bits x (suc (suc y)) hx hy = absurd (omega arith)

less_bits : (x y : ℕ) → x < 2 → y < 2 → nat_eq (lt_of y x) 1 ≡ (nat_eq x 1 && not (nat_eq y 1))
unfolding lt_of
less_bits zero zero hx hy = refl
less_bits zero (suc zero) hx hy = refl
less_bits (suc zero) zero hx hy = refl
less_bits (suc zero) (suc zero) hx hy = refl
less_bits (suc (suc x)) y hx hy = absurd (omega arith)
less_bits x (suc (suc y)) hx hy = absurd (omega arith)

equal_bits : (x y : ℕ) → nat_eq (eq_of x y) 1 ≡ nat_eq x y
unfolding eq_of
equal_bits x y = bit_is (nat_eq x y)

-- a choice by a line
pub choose_line : (run : Run) (line : Bit) (y n t : ℕ) → choose_of (run.at (suc t) line.node) y n ≡ (if line_at run line (suc t) then y else n)
unfolding choose_of line_at
choose_line run line y n t = refl

-- a line that carries 0 is never 1
pub never_line : (run : Run) (b : Bit) → ((t : ℕ) → run.at t b.node ≡ 0) → (t : ℕ) → line_at run b t ≡ false
unfolding line_at
never_line run b h zero = refl
never_line run b h (suc t) = ap (λ v. nat_eq v 1) (h (suc t))

module _ (run : Run) (x y b : Bit) where
  both_line : ((t : ℕ) → run.at t b.node ≡ bit_and (run.at t x.node) (run.at t y.node)) → ((t : ℕ) → run.at t x.node < 2) → ((t : ℕ) → run.at t y.node < 2) → (t : ℕ) → line_at run b t ≡ (line_at run x t && line_at run y t)
  unfolding line_at
  both_line h hx hy zero = refl
  both_line h hx hy (suc t) = ap (λ v. nat_eq v 1) (h (suc t)) ∙ and_bits (run.at (suc t) x.node) (run.at (suc t) y.node) (hx (suc t)) (hy (suc t))

  either_line : ((t : ℕ) → run.at t b.node ≡ bit_or (run.at t x.node) (run.at t y.node)) → ((t : ℕ) → run.at t x.node < 2) → ((t : ℕ) → run.at t y.node < 2) → (t : ℕ) → line_at run b t ≡ (line_at run x t || line_at run y t)
  unfolding line_at
  either_line h hx hy zero = refl
  either_line h hx hy (suc t) = ap (λ v. nat_eq v 1) (h (suc t)) ∙ or_bits (run.at (suc t) x.node) (run.at (suc t) y.node) (hx (suc t)) (hy (suc t))

  but_not_line : ((t : ℕ) → run.at t b.node ≡ lt_of (run.at t y.node) (run.at t x.node)) → ((t : ℕ) → run.at t x.node < 2) → ((t : ℕ) → run.at t y.node < 2) → (t : ℕ) → line_at run b t ≡ (line_at run x t && not (line_at run y t))
  unfolding line_at
  but_not_line h hx hy zero = refl
  but_not_line h hx hy (suc t) = ap (λ v. nat_eq v 1) (h (suc t)) ∙ less_bits (run.at (suc t) x.node) (run.at (suc t) y.node) (hx (suc t)) (hy (suc t))

same_line : (run : Run) (b : Bit) (x y : Bus) → ((t : ℕ) → run.at t b.node ≡ eq_of (run.at t x.node) (run.at t y.node)) → (t : ℕ) → line_at run b t ≡ same_at run x y t
unfolding line_at
same_line run b x y h zero = refl
same_line run b x y h (suc t) = ap (λ v. nat_eq v 1) (h (suc t)) ∙ equal_bits (run.at (suc t) x.node) (run.at (suc t) y.node)

-- a bus of one bit, as a line
pub bit_of : (net : Net) (v : Bus) (b : Bit) → IsBus net v → v.width ≡ 1 → b.node ≡ v.node → IsBit net b
bit_of net v b is width node = record { there = ap (shape_in net.nodes) node ∙ is.there ∙ ap (λ (w : ℕ). Some (Value w)) width }

module _ (old new : Net) (x y b : Bit) (hx : IsBit old x) (hy : IsBit old y) (keeps : Keeps old new) (cost : Costs old new (nodes_alone 1)) (is : IsBit new b) where
  pub both_is : ((run : Run) → IsRun new run → (t : ℕ) → run.at t b.node ≡ bit_and (run.at t x.node) (run.at t y.node)) → IsGate old new (λ p q. p && q) x y b
  both_is value = record { keeps = keeps; cost = cost; bit = is; line = line }
    where
      line : (run : Run) → IsRun new run → (t : ℕ) → line_at run b t ≡ (line_at run x t && line_at run y t)
      line run r t = both_line run x y b (value run r) (bit_fits old x run hx (keeps.runs run r)) (bit_fits old y run hy (keeps.runs run r)) t

  pub either_is : ((run : Run) → IsRun new run → (t : ℕ) → run.at t b.node ≡ bit_or (run.at t x.node) (run.at t y.node)) → IsGate old new (λ p q. p || q) x y b
  either_is value = record { keeps = keeps; cost = cost; bit = is; line = line }
    where
      line : (run : Run) → IsRun new run → (t : ℕ) → line_at run b t ≡ (line_at run x t || line_at run y t)
      line run r t = either_line run x y b (value run r) (bit_fits old x run hx (keeps.runs run r)) (bit_fits old y run hy (keeps.runs run r)) t

  pub but_not_is : ((run : Run) → IsRun new run → (t : ℕ) → run.at t b.node ≡ lt_of (run.at t y.node) (run.at t x.node)) → IsGate old new (λ p q. p && not q) x y b
  but_not_is value = record { keeps = keeps; cost = cost; bit = is; line = line }
    where
      line : (run : Run) → IsRun new run → (t : ℕ) → line_at run b t ≡ (line_at run x t && not (line_at run y t))
      line run r t = but_not_line run x y b (value run r) (bit_fits old x run hx (keeps.runs run r)) (bit_fits old y run hy (keeps.runs run r)) t

pub same_is : (old new : Net) (x y : Bus) (b : Bit) → Keeps old new → Costs old new (nodes_alone 1) → IsBit new b → ((run : Run) → IsRun new run → (t : ℕ) → run.at t b.node ≡ eq_of (run.at t x.node) (run.at t y.node)) → IsSame old new x y b
same_is old new x y b keeps cost is value = record { keeps = keeps; cost = cost; bit = is; line = λ run r. same_line run b x y (value run r) }
