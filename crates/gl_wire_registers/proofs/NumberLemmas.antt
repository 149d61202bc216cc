-- What lines that test a number give, in each cycle, the reset cycle included.
use Rattle.std.proofs.Common.{◌≡◌, ℕ, zero, suc, true, ap, ◌∙◌}
use Rattle.std.specs.Prelude.{nat_eq, ◌&&◌}
use Rattle.gl_bits.specs.Words.{eq_of}
use Rattle.gl_bits.proofs.Bools.{bit_is}
use Rattle.gl_net.specs.declared.node.Bus.{Bus}
use Rattle.gl_net.specs.declared.node.Bit.{Bit}
use Rattle.gl_net.specs.Net.{Run}
use Rattle.gl_wire.specs.Wire.{line_at}
use Rattle.gl_wire_registers.specs.Held.{held_at}

pub equal_line : (run : Run) (x s b : Bit) (v : Bus) (n reset : ℕ) → ((t : ℕ) → run.at t s.node ≡ eq_of (run.at t v.node) n) → ((t : ℕ) → line_at run b t ≡ (line_at run x t && line_at run s t))
    → (t : ℕ) → line_at run b t ≡ (line_at run x t && nat_eq (held_at reset run v t) n)
unfolding line_at held_at eq_of
equal_line run x s b v n reset same h zero = h zero
equal_line run x s b v n reset same h (suc t) = h (suc t) ∙ ap (λ q. line_at run x (suc t) && q) (ap (λ q. nat_eq q 1) (same (suc t)) ∙ bit_is (nat_eq (run.at (suc t) v.node) n))

pub same_line : (run : Run) (b : Bit) (x n t : ℕ) → run.at (suc t) b.node ≡ eq_of x n → line_at run b (suc t) ≡ nat_eq x n
unfolding line_at eq_of
same_line run b x n t h = ap (λ v. nat_eq v 1) h ∙ bit_is (nat_eq x n)

pub always_line : (run : Run) (b : Bit) → ((t : ℕ) → run.at t b.node ≡ 1) → (t : ℕ) → line_at run b (suc t) ≡ true
unfolding line_at
always_line run b h t = ap (λ v. nat_eq v 1) (h (suc t))
