use Rattle.std.proofs.Common.{ℕ, ◌≤◌, ◌^◌, sym, subst, arith}
use Rattle.gl_algebra.proofs.ExponentLemmas.{exponent_covers}
use Rattle.gl_wire_registers.proofs.widths.bits_below.Goals as goal

pub returns-clause-enough : goal.returns-clause-enough
returns-clause-enough c =
    subst (λ (n : ℕ). c.args.count ≤ 2 ^ n) (sym c.least_exponent.ensures.value) (exponent_covers c.args.count 1 c.args.count (omega arith))
