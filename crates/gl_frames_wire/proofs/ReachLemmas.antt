-- Exponents: none is below the first that is tried, and none is above one that is enough.
use Rattle.std.proofs.Common.{ℕ, zero, suc, ◌^◌, ◌≤◌, Bool, true, false, arith}
use Rattle.std.specs.Prelude.{nat_le, if◌then◌else◌}
pub use Rattle.gl_algebra.proofs.ExponentLemmas.{few_exponents}
use Rattle.gl_algebra.specs.Cost.{least_exponent}

pub from_exponent : (more exponent depth : ℕ) → exponent ≤ least_exponent more exponent depth
from_exponent zero e depth = omega arith
from_exponent (suc more) e depth = by (nat_le depth (2 ^ e)) (from_exponent more (suc e) depth)
  where
    by : (b : Bool) → suc e ≤ least_exponent more (suc e) depth → e ≤ (if b then e else least_exponent more (suc e) depth)
    by true rest = omega arith
    by false rest = omega (arith, rest)
