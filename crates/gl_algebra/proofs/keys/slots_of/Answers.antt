use Rattle.std.proofs.Common.{◌≡◌, ◌≤◌, ◌<◌, ◌^◌, arith}
use Rattle.std.proofs.Math.Nat.{pow-le-pow_right}
use Rattle.gl_algebra.specs.Rings.{least_exponent, ring}
use Rattle.gl_algebra.proofs.ExponentLemmas.{few_exponents}
use Rattle.gl_algebra.proofs.keys.slots_of.Goals as goal

pub returns-clause-most : goal.returns-clause-most
unfolding ring
returns-clause-most c =
    let fits : c.args.groups ≤ 2 ^ 16 = omega arith in
    let few : least_exponent c.args.groups 1 c.args.groups ≤ 16 =
    few_exponents 16 c.args.groups 1 c.args.groups (omega arith) fits in
    let two : 0 < 2 = omega arith in
    let within : 2 ^ least_exponent c.args.groups 1 c.args.groups ≤ 2 ^ 16 = pow-le-pow_right two few in
    let value : c.ring.result ≡ 2 ^ least_exponent c.args.groups 1 c.args.groups = c.ring.ensures.value in
    omega (arith, value, within)
