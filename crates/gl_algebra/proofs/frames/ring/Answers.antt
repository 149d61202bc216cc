use Rattle.std.proofs.Common.{◌≤◌, ◌<◌, ◌^◌, arith}
use Rattle.std.proofs.Math.Nat.{pow-le-pow_right}
use Rattle.gl_algebra.proofs.frames.ring.Goals as goal

pub returns-clause-most : goal.returns-clause-most
returns-clause-most c =
    let two : 0 < 2 = omega arith in
    let within : 2 ^ c.least_exponent.result ≤ 2 ^ 40 = pow-le-pow_right two c.least_exponent.ensures.most in
    omega (arith, within)
