use Rattle.std.proofs.Common.{arith}
use Rattle.gl_wiring.proofs.site.small_figures.Goals as goal

pub returns-clause-small : goal.returns-clause-small
returns-clause-small c = record {
  a = omega arith;
  lt = omega arith;
  le = omega arith;
  nt = omega arith;
  ne = omega arith;
  gt = omega arith;
  ge = omega arith;
}
