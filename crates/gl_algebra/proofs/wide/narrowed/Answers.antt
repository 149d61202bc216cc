use Rattle.std.proofs.Common.{sym, arith}
use Rattle.gl_algebra.specs.Wides.{plain}
use Rattle.gl_algebra.proofs.SmallLemmas.{small-some, small-none}
use Rattle.gl_algebra.proofs.wide.narrowed.Goals as goal

pub returns-then-max-gt4294967295 : goal.returns-then-max-gt4294967295
returns-then-max-gt4294967295 c = sym (small-none (plain c.args.wide) (λ small. omega arith))

pub returns : goal.returns
returns c = sym (small-some (plain c.args.wide) (record {
  a = omega arith;
  lt = omega arith;
  le = omega arith;
  nt = omega arith;
  ne = omega arith;
  gt = omega arith;
  ge = omega arith;
}))
