-- The costs of the operators of rows against what a plan counts.
use Rattle.std.proofs.Common.{arith}
use Rattle.gl_wire.proofs.CountLemmas.{narrow_kinds, narrow_sum}
use Rattle.gl_rows.specs.Counted.{ComputesAreCounted, KindsAreNarrow, ProjectsAreCounted, SelectsAreCounted}

pub kinds_are_narrow : KindsAreNarrow
kinds_are_narrow = narrow_kinds

pub computes_are_counted : ComputesAreCounted
computes_are_counted shapes figures child ops columns h = record {
  nodes = omega arith;
  registers = omega (arith, narrow_sum columns h);
  memories = omega arith;
}

pub selects_are_counted : SelectsAreCounted
selects_are_counted shapes figures child column columns h = record {
  nodes = omega arith;
  registers = omega (arith, narrow_sum columns h);
  memories = omega arith;
}

pub projects_are_counted : ProjectsAreCounted
projects_are_counted shapes figures child items columns = record {
  nodes = omega arith;
  registers = omega arith;
  memories = omega arith;
}
