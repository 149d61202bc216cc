use Rattle.std.proofs.Common.{◌≡◌, take, map}
use Rattle.gl_algebra.specs.Columns.{kind_of_agg}
use Rattle.gl_algebra.proofs.columns.columns_of_aggs.Given as goal

abbrev pub invariant-loop-agg : goal.invariant-loop-agg
invariant-loop-agg l = l.all.items ≡ map (kind_of_agg l.kinds) (take l.agg-index l.aggs)
