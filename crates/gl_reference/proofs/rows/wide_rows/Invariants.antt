use Rattle.std.proofs.Common.{◌≡◌, take}
use Rattle.gl_query.specs.Results.{widened}
use Rattle.gl_reference.proofs.rows.wide_rows.Given as goal

abbrev pub invariant-loop-row : goal.invariant-loop-row
invariant-loop-row l = l.out ≡ widened l.words (take l.row-index l.rows)
