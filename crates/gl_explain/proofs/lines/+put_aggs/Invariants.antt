use Rattle.std.proofs.Common.{length}
use Rattle.gl_explain.proofs.lines.+put_aggs.Given as goal

abbrev pub decreases-put_aggs : goal.decreases-put_aggs
decreases-put_aggs l = length l.aggs.now
