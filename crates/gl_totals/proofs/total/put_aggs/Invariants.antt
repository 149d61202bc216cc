use Rattle.std.proofs.Common.{take}
use Rattle.gl_totals.specs.Totals.{AreAggsOf}
use Rattle.gl_totals.proofs.total.put_aggs.Given as goal

abbrev pub invariant-loop-agg : goal.invariant-loop-agg
invariant-loop-agg l = AreAggsOf l.initial.net l.net l.cycles l.stream (take l.agg-index l.aggs) l.all
