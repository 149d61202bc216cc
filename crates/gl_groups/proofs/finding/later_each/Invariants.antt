use Rattle.gl_groups.specs.Finding.{AddsLater}
use Rattle.gl_groups.proofs.finding.later_each.Given as goal

abbrev pub invariant-loop-line : goal.invariant-loop-line
invariant-loop-line l = AddsLater l.initial.net l.net l.lines l.line-index l.all
