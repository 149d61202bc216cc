use Rattle.std.proofs.Common.{sym, subst}
use Rattle.gl_gaps.specs.declared.Gaps.{Gaps}
use Rattle.gl_gaps.specs.Keeps.{KeepsGaps}
use Rattle.gl_tuples.specs.Gaps.{plain_beats}
use Rattle.gl_verilog.specs.declared.start.Start.{Start}
use Rattle.gl_top.specs.Verdicts.{OfResult, RanLines}
use Rattle.gl_top.proofs.Runs.{runnable_of}
use Rattle.gl_top.proofs.writing.LinesRuns.write.Goals as goal

pub run_compiled-requires-clause-compiled : goal.run_compiled-requires-clause-compiled
run_compiled-requires-clause-compiled g c = runnable_of c.args.self.now.job.compiled c.requires.passes.1.compiled

pub run_compiled-requires-clause-beats : goal.run_compiled-requires-clause-beats
run_compiled-requires-clause-beats g c = c.requires.passes.1.passes.fine.beats'

pub run_compiled-requires-clause-gaps : goal.run_compiled-requires-clause-gaps
run_compiled-requires-clause-gaps g c =
    let job = c.args.self.now.job in
    subst (λ (n : Gaps). KeepsGaps n (plain_beats job.beats)) (sym c.requires.passes.1.compiled.gaps) c.requires.passes.1.passes.gaps

pub returns : goal.returns
returns g c = λ told ready.
    let job = c.args.self.now.job in
    let q = job.compiled in
    let of_start : Start → Type 0 = λ start. RanLines q.schema q.statement job.beats start q.text.items (g.K.Sink.state c.args.out.now) (g.K.Sink.state c.run_compiled.new.out) c.run_compiled.result in
    OfResult c.requires.wants q.schema q.statement job.beats (record { passes = ready.passes; meets = ready.compiled.meets }) (subst of_start c.start.ensures c.run_compiled.ensures)
