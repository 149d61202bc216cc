use Rattle.std.proofs.Common.{◌≡◌, sym, subst}
use Rattle.gl_gaps.specs.declared.Gaps.{Gaps}
use Rattle.gl_gaps.specs.Keeps.{KeepsGaps, gaps_with}
use Rattle.gl_tuples.specs.Gaps.{plain_beats}
use Rattle.gl_many.specs.Compiles.{planned_gaps, statements_in}
use Rattle.gl_many.specs.Meets.{shared_gaps}
use Rattle.gl_verilog.specs.declared.start.Start.{Start}
use Rattle.gl_top.specs.Verdicts.{OfNamedLines, RanLinesOfAll}
use Rattle.gl_top.proofs.Runs.{runnable_together}
use Rattle.gl_top.proofs.writing.NamedLinesRuns.write.Goals as goal

pub run_many-requires-clause-many : goal.run_many-requires-clause-many
run_many-requires-clause-many g c = runnable_together c.args.self.now.job.many c.requires.passes.1.compiled

pub run_many-requires-clause-beats : goal.run_many-requires-clause-beats
run_many-requires-clause-beats g c = c.requires.passes.1.passes.fine.beats'

pub run_many-requires-clause-gaps : goal.run_many-requires-clause-gaps
run_many-requires-clause-gaps g c =
    let job = c.args.self.now.job in
    let is = c.requires.passes.1.compiled in
    let gaps : planned_gaps job.many ≡ shared_gaps job.many.schema (statements_in job.many) = λ i. gaps_with (is.gap i) (is.ticks i) in
    subst (λ (n : Gaps). KeepsGaps n (plain_beats job.beats)) (sym gaps) c.requires.passes.1.passes.gaps

pub returns : goal.returns
returns g c = λ told ready.
    let job = c.args.self.now.job in
    let m = job.many in
    let of_start : Start → Type 0 = λ start. RanLinesOfAll m.schema (statements_in m) job.beats start m.text.items (g.K.Sink.state c.args.out.now) (g.K.Sink.state c.run_many.new.out) c.run_many.result in
    OfNamedLines c.requires.wants m.schema (statements_in m) job.beats (record { passes = ready.passes; meets = ready.compiled.meets }) (subst of_start c.start.ensures c.run_many.ensures)
