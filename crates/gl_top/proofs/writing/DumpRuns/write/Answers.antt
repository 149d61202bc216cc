use Rattle.std.proofs.Common.{sym, subst}
use Rattle.gl_gaps.specs.declared.Gaps.{Gaps}
use Rattle.gl_gaps.specs.Keeps.{KeepsGaps}
use Rattle.gl_tuples.specs.Gaps.{plain_beats}
use Rattle.gl_verilog.specs.declared.start.Start.{Start}
use Rattle.gl_compiler.specs.Built.{gaps_of, latency_of}
use Rattle.gl_top_forms.specs.Forms.{start_of}
use Rattle.gl_top.specs.Verdicts.{DumpedRun, OfPorts}
use Rattle.gl_top.proofs.Runs.{runnable_of}
use Rattle.gl_top.proofs.writing.DumpRuns.write.Goals as goal

pub dump_compiled-requires-clause-compiled : goal.dump_compiled-requires-clause-compiled
dump_compiled-requires-clause-compiled g c = runnable_of c.args.self.now.job.compiled c.requires.passes.1.compiled

pub dump_compiled-requires-clause-beats : goal.dump_compiled-requires-clause-beats
dump_compiled-requires-clause-beats g c = c.requires.passes.1.passes.fine.beats'

pub dump_compiled-requires-clause-gaps : goal.dump_compiled-requires-clause-gaps
dump_compiled-requires-clause-gaps g c =
    let job = c.args.self.now.job in
    subst (λ (n : Gaps). KeepsGaps n (plain_beats job.beats)) (sym c.requires.passes.1.compiled.gaps) c.requires.passes.1.passes.gaps

pub returns : goal.returns
returns g c = λ told ready.
    let job = c.args.self.now.job in
    let q = job.compiled in
    let of_start : Start → Type 0 = λ start. DumpedRun q.schema job.beats start q.text.items (g.K.Sink.state c.args.out.now) (g.K.Sink.state c.dump_compiled.new.out) c.dump_compiled.result in
    let fine = ready.passes.fine.beats' in
    let tells = c.dumps_tell.ensures q.schema q.statement (latency_of q.schema q.statement) (gaps_of q.schema q.statement) q.text.items (plain_beats job.beats) (start_of c.args.words.now) ready.compiled.fine ready.compiled.meets fine ready.passes.gaps in
    OfPorts c.requires.wants q.schema q.statement job.beats (record { passes = ready.passes; meets = ready.compiled.meets }) (subst of_start c.start.ensures c.dump_compiled.ensures) tells
