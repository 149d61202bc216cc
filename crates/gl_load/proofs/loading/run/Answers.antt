use Rattle.std.proofs.Common.{ap, sym, subst}
use Rattle.gl_gaps.specs.declared.Gaps.{Gaps}
use Rattle.gl_schema.specs.declared.schema.Schema.{Schema}
use Rattle.gl_schema.specs.Schemas.{kinds_of}
use Rattle.gl_schema.specs.Beats.{AreBeats}
use Rattle.gl_gaps.specs.Keeps.{KeepsGaps}
use Rattle.gl_tuples.specs.Gaps.{plain_beats}
use Rattle.gl_verilog.specs.declared.start.Start.TheVariants.{Zero}
use Rattle.gl_compiler.specs.Meets.{result_columns}
use Rattle.gl_runner.specs.declared.executing.Outcome.{Outcome}
use Rattle.gl_runner.specs.Prints.{OfEachRun, Ran}
use Rattle.gl_compiler.proofs.Runs.{runnable}
use Rattle.gl_load.specs.Query.{query_text, schema_text}
use Rattle.gl_load.specs.Steps.{AreRunLines, Kept, kept_state}
use Rattle.gl_load.proofs.Running.{ran_load, where_ended}
use Rattle.gl_load.proofs.loading.run.Goals as goal

pub run_compiled-outcome-requires-clause-compiled : goal.run_compiled-outcome-requires-clause-compiled
run_compiled-outcome-requires-clause-compiled c = runnable c.accepted_have_real_columns.ensures schema_text query_text c.args.compiled.now c.requires.compiled.made

pub run_compiled-outcome-requires-clause-beats : goal.run_compiled-outcome-requires-clause-beats
run_compiled-outcome-requires-clause-beats c = subst (λ (s : Schema). AreBeats s (plain_beats c.args.beats.now)) (sym c.requires.compiled.schema) c.requires.beats

pub run_compiled-outcome-requires-clause-gaps : goal.run_compiled-outcome-requires-clause-gaps
run_compiled-outcome-requires-clause-gaps c = subst (λ (g : Gaps). KeepsGaps g (plain_beats c.args.beats.now)) (sym c.requires.compiled.gaps) c.requires.gaps

pub returns : goal.returns
returns c =
    let q = c.args.compiled.now in
    let beats = plain_beats c.args.beats.now in
    let sink = c.run_compiled-outcome.new.out in
    where_ended (λ sink. AreRunLines q beats sink.bytes) c.ended.result sink c.ended.ensures.done c.ended.ensures.same
    (λ e. ran_load q beats c.empty-sink.result sink c.requires.compiled (ap (λ (s : Kept). s.bytes) c.empty-sink.ensures)
    (subst (λ (o : Outcome). Ran (OfEachRun q.text.items q.schema beats Zero) (kinds_of (result_columns q.schema q.statement)) beats (kept_state c.empty-sink.result) (kept_state sink) o) e c.run_compiled-outcome.ensures))
