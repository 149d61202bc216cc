use Rattle.std.proofs.Common.{sym, subst}
use Rattle.gl_schema.specs.Beats.{Beats, AreBeats}
use Rattle.gl_gaps.specs.Keeps.{KeepsGaps, even_gaps}
use Rattle.gl_load.specs.Query.{load_schema}
use Rattle.gl_load.specs.Steps.{AreRunLines}
use Rattle.gl_load.proofs.Beating.{are_beats, keep_gaps}
use Rattle.gl_load.proofs.Running.{loaded}
use Rattle.gl_load.proofs.loading.load.Goals as goal

pub run-requires-clause-beats : goal.run-requires-clause-beats
run-requires-clause-beats c = subst (AreBeats load_schema) (sym c.in_ok-beats.ensures) (are_beats c.args.count c.requires.some)

pub run-requires-clause-gaps : goal.run-requires-clause-gaps
run-requires-clause-gaps c = subst (KeepsGaps (even_gaps 1)) (sym c.in_ok-beats.ensures) (keep_gaps c.args.count)

pub returns : goal.returns
returns c = loaded c.laws_below.ensures c.args.count c.in_ok-compiled.compiled c.bytes.result.now c.in_ok-lines.lines.bytes c.in_ok-summary.summary.items
    c.requires.some (c.one_module.ensures c.in_ok-compiled.compiled.text.items) c.in_ok-compiled.ensures
    (subst (λ (beats : Beats). AreRunLines c.in_ok-compiled.compiled beats c.in_ok-lines.lines.bytes) c.in_ok-beats.ensures c.in_ok-lines.ensures)
    c.bytes.ensures c.in_ok-summary.ensures
