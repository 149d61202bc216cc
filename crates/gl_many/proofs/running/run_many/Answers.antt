use Rattle.std.proofs.Common.{List, ap, ◌∙◌}
use Rattle.gl_schema.specs.declared.schema.Schema.{Schema}
use Rattle.gl_query_check.specs.declared.checking.Checked.{Checked}
use Rattle.gl_tuples.specs.Gaps.{plain_beats}
use Rattle.gl_plan.specs.declared.several.PlannedSeveral.{PlannedSeveral}
use Rattle.gl_plan.specs.Together.{statements_of}
use Rattle.gl_many.specs.Runs.{faces_of, greatest}
use Rattle.gl_many.proofs.Runs.{can_run_many, ran_many}
use Rattle.gl_many.proofs.running.run_many.Goals as goal

pub execute_many-requires : goal.execute_many-requires
execute_many-requires g c =
    let m = c.args.many.now in
    let faces = c.as_slice.ensures.value ∙ c.in-Ok.ensures ∙ ap (λ (x : Schema). faces_of x (statements_of c.statements.result.now)) c.schema-schema.ensures ∙ ap (λ (x : List Checked). faces_of m.schema (statements_of x)) c.statements.ensures in
    let latency = c.longest-latency.ensures ∙ ap greatest c.deref.ensures.value ∙ ap (λ (x : PlannedSeveral). greatest x.latencies.items) c.planned.ensures in
    can_run_many c.accepted_have_real_columns.ensures c.inputs_are_ports.ensures m (plain_beats c.args.beats.now) c.text.result.now c.schema-schema.result.now c.as_slice.result.now c.longest-latency.result c.args.start c.requires.many c.requires.beats c.requires.gaps c.text.ensures c.schema-schema.ensures faces latency

pub returns : goal.returns
returns g c =
    let m = c.args.many.now in
    let faces = c.as_slice.ensures.value ∙ c.in-Ok.ensures ∙ ap (λ (x : Schema). faces_of x (statements_of c.statements.result.now)) c.schema-schema.ensures ∙ ap (λ (x : List Checked). faces_of m.schema (statements_of x)) c.statements.ensures in
    ran_many m (plain_beats c.args.beats.now) c.text.result.now c.schema-schema.result.now c.as_slice.result.now c.args.start (g.K.Sink.state c.args.out.now) (g.K.Sink.state c.execute_many.new.out) c.execute_many.result c.text.ensures c.schema-schema.ensures faces c.execute_many.ensures
