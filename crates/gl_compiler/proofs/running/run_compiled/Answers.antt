use Rattle.std.proofs.Common.{sym, subst}
use Rattle.std.specs.Prelude.{List, ◌≤◌, length}
use Rattle.std.specs.List.{AllByRecursion}
use Rattle.gl_values.specs.declared.kind.Kind.{Kind}
use Rattle.gl_values.specs.Kinds.{IsKind}
use Rattle.gl_schema.specs.declared.schema.Schema.{Schema}
use Rattle.gl_schema.specs.Beats.{AreBeats}
use Rattle.gl_schema.specs.Schemas.{IsSchema}
use Rattle.gl_tuples.specs.Gaps.{plain_beats}
use Rattle.gl_compiler.proofs.Runs.{can_run_compiled, ran_compiled}
use Rattle.gl_compiler.proofs.running.run_compiled.Goals as goal

pub execute-requires-clause-schema : goal.execute-requires-clause-schema
execute-requires-clause-schema g c = subst IsSchema (sym c.schema.ensures) c.requires.compiled.fine

pub execute-requires-clause-beats : goal.execute-requires-clause-beats
execute-requires-clause-beats g c = subst (λ (s : Schema). AreBeats s (plain_beats c.args.beats.now)) (sym c.schema.ensures) c.requires.beats

pub execute-requires-clause-many : goal.execute-requires-clause-many
execute-requires-clause-many g c = subst (λ (ks : List Kind). length ks ≤ 32) (sym c.kinds.ensures) c.requires.compiled.many

pub execute-requires-clause-kinds : goal.execute-requires-clause-kinds
execute-requires-clause-kinds g c = subst (AllByRecursion IsKind) (sym c.kinds.ensures) c.requires.compiled.kinds

pub execute-requires-clause-runs : goal.execute-requires-clause-runs
execute-requires-clause-runs g c =
    can_run_compiled c.accepted_have_real_columns.ensures c.args.compiled.now (plain_beats c.args.beats.now) c.text.result.now c.schema.result.now c.kinds.result.now c.printed.result c.args.start c.requires.compiled c.requires.beats c.requires.gaps c.text.ensures c.schema.ensures c.kinds.ensures c.printed.ensures

pub returns : goal.returns
returns g c =
    ran_compiled c.args.compiled.now (plain_beats c.args.beats.now) c.text.result.now c.schema.result.now c.kinds.result.now c.args.start _ _ c.execute.result c.requires.compiled c.text.ensures c.schema.ensures c.kinds.ensures c.execute.ensures
