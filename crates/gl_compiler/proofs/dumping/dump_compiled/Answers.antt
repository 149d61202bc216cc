use Rattle.std.proofs.Common.{sym, subst}
use Rattle.std.specs.Prelude.{List, ◌≤◌, length}
use Rattle.std.specs.List.{AllByRecursion}
use Rattle.gl_values.specs.declared.kind.Kind.{Kind}
use Rattle.gl_values.specs.Kinds.{IsKind}
use Rattle.gl_schema.specs.declared.schema.Schema.{Schema}
use Rattle.gl_schema.specs.Beats.{AreBeats}
use Rattle.gl_schema.specs.Schemas.{IsSchema}
use Rattle.gl_tuples.specs.Gaps.{plain_beats}
use Rattle.gl_runner.specs.Dumps.{HasFewPorts}
use Rattle.gl_compiler.proofs.Dumpable.{dumpable}
use Rattle.gl_compiler.proofs.Runs.{can_run_compiled, dumped_compiled}
use Rattle.gl_compiler.proofs.dumping.dump_compiled.Goals as goal

pub dump-requires-clause-schema : goal.dump-requires-clause-schema
dump-requires-clause-schema g c = subst IsSchema (sym c.schema.ensures) c.requires.compiled.fine

pub dump-requires-clause-beats : goal.dump-requires-clause-beats
dump-requires-clause-beats g c = subst (λ (s : Schema). AreBeats s (plain_beats c.args.beats.now)) (sym c.schema.ensures) c.requires.beats

pub dump-requires-clause-many : goal.dump-requires-clause-many
dump-requires-clause-many g c = subst (λ (ks : List Kind). length ks ≤ 32) (sym c.kinds.ensures) c.requires.compiled.many

pub dump-requires-clause-kinds : goal.dump-requires-clause-kinds
dump-requires-clause-kinds g c = subst (AllByRecursion IsKind) (sym c.kinds.ensures) c.requires.compiled.kinds

pub dump-requires-clause-runs : goal.dump-requires-clause-runs
dump-requires-clause-runs g c =
    can_run_compiled c.accepted_have_real_columns.ensures c.args.compiled.now (plain_beats c.args.beats.now) c.text.result.now c.schema.result.now c.kinds.result.now c.printed.result c.args.start c.requires.compiled c.requires.beats c.requires.gaps c.text.ensures c.schema.ensures c.kinds.ensures c.printed.ensures

pub dump-requires-clause-few : goal.dump-requires-clause-few
dump-requires-clause-few g c =
    let q = c.args.compiled.now in
    subst HasFewPorts (sym c.text.ensures) (λ m has. (dumpable c.accepted_have_real_columns.ensures c.one_module.ensures q m c.requires.compiled has).few)

pub returns : goal.returns
returns g c =
    dumped_compiled c.args.compiled.now (plain_beats c.args.beats.now) c.text.result.now c.schema.result.now c.args.start _ _ c.dump.result c.text.ensures c.schema.ensures c.dump.ensures
