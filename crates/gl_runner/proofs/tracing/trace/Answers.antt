use Rattle.std.proofs.Common.{◌≡◌, ◌∙◌, ◌≤◌, List, length, sym, subst}
use Rattle.std.specs.List.{AllByRecursion}
use Rattle.gl_values.specs.declared.kind.Kind.{Kind}
use Rattle.gl_values.specs.Kinds.{IsKind}
use Rattle.gl_tuples.specs.Gaps.{plain_beats}
use Rattle.gl_verilog.specs.View.{module_of}
use Rattle.gl_verilog_ports.proofs.Fits.{fits, numbered}
use Rattle.gl_runner.specs.Cycles.{CanFollow}
use Rattle.gl_runner.specs.Traces.{OfRunsOf, Traced, decimal_kinds}
use Rattle.gl_runner.proofs.Each.{run_there}
use Rattle.gl_runner.proofs.Decimals.{can_trace, decimals_are_kinds, decimals_many}
use Rattle.gl_runner.proofs.tracing.trace.Goals as goal

pub shows_at-requires-clause-valid : goal.shows_at-requires-clause-valid
shows_at-requires-clause-valid g c = (numbered (module_of c.args.design) c.args.task.schema.now c.args.ports.now c.requires.fits).valid

pub shows_at-requires-clause-end : goal.shows_at-requires-clause-end
shows_at-requires-clause-end g c = (numbered (module_of c.args.design) c.args.task.schema.now c.args.ports.now c.requires.fits).end

pub shows_at-requires-clause-group : goal.shows_at-requires-clause-group
shows_at-requires-clause-group g c = (numbered (module_of c.args.design) c.args.task.schema.now c.args.ports.now c.requires.fits).group

pub follow_module-requires-clause-can : goal.follow_module-requires-clause-can
follow_module-requires-clause-can g c =
    let m = module_of c.args.design in
    let schema = c.args.task.schema.now in
    let kinds : c.deref.result.now ≡ decimal_kinds m = c.deref.ensures.value ∙ c.in-Ok.ensures in
    subst (λ (k : List Kind). CanFollow m schema k (plain_beats c.args.task.beats.now)) (sym kinds)
    (can_trace m schema (plain_beats c.args.task.beats.now) c.requires.valid c.requires.inputs (fits m schema c.args.ports.now c.requires.valid.names c.requires.inputs c.requires.fits) c.requires.beats)

pub follow_module-requires-clause-many : goal.follow_module-requires-clause-many
follow_module-requires-clause-many g c =
    let m = module_of c.args.design in
    let schema = c.args.task.schema.now in
    let kinds : c.deref.result.now ≡ decimal_kinds m = c.deref.ensures.value ∙ c.in-Ok.ensures in
    subst (λ (k : List Kind). length k ≤ 32) (sym kinds) (decimals_many m schema (fits m schema c.args.ports.now c.requires.valid.names c.requires.inputs c.requires.fits))

pub follow_module-requires-clause-kinds : goal.follow_module-requires-clause-kinds
follow_module-requires-clause-kinds g c =
    let m = module_of c.args.design in
    let schema = c.args.task.schema.now in
    let kinds : c.deref.result.now ≡ decimal_kinds m = c.deref.ensures.value ∙ c.in-Ok.ensures in
    subst (λ (k : List Kind). AllByRecursion IsKind k) (sym kinds) (decimals_are_kinds m schema c.requires.valid (fits m schema c.args.ports.now c.requires.valid.names c.requires.inputs c.requires.fits))

pub returns-clause-lines : goal.returns-clause-lines
returns-clause-lines g c =
    let m = module_of c.args.design in
    let schema = c.args.task.schema.now in
    let start = c.args.task.start in
    let old = g.K.Sink.state c.args.out.now in
    let new = g.K.Sink.state c.follow_module.new.out in
    let end' = c.follow_module.result in
    let kinds : c.deref.result.now ≡ decimal_kinds m = c.deref.ensures.value ∙ c.in-Ok.ensures in
    let beats = plain_beats c.args.task.beats.now in
    subst (λ (k : List Kind). Traced (OfRunsOf m schema beats start) k beats c.args.task.extra old new end') kinds c.follow_module.ensures

pub returns-in_default-clause-run : goal.returns-in_default-clause-run
returns-in_default-clause-run g c =
    let m = module_of c.args.design in
    let schema = c.args.task.schema.now in
    run_there m schema c.args.ports.now (plain_beats c.args.task.beats.now) c.args.task.start (c.has_runs_over.ensures.started m schema c.requires.valid c.requires.schema) c.requires.fits c.requires.beats

pub returns-in_default-shows_at-clause-run : goal.returns-in_default-shows_at-clause-run
returns-in_default-shows_at-clause-run g c =
    let m = module_of c.args.design in
    let schema = c.args.task.schema.now in
    run_there m schema c.args.ports.now (plain_beats c.args.task.beats.now) c.args.task.start (c.has_runs_over.ensures.started m schema c.requires.valid c.requires.schema) c.requires.fits c.requires.beats

pub returns-clause-run : goal.returns-clause-run
returns-clause-run g c =
    let m = module_of c.args.design in
    let schema = c.args.task.schema.now in
    run_there m schema c.args.ports.now (plain_beats c.args.task.beats.now) c.args.task.start (c.has_runs_over.ensures.started m schema c.requires.valid c.requires.schema) c.requires.fits c.requires.beats
