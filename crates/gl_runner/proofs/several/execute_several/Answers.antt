use Rattle.std.proofs.Common.{◌∙◌, subst, sym}
use Rattle.std.specs.List.{AllByRecursion, AllZip}
use Rattle.gl_tuples.specs.Gaps.{plain_beats}
use Rattle.gl_verilog.specs.Module.{Module}
use Rattle.gl_verilog.specs.Run.{port_of}
use Rattle.gl_verilog.specs.View.{module_of}
use Rattle.gl_runner.specs.Cycles.{design_of}
use Rattle.gl_runner.specs.Faces.{HasFace}
use Rattle.gl_runner.specs.Naming.{ServesFace, StandsNamed}
use Rattle.gl_runner.proofs.Named.{serves_new, stands_new}
use Rattle.gl_runner.proofs.NamedRuns.{ran_all}
use Rattle.gl_runner.proofs.several.execute_several.Goals as goal

pub follow-requires-clause-serves : goal.follow-requires-clause-serves
follow-requires-clause-serves g c =
    let m = module_of c.args.design in
    let w = c.in-Ok.lines in
    subst (λ (x : Module). AllZip (ServesFace x) w.faces.now w.results.items) (sym c.in-Ok-new.ensures.design')
    (serves_new m w.faces.now w.results.items (subst (AllByRecursion (HasFace m)) (sym c.in-Ok.ensures.faces') c.requires.faces) c.in-Ok.ensures.new')

pub follow-requires-clause-stands : goal.follow-requires-clause-stands
follow-requires-clause-stands g c = λ value word before.
    let w = c.in-Ok.lines in
    stands_new (module_of c.args.design) w.last (port_of (design_of c.in-Ok-new.drive) value) w.faces.now w.results.items c.in-Ok.ensures.new'

pub returns : goal.returns
returns g c =
    let w = c.in-Ok.lines in
    let old = g.K.Sink.state c.args.out.now in
    let new = g.K.Sink.state c.follow.new.out in
    rw c.outcome_of.ensures
    (ran_all (module_of c.args.design) c.args.task.schema.now (plain_beats c.args.task.beats.now) c.args.task.start c.args.task.extra w.last c.args.faces.now w.faces.now
    (λ x port n. AllZip (StandsNamed c.follow.new.watch.last port n) c.follow.new.watch.faces.now c.follow.new.watch.results.items) c.in-Ok-new.drive old new c.follow.result
    c.in-Ok-new.ensures (c.in-Ok.ensures.last' ∙ c.last_of.ensures.cycle) c.in-Ok.ensures.faces' c.follow.ensures)
