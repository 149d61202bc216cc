use Rattle.std.proofs.Common.{List, sym, subst}
use Rattle.gl_values.specs.declared.kind.Kind.{Kind}
use Rattle.gl_tuples.specs.Gaps.{plain_beats}
use Rattle.gl_verilog.specs.Module.{Module}
use Rattle.gl_verilog.specs.Run.{port_of}
use Rattle.gl_verilog.specs.View.{module_of}
use Rattle.gl_runner.specs.Cycles.{OfDriven, design_of}
use Rattle.gl_runner.specs.Probes.{IsProbe, plain_names}
use Rattle.gl_runner.specs.Traces.{Traced}
use Rattle.gl_runner.specs.Watches.{StandsTold}
use Rattle.gl_runner.proofs.Each.{traced_of, traced_started}
use Rattle.gl_runner.proofs.Making.{can_drive}
use Rattle.gl_runner.proofs.Probing.{probe_plain}
use Rattle.gl_runner.proofs.Running.{told_first}
use Rattle.gl_runner.proofs.following.follow_module.Goals as goal

pub new-requires-2-clause-can : goal.new-requires-2-clause-can
new-requires-2-clause-can g c =
    let t = c.args.task in
    can_drive (module_of c.args.design) t.schema.now c.args.kinds.now (plain_beats t.beats.now) c.requires.can

pub follow-requires-clause-serves : goal.follow-requires-clause-serves
follow-requires-clause-serves g c =
    let t = c.args.task in
    let w = c.in-Ok.lines in
    subst (λ (m : Module). IsProbe m (plain_names m) w.kinds.now w.shows w.row) (sym c.in-Ok-new.ensures.design')
    (probe_plain (module_of c.args.design) t.schema.now c.args.kinds.now (plain_beats t.beats.now) c.args.shows w c.requires.can c.requires.shows c.requires.many c.requires.kinds c.in-Ok.ensures)

pub follow-requires-clause-stands : goal.follow-requires-clause-stands
follow-requires-clause-stands g c = λ value word before.
    let w = c.in-Ok.lines in
    told_first w.told w.ended (design_of c.in-Ok-new.drive) (port_of (design_of c.in-Ok-new.drive) value) c.in-Ok.ensures.told'

pub returns : goal.returns
returns g c =
    let t = c.args.task in
    let d = c.in-Ok-new.drive in
    let old = g.K.Sink.state c.args.out.now in
    let new = g.K.Sink.state c.follow.new.out in
    let traced = traced_of d (StandsTold c.follow.new.watch.told c.follow.new.watch.ended) c.in-Ok.lines.kinds.now d.beats d.extra old new c.follow.result c.follow.ensures in
    traced_started (module_of c.args.design) t.schema.now c.args.kinds.now (plain_beats t.beats.now) t.start t.extra d
    old new c.follow.result c.in-Ok-new.ensures
    (subst (λ (k : List Kind). Traced (OfDriven d) k d.beats d.extra old new c.follow.result) c.in-Ok.ensures.kinds' traced)
