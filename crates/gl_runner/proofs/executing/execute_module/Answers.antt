use Rattle.gl_tuples.specs.Gaps.{plain_beats}
use Rattle.gl_verilog.specs.View.{module_of}
use Rattle.gl_runner.proofs.Each.{ran_timely}
use Rattle.gl_runner.proofs.executing.execute_module.Goals as goal

pub follow_module-requires-clause-can : goal.follow_module-requires-clause-can
follow_module-requires-clause-can g c = c.requires.can

pub follow_module-requires-clause-shows : goal.follow_module-requires-clause-shows
follow_module-requires-clause-shows g c = c.in-Ok.ensures

pub follow_module-requires-clause-many : goal.follow_module-requires-clause-many
follow_module-requires-clause-many g c = c.requires.many

pub follow_module-requires-clause-kinds : goal.follow_module-requires-clause-kinds
follow_module-requires-clause-kinds g c = c.requires.kinds

pub follow_module-requires-clause-short : goal.follow_module-requires-clause-short
follow_module-requires-clause-short g c = c.requires.short

pub returns : goal.returns
returns g c =
    let m = module_of c.args.design in
    let t = c.args.task in
    let old = g.K.Sink.state c.args.out.now in
    let new = g.K.Sink.state c.follow_module.new.out in
    rw c.outcome_of.ensures
    (ran_timely m t.schema.now c.args.kinds.now (plain_beats t.beats.now) t.extra t.start old new c.follow_module.result
    c.follow_module.ensures)
