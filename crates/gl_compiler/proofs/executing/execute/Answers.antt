use Rattle.gl_tuples.specs.Gaps.{plain_beats}
use Rattle.gl_verilog.specs.View.{module_of}
use Rattle.gl_compiler.proofs.Each.{can_follow, ran_each}
use Rattle.gl_compiler.proofs.executing.execute.Goals as goal

pub read_known_module-requires : goal.read_known_module-requires
read_known_module-requires g c = (c.requires.runs.design, c.requires.runs.has)

pub execute_module-requires-clause-can : goal.execute_module-requires-clause-can
execute_module-requires-clause-can g c = can_follow c.args.text.now c.args.run.schema.now c.args.run.kinds.now (plain_beats c.args.run.beats.now) c.args.run.latency c.args.run.start c.in-Ok.design (c.one_module.ensures c.args.text.now) (c.inputs_are_ports.ensures c.args.text.now (module_of c.in-Ok.design) c.in-Ok.ensures)
    c.requires.runs c.in-Ok.ensures c.requires.beats

pub execute_module-requires-clause-many : goal.execute_module-requires-clause-many
execute_module-requires-clause-many g c = c.requires.many

pub execute_module-requires-clause-kinds : goal.execute_module-requires-clause-kinds
execute_module-requires-clause-kinds g c = c.requires.kinds

pub execute_module-requires-clause-short : goal.execute_module-requires-clause-short
execute_module-requires-clause-short g c = c.requires.runs.short

pub returns : goal.returns
returns g c =
    ran_each c.args.text.now c.args.run.schema.now c.args.run.kinds.now (plain_beats c.args.run.beats.now) c.args.run.latency c.args.run.start c.in-Ok.design
    (g.K.Sink.state c.args.out.now) (g.K.Sink.state c.execute_module.new.out) c.execute_module.result (c.one_module.ensures c.args.text.now) c.requires.runs c.in-Ok.ensures c.execute_module.ensures
