use Rattle.gl_tuples.specs.Gaps.{plain_beats}
use Rattle.gl_many.proofs.Each.{can_drive, have_faces, ran_all}
use Rattle.gl_many.proofs.executing.execute_many.Goals as goal

pub read_known_module-requires : goal.read_known_module-requires
read_known_module-requires g c = (c.requires.design, c.requires.has)

pub execute_several-requires-clause-can : goal.execute_several-requires-clause-can
execute_several-requires-clause-can g c =
    can_drive c.args.text.now c.args.task.schema.now c.args.faces.now (plain_beats c.args.task.beats.now) c.args.task.extra c.args.task.start c.in-Ok.design (c.one_module.ensures c.args.text.now) c.requires c.in-Ok.ensures

pub execute_several-requires-clause-faces : goal.execute_several-requires-clause-faces
execute_several-requires-clause-faces g c =
    have_faces c.args.text.now c.args.task.schema.now c.args.faces.now (plain_beats c.args.task.beats.now) c.args.task.extra c.args.task.start c.in-Ok.design (c.one_module.ensures c.args.text.now) c.requires c.in-Ok.ensures

pub execute_several-requires-clause-short : goal.execute_several-requires-clause-short
execute_several-requires-clause-short g c = c.requires.short

pub returns : goal.returns
returns g c =
    ran_all c.args.text.now c.args.task.schema.now c.args.faces.now (plain_beats c.args.task.beats.now) c.args.task.extra c.args.task.start c.in-Ok.design (c.one_module.ensures c.args.text.now) c.requires c.in-Ok.ensures
    (g.K.Sink.state c.args.out.now) (g.K.Sink.state c.execute_several.new.out) c.execute_several.result c.execute_several.ensures
