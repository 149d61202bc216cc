use Rattle.std.proofs.Common.{arith}
use Rattle.std.proofs.lemmas.Option.{slice_get_within}
use Rattle.gl_algebra.specs.declared.node.PlanNode.TheVariants.{Group}
use Rattle.gl_wiring.proofs.groups.GroupOf.at.Goals as goal

pub node-requires : goal.node-requires
node-requires c =
    let w = c.requires.0 in
    omega (arith, c.requires.1, slice_get_within c.args.plan.now w.id (Group w.source w.body w.key w.groups) c.requires.2)

pub unreachable-requires : goal.unreachable-requires
unreachable-requires c =
    let w = c.requires.0 in
    c.in_default.not-Group w.source w.body w.key w.groups (cc (c.node.ensures.node, c.requires.1, c.requires.2))
