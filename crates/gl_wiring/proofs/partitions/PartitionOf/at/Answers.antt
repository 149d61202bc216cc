use Rattle.std.proofs.Common.{arith}
use Rattle.std.proofs.lemmas.Option.{slice_get_within}
use Rattle.gl_algebra.specs.declared.node.PlanNode.TheVariants.{Partition}
use Rattle.gl_wiring.proofs.partitions.PartitionOf.at.Goals as goal

pub node-requires : goal.node-requires
node-requires c =
    let w = c.requires.0 in
    omega (arith, c.requires.1, slice_get_within c.args.plan.now w.id (Partition w.source w.body w.key w.groups w.size w.advance) c.requires.2)

pub unreachable-requires : goal.unreachable-requires
unreachable-requires c =
    let w = c.requires.0 in
    c.in_default.not-Partition w.source w.body w.key w.groups w.size w.advance (cc (c.node.ensures.node, c.requires.1, c.requires.2))
