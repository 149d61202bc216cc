use Rattle.std.proofs.lemmas.Option.{slice_get_within}
use Rattle.gl_algebra.specs.declared.node.PlanNode.TheVariants.{Partition}
use Rattle.gl_wiring.proofs.PartitionLemmas.{in_body, partitioning_is, some_step}
use Rattle.gl_wiring.proofs.partitions.PartitionOf.partitioning.Goals as goal

pub figures_at-requires : goal.figures_at-requires
figures_at-requires c =
    let p = c.args.self.now in
    slice_get_within c.args.site.plan.now p.id (Partition p.source p.body p.key p.groups p.size p.advance) c.requires.node

pub figures_at-body-requires : goal.figures_at-body-requires
figures_at-body-requires c = in_body c.laws_below.ensures c.args.site.plan.now c.args.self.now c.args.site.planned c.requires.node

pub copies_of_window-copies-requires : goal.copies_of_window-copies-requires
copies_of_window-copies-requires c = some_step c.laws_below.ensures c.args.site.plan.now c.args.self.now c.args.site.planned c.requires.node

pub returns-clause-is : goal.returns-clause-is
returns-clause-is c =
    rw (c.figures_at-body.ensures.value, c.copies_of_window-copies.ensures, c.from.ensures, c.from-2.ensures) (partitioning_is c.laws_below.ensures c.args.site.plan.now c.args.self.now c.args.site.planned c.requires.node
    (rw c.figures_at.ensures.value at c.figures_at.ensures.small))
