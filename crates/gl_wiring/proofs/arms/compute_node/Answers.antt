use Rattle.std.proofs.Common.{[], refl}
use Rattle.gl_algebra.specs.declared.node.PlanNode.TheVariants.{Compute}
use Rattle.gl_wiring.proofs.AboveLemmas.{compute_once}
use Rattle.gl_wiring.proofs.CanLemmas.{first_within}
use Rattle.gl_wiring.proofs.RowLemmas.{compute_put}
use Rattle.gl_wiring.proofs.TableLemmas.{is_there, taken_gives, taken_once}
use Rattle.gl_wiring.proofs.arms.compute_node.Goals as goal

pub circuit_at-requires : goal.circuit_at-requires
circuit_at-requires c = is_there c.requires.there

pub put_compute-requires-clause-wire : goal.put_compute-requires-clause-wire
put_compute-requires-clause-wire c = (taken_gives c.requires.there c.in_ok-below.ensures).wire

pub put_compute-requires-clause-kinds : goal.put_compute-requires-clause-kinds
put_compute-requires-clause-kinds c = rw c.kinds.ensures.kinds (taken_gives c.requires.there c.in_ok-below.ensures).same_widths

pub kinds-requires : goal.kinds-requires
kinds-requires c = first_within c.args.site.plan.now c.args.id (Compute c.args.child c.args.ops.now) c.args.site.planned c.requires.node c.args.child [] refl

pub put_compute-requires-clause-ops : goal.put_compute-requires-clause-ops
put_compute-requires-clause-ops c = rw (c.kinds.ensures.kinds, c.as_slice.ensures) ((c.args.site.planned.fits c.args.id _ c.requires.node).suits)

pub put_compute-requires-clause-words : goal.put_compute-requires-clause-words
put_compute-requires-clause-words c = c.requires.words.held

pub put_compute-requires-clause-known : goal.put_compute-requires-clause-known
put_compute-requires-clause-known c = rw c.as_slice.ensures (c.requires.words.known.each c.args.id _ c.requires.node)

pub returns-clause-put : goal.returns-clause-put
returns-clause-put c =
    compute_put c.laws_below.ensures c.args.site.plan.now c.args.id c.args.net.now c.put_compute.new.net c.args.site.tick c.args.site.leaves.now c.in_ok-below.below c.in_ok-e.e c.args.site.planned
    c.args.child c.args.ops.now c.requires.node (taken_gives c.requires.there c.in_ok-below.ensures)
    (rw (c.kinds.ensures.kinds, c.as_slice.ensures) at c.in_ok-e.ensures)

pub returns-clause-once : goal.returns-clause-once
returns-clause-once c =
    compute_once c.laws_below.ensures c.args.site.plan.now c.args.id c.args.net.now c.put_compute.new.net c.args.site.tick c.args.site.leaves.now c.in_ok-below.below c.in_ok-e.e c.args.site.planned
    c.args.child c.args.ops.now c.requires.node (taken_once c.requires.there c.in_ok-below.ensures)
    (rw (c.kinds.ensures.kinds, c.as_slice.ensures) at c.in_ok-e.ensures)
