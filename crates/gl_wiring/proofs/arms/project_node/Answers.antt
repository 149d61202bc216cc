use Rattle.std.proofs.Common.{[], refl}
use Rattle.gl_algebra.specs.declared.node.PlanNode.TheVariants.{Project}
use Rattle.gl_wiring.proofs.AboveLemmas.{project_once}
use Rattle.gl_wiring.proofs.CanLemmas.{first_within}
use Rattle.gl_wiring.proofs.RowLemmas.{project_put}
use Rattle.gl_wiring.proofs.TableLemmas.{is_there, taken_gives, taken_once}
use Rattle.gl_wiring.proofs.arms.project_node.Goals as goal

pub circuit_at-requires : goal.circuit_at-requires
circuit_at-requires c = is_there c.requires.there

pub put_project-requires-clause-wire : goal.put_project-requires-clause-wire
put_project-requires-clause-wire c = (taken_gives c.requires.there c.in_ok-below.ensures).wire

pub put_project-requires-clause-kinds : goal.put_project-requires-clause-kinds
put_project-requires-clause-kinds c = rw c.kinds.ensures.kinds (taken_gives c.requires.there c.in_ok-below.ensures).same_widths

pub kinds-requires : goal.kinds-requires
kinds-requires c = first_within c.args.site.plan.now c.args.id (Project c.args.child c.args.items.now) c.args.site.planned c.requires.node c.args.child [] refl

pub put_project-requires-clause-items : goal.put_project-requires-clause-items
put_project-requires-clause-items c = rw (c.kinds.ensures.kinds, c.as_slice.ensures) ((c.args.site.planned.fits c.args.id _ c.requires.node).suits)

pub put_project-requires-clause-words : goal.put_project-requires-clause-words
put_project-requires-clause-words c = c.requires.words.held

pub put_project-requires-clause-known : goal.put_project-requires-clause-known
put_project-requires-clause-known c = rw c.as_slice.ensures (c.requires.words.known.each c.args.id _ c.requires.node)

pub returns-clause-put : goal.returns-clause-put
returns-clause-put c =
    project_put c.laws_below.ensures c.args.site.plan.now c.args.id c.args.net.now c.put_project.new.net c.args.site.tick c.args.site.leaves.now c.in_ok-below.below c.in_ok-e.e c.args.site.planned
    c.args.child c.args.items.now c.requires.node (taken_gives c.requires.there c.in_ok-below.ensures)
    (rw (c.kinds.ensures.kinds, c.as_slice.ensures) at c.in_ok-e.ensures)

pub returns-clause-once : goal.returns-clause-once
returns-clause-once c =
    project_once c.laws_below.ensures c.args.site.plan.now c.args.id c.args.net.now c.put_project.new.net c.args.site.tick c.args.site.leaves.now c.in_ok-below.below c.in_ok-e.e c.args.site.planned
    c.args.child c.args.items.now c.requires.node (taken_once c.requires.there c.in_ok-below.ensures)
    (rw (c.kinds.ensures.kinds, c.as_slice.ensures) at c.in_ok-e.ensures)
