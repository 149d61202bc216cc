use Rattle.std.proofs.Common.{[], refl}
use Rattle.gl_algebra.specs.declared.node.PlanNode.TheVariants.{Project}
use Rattle.gl_wiring.proofs.CanLemmas.{first_within}
use Rattle.gl_wiring.proofs.LaneRowLemmas.{project_rows}
use Rattle.gl_wiring.proofs.rows.project_rows.Goals as goal

pub kinds-requires : goal.kinds-requires
kinds-requires c = first_within c.args.site.plan.now c.args.id (Project c.args.child c.args.items.now) c.args.site.planned c.requires.node c.args.child [] refl

pub put_project-requires-clause-items : goal.put_project-requires-clause-items
put_project-requires-clause-items c = rw (c.kinds.ensures.kinds, c.as_slice.ensures) ((c.args.site.planned.fits c.args.id _ c.requires.node).suits)

pub put_project-requires-clause-words : goal.put_project-requires-clause-words
put_project-requires-clause-words c = c.requires.words.held

pub put_project-requires-clause-known : goal.put_project-requires-clause-known
put_project-requires-clause-known c = rw c.as_slice.ensures (c.requires.words.known.each c.args.id _ c.requires.node)

pub returns : goal.returns
returns c = λ old lane place h.
    project_rows c.laws_below.ensures c.args.site.plan.now c.args.id old c.args.net.now c.args.net.now c.put_project.new.net lane place c.args.below.place c.args.below c.in_ok-rows.rows
    c.args.site.planned c.args.child c.args.items.now c.requires.node h
    (rw (c.kinds.ensures.kinds, c.as_slice.ensures) at c.in_ok-rows.ensures)
