use Rattle.std.proofs.Common.{[], None, refl}
use Rattle.gl_algebra.specs.declared.node.PlanNode.TheVariants.{Frames}
use Rattle.gl_wiring.proofs.CanLemmas.{first_within}
use Rattle.gl_wiring.proofs.RowLemmas.{frames_put}
use Rattle.gl_wiring.proofs.TableLemmas.{is_there, taken_gives}
use Rattle.gl_wiring.proofs.arms.frames_node.Goals as goal

pub circuit_at-requires : goal.circuit_at-requires
circuit_at-requires c = is_there c.requires.there

pub put_frames-requires-clause-wire : goal.put_frames-requires-clause-wire
put_frames-requires-clause-wire c = (taken_gives c.requires.there c.in_ok-below.ensures).wire

pub put_frames-requires-clause-kinds : goal.put_frames-requires-clause-kinds
put_frames-requires-clause-kinds c = rw c.kinds.ensures.kinds (taken_gives c.requires.there c.in_ok-below.ensures).same_widths

pub kinds-requires : goal.kinds-requires
kinds-requires c = first_within c.args.site.plan.now c.args.id (Frames c.args.child None c.args.items.now) c.args.site.planned c.requires.node c.args.child [] refl

pub put_frames-requires-clause-are_kinds : goal.put_frames-requires-clause-are_kinds
put_frames-requires-clause-are_kinds c =
    rw c.kinds.ensures.kinds (c.laws_below.ensures.columns_have_kinds c.args.site.plan.now c.args.child c.args.site.planned
    (first_within c.args.site.plan.now c.args.id (Frames c.args.child None c.args.items.now) c.args.site.planned c.requires.node c.args.child [] refl))

pub put_frames-requires-clause-items : goal.put_frames-requires-clause-items
put_frames-requires-clause-items c = rw (c.kinds.ensures.kinds, c.as_slice.ensures) (c.args.site.planned.fits c.args.id (Frames c.args.child None c.args.items.now) c.requires.node).suits.0

pub put_frames-requires-clause-words : goal.put_frames-requires-clause-words
put_frames-requires-clause-words c = c.requires.words.held

pub put_frames-requires-clause-known : goal.put_frames-requires-clause-known
put_frames-requires-clause-known c = rw c.as_slice.ensures (c.requires.words.known.each c.args.id _ c.requires.node)

pub returns : goal.returns
returns c =
    frames_put c.laws_below.ensures c.args.site.plan.now c.args.id c.args.net.now c.put_frames.new.net c.args.site.tick c.args.site.leaves.now c.in_ok-below.below c.in_ok-e.e c.args.site.planned
    c.args.child c.args.items.now c.requires.node (taken_gives c.requires.there c.in_ok-below.ensures)
    (rw (c.kinds.ensures.kinds, c.as_slice.ensures) at c.in_ok-e.ensures)
