use Rattle.std.proofs.Common.{[], Some, refl}
use Rattle.gl_algebra.specs.declared.node.PlanNode.TheVariants.{Frames}
use Rattle.gl_wire.proofs.FaultLemmas.{line_kept}
use Rattle.gl_wiring.proofs.CanLemmas.{first_within}
use Rattle.gl_wiring.proofs.PartedNode.{key_frames_put}
use Rattle.gl_wiring.proofs.TableLemmas.{is_there, taken_gives}
use Rattle.gl_wiring.proofs.parted.key_frames_node.Goals as goal

pub circuit_at-requires : goal.circuit_at-requires
circuit_at-requires c = is_there c.requires.there

pub kinds-requires : goal.kinds-requires
kinds-requires c =
    first_within c.args.site.plan.now c.args.frames.id (Frames c.args.frames.child (Some c.args.by) c.args.items.now) c.args.site.planned c.requires.node c.args.frames.child [] refl

pub put_parted_frames-requires-clause-wire : goal.put_parted_frames-requires-clause-wire
put_parted_frames-requires-clause-wire c = (taken_gives c.requires.there c.in_ok-below.ensures).wire

pub put_parted_frames-requires-clause-kinds : goal.put_parted_frames-requires-clause-kinds
put_parted_frames-requires-clause-kinds c = rw c.kinds.ensures.kinds (taken_gives c.requires.there c.in_ok-below.ensures).same_widths

pub put_parted_frames-requires-clause-are_kinds : goal.put_parted_frames-requires-clause-are_kinds
put_parted_frames-requires-clause-are_kinds c =
    rw c.kinds.ensures.kinds (c.laws_below.ensures.columns_have_kinds c.args.site.plan.now c.args.frames.child c.args.site.planned
    (first_within c.args.site.plan.now c.args.frames.id (Frames c.args.frames.child (Some c.args.by) c.args.items.now) c.args.site.planned c.requires.node c.args.frames.child [] refl))

pub put_parted_frames-requires-clause-key : goal.put_parted_frames-requires-clause-key
put_parted_frames-requires-clause-key c =
    rw c.kinds.ensures.kinds (c.args.site.planned.fits c.args.frames.id (Frames c.args.frames.child (Some c.args.by) c.args.items.now) c.requires.node).suits.1

pub put_parted_frames-requires-clause-fit : goal.put_parted_frames-requires-clause-fit
put_parted_frames-requires-clause-fit c =
    rw (c.kinds.ensures.kinds, c.as_slice.ensures)
    (c.args.site.planned.fits c.args.frames.id (Frames c.args.frames.child (Some c.args.by) c.args.items.now) c.requires.node).suits.0

pub either_line-requires-clause-left : goal.either_line-requires-clause-left
either_line-requires-clause-left c =
    line_kept c.args.net.now c.put_parted_frames.new.net c.in_ok-below.below.faults.further c.in_ok-put.ensures.keeps (taken_gives c.requires.there c.in_ok-below.ensures).lines.further

pub either_line-requires-clause-right : goal.either_line-requires-clause-right
either_line-requires-clause-right c = c.in_ok-put.ensures.further

pub put_parted_frames-requires-clause-words : goal.put_parted_frames-requires-clause-words
put_parted_frames-requires-clause-words c = c.requires.words.held

pub put_parted_frames-requires-clause-known : goal.put_parted_frames-requires-clause-known
put_parted_frames-requires-clause-known c = rw c.as_slice.ensures (c.requires.words.known.each c.args.frames.id _ c.requires.node)

pub returns : goal.returns
returns c =
    key_frames_put c.laws_below.ensures c.args.site.plan.now c.args.frames.id c.args.net.now c.put_parted_frames.new.net c.either_line.new.net c.args.site.tick c.args.site.leaves.now c.in_ok-below.below
    c.args.site.planned c.args.frames.child c.args.by c.args.items.now c.requires.node (taken_gives c.requires.there c.in_ok-below.ensures) c.in_ok-put.put
    (rw (c.kinds.ensures.kinds, c.as_slice.ensures) at c.in_ok-put.ensures) c.in_ok-further.further c.in_ok-further.ensures
