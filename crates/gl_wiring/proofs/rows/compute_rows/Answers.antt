use Rattle.std.proofs.Common.{[], refl}
use Rattle.gl_algebra.specs.declared.node.PlanNode.TheVariants.{Compute}
use Rattle.gl_wire.proofs.ColumnLemmas.{wire_kept}
use Rattle.gl_wiring.proofs.CanLemmas.{first_within}
use Rattle.gl_wiring.proofs.LaneRowLemmas.{compute_rows}
use Rattle.gl_rows.proofs.MadeLemmas.{words_kept}
use Rattle.gl_wiring.proofs.rows.compute_rows.Goals as goal

pub kinds-requires : goal.kinds-requires
kinds-requires c = first_within c.args.site.plan.now c.args.id (Compute c.args.child c.args.ops.now) c.args.site.planned c.requires.node c.args.child [] refl

pub put_compute-requires-clause-wire : goal.put_compute-requires-clause-wire
put_compute-requires-clause-wire c =
    wire_kept c.args.net.now c.later_place.new.net c.args.below.rows.wire c.in_ok-place.ensures.keeps c.requires.below.wire

pub put_compute-requires-clause-ops : goal.put_compute-requires-clause-ops
put_compute-requires-clause-ops c = rw (c.kinds.ensures.kinds, c.as_slice.ensures) ((c.args.site.planned.fits c.args.id _ c.requires.node).suits)

pub put_compute-requires-clause-words : goal.put_compute-requires-clause-words
put_compute-requires-clause-words c = words_kept c.args.net.now c.later_place.new.net c.args.site.words.now c.in_ok-place.ensures.keeps c.requires.words.held

pub put_compute-requires-clause-known : goal.put_compute-requires-clause-known
put_compute-requires-clause-known c = rw c.as_slice.ensures (c.requires.words.known.each c.args.id _ c.requires.node)

pub returns : goal.returns
returns c = λ old lane place h.
    compute_rows c.laws_below.ensures c.args.site.plan.now c.args.id old c.args.net.now c.later_place.new.net c.put_compute.new.net lane place c.in_ok-place.place c.args.below c.in_ok-rows.rows
    c.args.site.planned c.args.child c.args.ops.now c.requires.node h c.in_ok-place.ensures
    (rw (c.kinds.ensures.kinds, c.as_slice.ensures) at c.in_ok-rows.ensures)
