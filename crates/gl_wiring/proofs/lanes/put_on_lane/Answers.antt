use Rattle.std.proofs.Common.{◌∙◌, ap, refl}
use Rattle.gl_algebra.specs.declared.node.PlanNode.TheVariants.{Group}
use Rattle.gl_wiring.proofs.CanLemmas.{second_within}
use Rattle.gl_wiring.proofs.LaneLemmas.{few_slots, lane_leaves, lane_there, some_slots}
use Rattle.gl_wiring.proofs.WordLemmas.{have_words}
use Rattle.gl_wiring.proofs.lanes.put_on_lane.Goals as goal

pub lane-requires-clause-there : goal.lane-requires-clause-there
lane-requires-clause-there c = (c.requires.children _ c.requires.node).0

pub put_table-requires-clause-within : goal.put_table-requires-clause-within
put_table-requires-clause-within c =
    let g = c.args.group in
    second_within c.args.site.plan.now g.id (Group g.source g.body g.key g.groups) c.args.site.planned c.requires.node g.source g.body refl

pub put_table-requires-clause-leaves : goal.put_table-requires-clause-leaves
put_table-requires-clause-leaves c =
    lane_leaves c.laws_below.ensures c.args.site.plan.now c.args.group c.args.site.planned c.requires.node c.args.net.now c.lane.new.net c.args.site.tick c.args.site.leaves.now c.in_ok-laned.laned
    c.in_ok-laned.ensures

pub put_table-requires-clause-slot : goal.put_table-requires-clause-slot
put_table-requires-clause-slot c =
    rw c.place-place.ensures c.in_ok-laned.ensures.lane.slot

pub put_table-requires-clause-bits : goal.put_table-requires-clause-bits
put_table-requires-clause-bits c =
    rw c.place-place.ensures (some_slots c.laws_below.ensures c.args.site.plan.now c.args.group c.args.site.planned c.requires.node c.args.net.now c.lane.new.net c.args.site.tick c.args.site.leaves.now
    c.in_ok-laned.laned c.in_ok-laned.ensures)

pub put_table-requires-clause-few : goal.put_table-requires-clause-few
put_table-requires-clause-few c =
    rw c.place-place.ensures (few_slots c.laws_below.ensures c.args.site.plan.now c.args.group c.args.site.planned c.requires.node c.args.net.now c.lane.new.net c.args.site.tick c.args.site.leaves.now
    c.in_ok-laned.laned c.in_ok-laned.ensures)

pub put_table-requires-clause-first : goal.put_table-requires-clause-first
put_table-requires-clause-first c =
    rw c.place-place.ensures c.in_ok-laned.ensures.lane.first

pub gather-requires-clause-lane : goal.gather-requires-clause-lane
gather-requires-clause-lane c =
    lane_there c.laws_below.ensures c.args.site.plan.now c.args.group c.args.site.planned c.requires.node c.args.net.now c.lane.new.net c.put_table.new.net c.args.site.tick c.args.site.leaves.now
    c.in_ok-laned.laned c.in_ok-out.ensures.keeps c.in_ok-laned.ensures

pub gather-requires-clause-slot_width : goal.gather-requires-clause-slot_width
gather-requires-clause-slot_width c =
    c.in_ok-out.ensures.slot_width ∙ ap (λ p. p.slot.width) c.place-place.ensures
    ∙ c.in_ok-laned.ensures.lane.slot_width

pub put_table-requires-clause-words : goal.put_table-requires-clause-words
put_table-requires-clause-words c = have_words c.args.site.plan.now c.args.net.now c.lane.new.net c.args.site.words.now c.in_ok-laned.ensures.keeps c.requires.words

pub returns : goal.returns
returns c =
    c.gather.ensures c.args.net.now c.lane.new.net c.args.site.tick c.args.site.leaves.now c.in_ok-laned.ensures
    c.requires.direct (rw c.place-place.ensures at c.in_ok-out.ensures)
