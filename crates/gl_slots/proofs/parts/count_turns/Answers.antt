use Rattle.gl_slots.proofs.PartLemmas.{turns_are}
use Rattle.gl_slots.proofs.parts.count_turns.Goals as goal

pub returns : goal.returns
returns c = rw c.note_turns.ensures (
    let rest = c.in_ok-rest.ensures in
    let at = c.in_ok-at.ensures in
    let trigger = c.in_ok-trigger.ensures in
    turns_are c.args.net.now c.count_down.new.net c.number_or.new.net c.either.new.net c.args.eos c.args.due c.args.count c.from-all.result c.from-others.result
    c.bits_to.result c.in_ok-rest.rest c.in_ok-at.at c.in_ok-trigger.trigger c.from-all.ensures c.from-others.ensures c.bits_to.ensures.few c.bits_to.ensures.fits rest at trigger)
