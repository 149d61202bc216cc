use Rattle.gl_slots.proofs.PickLemmas.{numbers_more, numbers_none}
use Rattle.gl_slots.proofs.pick.numbers.Goals as goal

pub loop-place-init : goal.loop-place-init
loop-place-init c = rw (c.new-all.ensures) (numbers_none c.args.net.now (λ k. k) c.args.width)

pub loop-place-preserved : goal.loop-place-preserved
loop-place-preserved c =
    rw (c.in_ok-push.ensures.ok)
    (numbers_more c.args.net.now c.loop-place.net c.number.new.net (λ k. k) c.loop-place.place c.args.width c.loop-place.all c.in_ok-bus.bus c.loop-place.invariant c.in_ok-bus.ensures)
