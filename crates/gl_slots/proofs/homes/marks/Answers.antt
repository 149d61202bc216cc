use Rattle.std.proofs.Common.{◌≡◌, ℕ, suc, ◌+◌, subst, arith}
use Rattle.gl_slots.specs.Picks.{IsNumber}
use Rattle.gl_slots.proofs.PickLemmas.{numbers_more, numbers_none}
use Rattle.gl_slots.proofs.homes.marks.Goals as goal

pub loop-slot-init : goal.loop-slot-init
loop-slot-init c = rw (c.new-all.ensures) (numbers_none c.args.net.now (λ k. suc k) c.args.width)

pub loop-slot-preserved : goal.loop-slot-preserved
loop-slot-preserved c =
    let e : c.loop-slot.slot + 1 ≡ suc c.loop-slot.slot = omega arith in
    rw (c.in_ok-push.ensures.ok)
    (numbers_more c.args.net.now c.loop-slot.net c.number.new.net (λ k. suc k) c.loop-slot.slot c.args.width c.loop-slot.all c.in_ok-bus.bus c.loop-slot.invariant
    (subst (λ (n : ℕ). IsNumber c.loop-slot.net c.number.new.net n c.args.width c.in_ok-bus.bus) e c.in_ok-bus.ensures))
