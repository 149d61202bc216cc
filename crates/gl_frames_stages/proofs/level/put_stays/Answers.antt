use Rattle.std.proofs.Common.{ℕ, Bool, ap, sym, subst}
use Rattle.std.specs.Prelude.{if◌then◌else◌}
use Rattle.gl_frames_stages.specs.LevelNets.{IsStaysIn}
use Rattle.gl_frames_stages.proofs.level.put_stays.Goals as goal

pub returns-then-order : goal.returns-then-order
returns-then-order c =
    subst (λ (n : ℕ). IsStaysIn c.args.net.now c.put_packed_stays.new.net n c.args.found c.args.own c.args.order c.in_ok-stays.stays)
    (sym (ap (λ (b : Bool). if b then 12 else 5) c.if-order.true)) c.in_ok-stays.ensures

pub returns : goal.returns
returns c =
    subst (λ (n : ℕ). IsStaysIn c.args.net.now c.put_plain_stays.new.net n c.args.found c.args.own c.args.order c.in_ok-stays-2.stays)
    (sym (ap (λ (b : Bool). if b then 12 else 5) c.if-order.false)) c.in_ok-stays-2.ensures
