use Rattle.std.proofs.Common.{take}
use Rattle.std.proofs.lemmas.List.{take_more}
use Rattle.gl_wire_registers.proofs.RegisterLemmas.{opens_more}
use Rattle.gl_wire_registers.proofs.registers.open_all.Goals as goal

pub loop-reset-preserved : goal.loop-reset-preserved
loop-reset-preserved c =
    rw (take_more c.args.resets.now c.loop-reset.reset-index c.reset-item.result c.loop-reset-test.true, c.in_ok-push.ensures.ok, ← c.reset-item.is)
    (opens_more c.args.net.now c.loop-reset.net c.open_one.new.net (take c.loop-reset.reset-index c.args.resets.now) c.loop-reset.all c.reset-item.result c.in_ok-register.register c.loop-reset.invariant c.in_ok-register.ensures)
