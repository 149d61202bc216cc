use Rattle.std.proofs.Common.{take}
use Rattle.std.proofs.lemmas.List.{take_more}
use Rattle.gl_wire_registers.proofs.JoinLemmas.{wires_push}
use Rattle.gl_wire_registers.proofs.joins.copied_wires.Goals as goal

pub loop-copy-preserved : goal.loop-copy-preserved
loop-copy-preserved c =
    rw (take_more c.args.copies.now c.loop-copy.copy-index c.copy-item.result c.loop-copy-test.true, c.in_ok-push.ensures.ok, ← c.copy-item.is)
    (wires_push (take c.loop-copy.copy-index c.args.copies.now) c.copy-item.result c.loop-copy.all c.in_ok-wire.wire c.loop-copy.invariant c.in_ok-wire.ensures)
