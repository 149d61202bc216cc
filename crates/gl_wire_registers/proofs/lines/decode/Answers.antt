use Rattle.gl_wire_registers.specs.Lines.{pointed, pointed_at}
use Rattle.gl_wire_registers.proofs.LineLemmas.{lines_more, pointed_here}
use Rattle.gl_wire_registers.proofs.lines.decode.Goals as goal

pub loop-copy-preserved : goal.loop-copy-preserved
loop-copy-preserved c =
    rw (c.in_ok-push.ensures.ok)
    (lines_more c.args.net.now c.loop-copy.net c.at_copy.new.net c.loop-copy.copy 3 c.loop-copy.all c.in_ok-bit.bit (pointed c.args.line c.args.pointer) (pointed_at c.args.line c.args.pointer c.loop-copy.copy) c.loop-copy.invariant c.in_ok-bit.ensures
    (λ run r t. pointed_here run c.args.line c.args.pointer c.loop-copy.copy t))
