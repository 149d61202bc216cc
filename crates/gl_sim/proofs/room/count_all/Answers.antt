use Rattle.std.proofs.Common.{ap, arith}
use Rattle.gl_sim.specs.Updates.{writes_in}
use Rattle.gl_sim.proofs.room.count_all.Goals as goal
use Rattle.gl_verilog_check.proofs.Blocks.{chained_here}

pub returns-in_err-count_writes : goal.returns-in_err-count_writes
returns-in_err-count_writes c =
    let here = chained_here c.args.blocks.now c.loop-block.block-index c.block-item.result c.loop-block-test.true c.block-item.is in
    rw c.from_residual.ensures (omega (arith, ap writes_in here, c.loop-block.invariant, c.in_err-count_writes.ensures))

pub returns-in_err-count : goal.returns-in_err-count
returns-in_err-count c =
    let here = chained_here c.args.blocks.now c.loop-block.block-index c.block-item.result c.loop-block-test.true c.block-item.is in
    rw c.from_residual-in_err-count.ensures (omega (arith, ap writes_in here, c.loop-block.invariant, c.in_ok-count_writes.ensures, c.in_err-count.ensures))
