use Rattle.std.proofs.Common.{◌<◌, ap, arith, rules}
use Rattle.gl_verilog.specs.View.{statement_of}
use Rattle.gl_sim.specs.Updates.{writes_in}
use Rattle.gl_sim.proofs.Waiting.{parts_of}
use Rattle.gl_sim.proofs.room.+count_writes.Goals as goal
use Rattle.gl_verilog_check.proofs.Blocks.{chained_here, chained_end, block_chain}

pub count_writes-requires : goal.count_writes-requires
count_writes-requires t c =
    let whole = block_chain c.args.statement.now c.in-Block.statements c.deref-statement-items.result.now c.in-Block.is c.deref-statement-items.ensures.value in
    let here = chained_here c.deref-statement-items.result.now c.loop-statement.statement-index c.statement-item.result c.loop-statement-test.true c.statement-item.is in
    let smaller : parts_of (statement_of c.statement-item.result) < parts_of (statement_of c.args.statement.now) =
    omega (arith, ap parts_of whole, ap parts_of here, c.loop-statement.invariant.small) in
    search rules

pub returns-in_err-count_writes-in-Block : goal.returns-in_err-count_writes-in-Block
returns-in_err-count_writes-in-Block t c =
    let whole = block_chain c.args.statement.now c.in-Block.statements c.deref-statement-items.result.now c.in-Block.is c.deref-statement-items.ensures.value in
    let here = chained_here c.deref-statement-items.result.now c.loop-statement.statement-index c.statement-item.result c.loop-statement-test.true c.statement-item.is in
    rw c.from_residual.ensures (omega (arith, ap writes_in whole, ap writes_in here, c.loop-statement.invariant.count, c.in_err-count_writes-in-Block.ensures))

pub returns-in_err-count-in-Block : goal.returns-in_err-count-in-Block
returns-in_err-count-in-Block t c =
    let whole = block_chain c.args.statement.now c.in-Block.statements c.deref-statement-items.result.now c.in-Block.is c.deref-statement-items.ensures.value in
    let here = chained_here c.deref-statement-items.result.now c.loop-statement.statement-index c.statement-item.result c.loop-statement-test.true c.statement-item.is in
    rw c.from_residual-in_err-count-in-Block.ensures
    (omega (arith, ap writes_in whole, ap writes_in here, c.loop-statement.invariant.count, c.in_ok-count_writes-in-Block.ensures, c.in_err-count-in-Block.ensures))

pub returns-after-loop-statement : goal.returns-after-loop-statement
returns-after-loop-statement t c =
    let whole = block_chain c.args.statement.now c.in-Block.statements c.deref-statement-items.result.now c.in-Block.is c.deref-statement-items.ensures.value in
    let done = chained_end c.deref-statement-items.result.now c.loop-statement.statement-index c.loop-statement-test.false in
    omega (arith, ap writes_in whole, ap writes_in done, c.loop-statement.invariant.count)
