use Rattle.std.proofs.Common.{◌<◌, ap, arith, rules}
use Rattle.gl_verilog.specs.View.{statement_of}
use Rattle.gl_verilog_check.proofs.Blocks.{block_chain, chained_here, parts_of}
use Rattle.gl_verilog_check.proofs.homes.+note_homes.Goals as goal

pub note_homes-requires : goal.note_homes-requires
note_homes-requires t c =
    let whole = block_chain c.args.statement.now c.in-Block.statements c.deref-statement-items.result.now c.in-Block.is c.deref-statement-items.ensures.value in
    let here = chained_here c.deref-statement-items.result.now c.loop-statement.statement-index c.statement-item.result c.loop-statement-test.true c.statement-item.is in
    let smaller : parts_of (statement_of c.statement-item.result) < parts_of (statement_of c.args.statement.now) =
    omega (arith, ap parts_of whole, ap parts_of here, c.loop-statement.invariant) in
    search rules
