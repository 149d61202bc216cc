use Rattle.std.proofs.Common.{◌≡◌, ◌∙◌, ◌<◌, ◌+◌, sym, ap, arith, rules}
use Rattle.gl_verilog.specs.Module as spec
use Rattle.gl_verilog.specs.Valid.{writes_in}
use Rattle.gl_verilog.specs.View.{statement_of}
use Rattle.gl_verilog_check.specs.Tests.{at_most_two}
use Rattle.gl_verilog_check.proofs.Blocks.{block_chain, chained_here, chained_end, parts_of}
use Rattle.gl_verilog_check.proofs.valid.+writes_in.Goals as goal

pub writes_in-requires : goal.writes_in-requires
writes_in-requires t c =
    let whole = block_chain c.args.statement.now c.in-Block.statements c.deref-statement-items.result.now c.in-Block.is c.deref-statement-items.ensures.value in
    let here = chained_here c.deref-statement-items.result.now c.loop-statement.statement-index c.statement-item.result c.loop-statement-test.true c.statement-item.is in
    let smaller : parts_of (statement_of c.statement-item.result) < parts_of (statement_of c.args.statement.now) =
    omega (arith, ap parts_of whole, ap parts_of here, c.loop-statement.invariant.small) in
    search rules

pub returns-after-loop-statement : goal.returns-after-loop-statement
returns-after-loop-statement t c =
    let whole = block_chain c.args.statement.now c.in-Block.statements c.deref-statement-items.result.now c.in-Block.is c.deref-statement-items.ensures.value in
    let done = chained_end c.deref-statement-items.result.now c.loop-statement.statement-index c.loop-statement-test.false in
    let k = c.args.memory in
    let count = c.loop-statement.count in
    let all : at_most_two (count + 0) ≡ at_most_two (writes_in (statement_of c.args.statement.now) k) =
    ap (λ (s : spec.Statement). at_most_two (count + writes_in s k)) (sym done) ∙ c.loop-statement.invariant.same ∙ ap (λ (s : spec.Statement). at_most_two (writes_in s k)) (sym whole) in
    omega (arith, all, c.loop-statement.invariant.few)
