use Rattle.std.proofs.Common.{◌∙◌, ◌<◌, ◌+◌, sym, ap, arith, rules, drop, Bool}
use Rattle.std.specs.Prelude.{map, ◌&&◌}
use Rattle.gl_verilog.specs.View.{statement_of, chained, declaration_of}
use Rattle.gl_verilog_check.specs.Kept.{statement_kept}
use Rattle.gl_verilog_check.proofs.Blocks.{block_chain, chained_here, chained_end, parts_of}
use Rattle.gl_verilog_check.proofs.runnable.+statement_keeps.Goals as goal

pub statement_keeps-requires : goal.statement_keeps-requires
statement_keeps-requires t c =
    let whole = block_chain c.args.statement.now c.in-Block.statements c.deref-statement-items.result.now c.in-Block.is c.deref-statement-items.ensures.value in
    let here = chained_here c.deref-statement-items.result.now c.loop-statement.statement-index c.statement-item.result c.loop-statement-test.true c.statement-item.is in
    let smaller : parts_of (statement_of c.statement-item.result) < parts_of (statement_of c.args.statement.now) =
    omega (arith, ap parts_of whole, ap parts_of here, c.loop-statement.invariant.small) in
    search rules

pub returns-then-not-statement_keeps : goal.returns-then-not-statement_keeps
returns-then-not-statement_keeps t c =
    let whole = block_chain c.args.statement.now c.in-Block.statements c.deref-statement-items.result.now c.in-Block.is c.deref-statement-items.ensures.value in
    let here = chained_here c.deref-statement-items.result.now c.loop-statement.statement-index c.statement-item.result c.loop-statement-test.true c.statement-item.is in
    let ds = map declaration_of c.args.declarations.now in
    let rest = statement_kept ds (chained (drop (c.loop-statement.statement-index + 1) c.deref-statement-items.result.now)) in
    ap (λ (b : Bool). b && rest) c.if-not-statement_keeps.ensures
    ∙ ap (statement_kept ds) (sym here) ∙ c.loop-statement.invariant.same ∙ ap (statement_kept ds) (sym whole)

pub returns-after-loop-statement : goal.returns-after-loop-statement
returns-after-loop-statement t c =
    let whole = block_chain c.args.statement.now c.in-Block.statements c.deref-statement-items.result.now c.in-Block.is c.deref-statement-items.ensures.value in
    let done = chained_end c.deref-statement-items.result.now c.loop-statement.statement-index c.loop-statement-test.false in
    let ds = map declaration_of c.args.declarations.now in
    ap (statement_kept ds) (sym done) ∙ c.loop-statement.invariant.same ∙ ap (statement_kept ds) (sym whole)
