use Rattle.std.proofs.Common.{◌∙◌, ◌<◌, ◌+◌, sym, ap, arith, rules, drop, Bool}
use Rattle.std.specs.Prelude.{◌&&◌}
use Rattle.gl_verilog.specs.View.{statement_of, chained}
use Rattle.gl_verilog_check.specs.Homes.{keeps_home}
use Rattle.gl_verilog_check.proofs.Blocks.{block_chain, chained_here, chained_end, parts_of}
use Rattle.gl_verilog_check.proofs.homes.+keeps_home.Goals as goal

pub keeps_home-requires : goal.keeps_home-requires
keeps_home-requires t c =
    let whole = block_chain c.args.statement.now c.in-Block.statements c.deref-statement-items.result.now c.in-Block.is c.deref-statement-items.ensures.value in
    let here = chained_here c.deref-statement-items.result.now c.loop-statement.statement-index c.statement-item.result c.loop-statement-test.true c.statement-item.is in
    let smaller : parts_of (statement_of c.statement-item.result) < parts_of (statement_of c.args.statement.now) =
    omega (arith, ap parts_of whole, ap parts_of here, c.loop-statement.invariant.small) in
    search rules

pub returns-then-not-keeps_home : goal.returns-then-not-keeps_home
returns-then-not-keeps_home t c =
    let whole = block_chain c.args.statement.now c.in-Block.statements c.deref-statement-items.result.now c.in-Block.is c.deref-statement-items.ensures.value in
    let here = chained_here c.deref-statement-items.result.now c.loop-statement.statement-index c.statement-item.result c.loop-statement-test.true c.statement-item.is in
    let rest = keeps_home c.args.homes.now c.args.block (chained (drop (c.loop-statement.statement-index + 1) c.deref-statement-items.result.now)) in
    ap (λ (b : Bool). b && rest) c.if-not-keeps_home.ensures
    ∙ ap (keeps_home c.args.homes.now c.args.block) (sym here) ∙ c.loop-statement.invariant.same ∙ ap (keeps_home c.args.homes.now c.args.block) (sym whole)

pub returns-after-loop-statement : goal.returns-after-loop-statement
returns-after-loop-statement t c =
    let whole = block_chain c.args.statement.now c.in-Block.statements c.deref-statement-items.result.now c.in-Block.is c.deref-statement-items.ensures.value in
    let done = chained_end c.deref-statement-items.result.now c.loop-statement.statement-index c.loop-statement-test.false in
    ap (keeps_home c.args.homes.now c.args.block) (sym done) ∙ c.loop-statement.invariant.same ∙ ap (keeps_home c.args.homes.now c.args.block) (sym whole)
