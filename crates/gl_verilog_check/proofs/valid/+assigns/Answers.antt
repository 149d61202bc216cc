use Rattle.std.proofs.Common.{◌∙◌, ◌<◌, ◌+◌, Option, Bool, sym, ap, arith, rules, drop}
use Rattle.std.specs.Prelude.{option_and_then}
use Rattle.gl_verilog.specs.Module as spec
use Rattle.gl_verilog.specs.View.{statement_of, chained}
use Rattle.gl_verilog_check.specs.Tests.{assigns_once, one_of}
use Rattle.gl_verilog_check.proofs.Blocks.{block_chain, chained_here, chained_end, parts_of, one_of_inside, one_of_two, one_of_end}
use Rattle.gl_verilog_check.proofs.valid.+assigns.Goals as goal

pub assigns-requires : goal.assigns-requires
assigns-requires t c =
    let whole = block_chain c.args.statement.now c.in-Block.statements c.deref-statement-items.result.now c.in-Block.is c.deref-statement-items.ensures.value in
    let here = chained_here c.deref-statement-items.result.now c.loop-statement.statement-index c.statement-item.result c.loop-statement-test.true c.statement-item.is in
    let smaller : parts_of (statement_of c.statement-item.result) < parts_of (statement_of c.args.statement.now) =
    omega (arith, ap parts_of whole, ap parts_of here, c.loop-statement.invariant.small) in
    search rules

pub returns-in_err-more-in-Block : goal.returns-in_err-more-in-Block
returns-in_err-more-in-Block t c =
    let whole = block_chain c.args.statement.now c.in-Block.statements c.deref-statement-items.result.now c.in-Block.is c.deref-statement-items.ensures.value in
    let here = chained_here c.deref-statement-items.result.now c.loop-statement.statement-index c.statement-item.result c.loop-statement-test.true c.statement-item.is in
    let r = c.args.register in
    let a = c.loop-statement.assigned in
    let rest = assigns_once r (chained (drop (c.loop-statement.statement-index + 1) c.deref-statement-items.result.now)) in
    c.from_residual.ensures ∙ sym (one_of_inside a (assigns_once r (statement_of c.statement-item.result)) rest (sym c.in_err-more-in-Block.ensures))
    ∙ ap (λ (s : spec.Statement). option_and_then (one_of a) (assigns_once r s)) (sym here)
    ∙ c.loop-statement.invariant.same ∙ ap (assigns_once r) (sym whole)

pub returns-in_err-assigned-in-Block : goal.returns-in_err-assigned-in-Block
returns-in_err-assigned-in-Block t c =
    let whole = block_chain c.args.statement.now c.in-Block.statements c.deref-statement-items.result.now c.in-Block.is c.deref-statement-items.ensures.value in
    let here = chained_here c.deref-statement-items.result.now c.loop-statement.statement-index c.statement-item.result c.loop-statement-test.true c.statement-item.is in
    let r = c.args.register in
    let a = c.loop-statement.assigned in
    let rest = assigns_once r (chained (drop (c.loop-statement.statement-index + 1) c.deref-statement-items.result.now)) in
    c.from_residual-in_err-assigned-in-Block.ensures ∙ sym (one_of_two a c.in_ok-more-in-Block.more rest (sym c.in_err-assigned-in-Block.ensures))
    ∙ ap (λ (o : Option Bool). option_and_then (one_of a) (option_and_then (λ b. option_and_then (one_of b) rest) o)) c.in_ok-more-in-Block.ensures
    ∙ ap (λ (s : spec.Statement). option_and_then (one_of a) (assigns_once r s)) (sym here)
    ∙ c.loop-statement.invariant.same ∙ ap (assigns_once r) (sym whole)

pub returns-after-loop-statement : goal.returns-after-loop-statement
returns-after-loop-statement t c =
    let whole = block_chain c.args.statement.now c.in-Block.statements c.deref-statement-items.result.now c.in-Block.is c.deref-statement-items.ensures.value in
    let done = chained_end c.deref-statement-items.result.now c.loop-statement.statement-index c.loop-statement-test.false in
    let r = c.args.register in
    let a = c.loop-statement.assigned in
    sym (one_of_end a) ∙ ap (λ (s : spec.Statement). option_and_then (one_of a) (assigns_once r s)) (sym done)
    ∙ c.loop-statement.invariant.same ∙ ap (assigns_once r) (sym whole)
