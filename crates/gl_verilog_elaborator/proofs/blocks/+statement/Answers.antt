-- A `begin` with its list of statements, one after another.
use Rattle.std.proofs.Common.{◌≡◌, ◌∙◌, ◌+◌, ◌<◌, ◌∷◌, [], ap, sym, map, take, drop, get_or, length, ℕ, List, arith, rules}
use Rattle.std.specs.Prelude.{Ok, fold}
use Rattle.std.proofs.lemmas.List.{map-append}
use Rattle.gl_verilog.specs.Module as spec
use Rattle.gl_verilog.specs.Module.{Nothing}
use Rattle.gl_verilog.specs.Written.{listed}
use Rattle.gl_verilog.specs.View as meant
use Rattle.gl_verilog.specs.declared.module.Statement as stmt
use Rattle.gl_verilog_tokens.specs.View.{statement_of}
use Rattle.gl_verilog_elaborator.specs.Judged.{Drivers, stated, judged_in, passed_by, left_list, with_name}
use Rattle.gl_verilog_elaborator.specs.View.{declarations_of, drivers_of, stated_of, names_in}
use Rattle.gl_verilog_elaborator.proofs.Chained.{before, block_means, listed_on, listed_begin, list_next, list_stop, list_end, block_stop, block_found, statement_below, fold_front, fold_longer, take_own, beside_kept, code_single}
use Rattle.gl_verilog_elaborator.proofs.Found.{as_many}
use Rattle.gl_verilog_elaborator.proofs.Parts.{parts_of}
use Rattle.gl_verilog_elaborator.proofs.Steps.{refused}
use Rattle.gl_verilog_elaborator.proofs.blocks.+statement.Goals as goal

pub block_made-statement_made-requires : goal.block_made-statement_made-requires
block_made-statement_made-requires t c =
    let x = c.statement-item.result in
    let here = statement_below statement_of c.args.statements.now c.loop-statement.statement-index x c.loop-statement-test.true in
    let is : parts_of (statement_of (get_or c.args.statements.now c.loop-statement.statement-index x)) ≡ parts_of (statement_of x) = ap (λ y. parts_of (statement_of y)) (sym c.statement-item.is) in
    let smaller : parts_of (statement_of x) < parts_of (listed (map statement_of c.args.statements.now)) + 1 = omega (arith, here, is, c.loop-statement.invariant.small) in
    search rules

pub block_made-loop-statement-init : goal.block_made-loop-statement-init
block_made-loop-statement-init t c =
    let ds = declarations_of c.args.scope.now in
    let v = drivers_of c.args.drivers.now in
    let all = listed (map statement_of c.args.statements.now) in
    let none : c.new-done.result.items ≡ [] = cc in
    record {
      same = ap (λ (xs : List _). listed_on (map meant.statement_of xs) (judged_in ds v c.in_ok-at.at all)) none ∙ listed_begin (judged_in ds v c.in_ok-at.at all) ∙ ap (λ n. judged_in ds v n all) c.in_ok-at.ensures;
      small = omega arith;
      kept = take_own v.beside;
      long = omega arith;
    }

pub block_made-returns-in_err-one : goal.block_made-returns-in_err-one
block_made-returns-in_err-one t c =
    let x = c.statement-item.result in
    let ds = declarations_of c.args.scope.now in
    let v = drivers_of c.loop-statement.drivers in
    refused c.from_residual-in_err-one.result _ _ _ c.from_residual-in_err-one.ensures.1 (λ e.
    block_stop ds (drivers_of c.args.drivers.now) c.args.k (listed (map statement_of c.args.statements.now)) _
    (list_stop statement_of ds v c.loop-statement.at c.args.statements.now c.loop-statement.statement-index (map meant.statement_of c.loop-statement.done.items) _ x _ c.loop-statement-test.true
    (ap (λ y. judged_in ds v c.loop-statement.at (statement_of y)) (sym c.statement-item.is) ∙ c.in_err-one.ensures e) c.loop-statement.invariant.same))

pub block_made-loop-statement-preserved : goal.block_made-loop-statement-preserved
block_made-loop-statement-preserved t c =
    let x = c.statement-item.result in
    let i = c.loop-statement.statement-index in
    let xs = c.args.statements.now in
    let ds = declarations_of c.args.scope.now in
    let v = drivers_of c.loop-statement.drivers in
    let at = c.loop-statement.at in
    let done = map meant.statement_of c.loop-statement.done.items in
    let a = stated_of c.statement_made.new.drivers c.in_ok-one.one in
    let n = length (names_in c.args.drivers.now.beside.keys) in
    let here : judged_in ds v at (statement_of x) ≡ Ok a = c.in_ok-one.ensures in
    let from : c.len-from.result ≡ length v.before = omega (arith, c.len-from.ensures, c.loop-statement.drivers.before.ok.0, as_many c.loop-statement.drivers.before.items) in
    let passed : drivers_of c.pass_by.new.drivers ≡ passed_by (length v.before) a.drivers = c.in_ok-pass_by.ensures ∙ ap (λ k. passed_by k a.drivers) from in
    let beside : a.drivers.beside ≡ v.beside = beside_kept ds (statement_of x) v at a (code_single x) here in
    let after : names_in c.pass_by.new.drivers.beside.keys ≡ fold with_name v.beside (drop (length v.before) a.drivers.before) = ap (λ (w : Drivers). w.beside) passed ∙ ap (λ (b : List (List ℕ)). fold with_name b (drop (length v.before) a.drivers.before)) beside in
    let next = list_next statement_of ds v at xs i done _ x a (drivers_of c.pass_by.new.drivers) c.loop-statement-test.true
    (ap (λ y. judged_in ds v at (statement_of y)) (sym c.statement-item.is) ∙ here) passed c.loop-statement.invariant.same in
    record {
      same = ap (λ (ss : List spec.Statement). listed_on ss (judged_in ds (drivers_of c.pass_by.new.drivers) c.in_ok-one.one.end (listed (map statement_of (drop (i + 1) xs))))) (ap (map meant.statement_of) c.in_ok-push.ensures.items ∙ map-append meant.statement_of c.loop-statement.done.items (c.in_ok-one.one.statement ∷ [])) ∙ next;
      small = (let below = statement_below statement_of xs i x c.loop-statement-test.true in omega (arith, below, c.loop-statement.invariant.small));
      kept = ap (take n) after ∙ fold_front n (drop (length v.before) a.drivers.before) v.beside c.loop-statement.invariant.long ∙ c.loop-statement.invariant.kept;
      long = (let size : length (names_in c.pass_by.new.drivers.beside.keys) ≡ length (fold with_name v.beside (drop (length v.before) a.drivers.before)) = ap (λ (l : List (List ℕ)). length l) after in omega (arith, size, fold_longer (drop (length v.before) a.drivers.before) v.beside, c.loop-statement.invariant.long));
    }

pub block_made-returns : goal.block_made-returns
block_made-returns t c =
    let ds = declarations_of c.args.scope.now in
    let v0 = drivers_of c.args.drivers.now in
    let v = drivers_of c.loop-statement.drivers in
    let at = c.loop-statement.at in
    let all = listed (map statement_of c.args.statements.now) in
    let done = map meant.statement_of c.loop-statement.done.items in
    let whole : judged_in ds v0 (c.args.k + 1) all ≡ Ok (stated (before done Nothing) at v) =
    list_end statement_of ds v at c.args.statements.now c.loop-statement.statement-index done _ (omega (arith, c.loop-statement-test.false)) c.loop-statement.invariant.same in
    let size : c.len-beside.result ≡ length v0.beside = c.len-beside.ensures.len ∙ sym (as_many c.args.drivers.now.beside.keys) in
    let left : drivers_of c.leave_list.new.drivers ≡ left_list v0.beside v =
    c.leave_list.ensures ∙ ap (λ n. left_list (take n v.beside) v) size ∙ ap (λ (b : List (List ℕ)). left_list b v) c.loop-statement.invariant.kept in
    block_found ds v0 c.args.k all (stated (before done Nothing) at v) whole
    ∙ ap (λ (s : spec.Statement). Ok (stated s (at + 1) (left_list v0.beside v))) (sym (block_means c.loop-statement.done))
    ∙ ap (λ n. Ok (stated (meant.statement_of (stmt.Block c.loop-statement.done)) n (left_list v0.beside v))) (sym c.in_ok-end.ensures)
    ∙ ap (λ (w : Drivers). Ok (stated (meant.statement_of (stmt.Block c.loop-statement.done)) c.in_ok-end.end w)) (sym left)
