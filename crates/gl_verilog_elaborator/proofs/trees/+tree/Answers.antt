-- The parts in braces, one after another, and what the braces are.
use Rattle.std.proofs.Common.{◌≡◌, ◌∙◌, ◌+◌, ◌<◌, ◌++◌, ◌∷◌, [], ap, subst, sym, map, drop, get_or, ℕ, List, arith, rules}
use Rattle.std.specs.Prelude.{Result, Ok}
use Rattle.std.proofs.lemmas.List.{map-append}
use Rattle.gl_verilog.specs.Written as written
use Rattle.gl_verilog_tokens.specs.View.{expr_of, parts_list}
use Rattle.gl_verilog_elaborator.specs.Judged.{Broken, Typed, judged_expr, judged_parts}
use Rattle.gl_verilog_elaborator.specs.View.{declarations_of, typed_of, Gives}
use Rattle.gl_verilog_elaborator.proofs.Parts.{parts_in, sum_of_list, part_below, braces_stop, braces_found, no_parts}
use Rattle.gl_verilog_elaborator.proofs.Steps.{behind, parts_next, parts_stop, parts_end, parts_begin, refused}
use Rattle.gl_verilog_elaborator.proofs.trees.+tree.Goals as goal

pub parts_typed-expr_typed-requires : goal.parts_typed-expr_typed-requires
parts_typed-expr_typed-requires t c =
    let x = c.part-item.result in
    let here = part_below expr_of c.args.parts.now c.loop-part.part-index x c.loop-part-test.true in
    let is : parts_in (expr_of (get_or c.args.parts.now c.loop-part.part-index x)) ≡ parts_in (expr_of x) = ap (λ y. parts_in (expr_of y)) (sym c.part-item.is) in
    let smaller : parts_in (expr_of x) < parts_in (parts_list (map expr_of c.args.parts.now)) + 1 = omega (arith, here, is, c.loop-part.invariant.small, sum_of_list (map expr_of c.args.parts.now)) in
    search rules

pub parts_typed-returns-in_err-typed : goal.parts_typed-returns-in_err-typed
parts_typed-returns-in_err-typed t c =
    let x = c.part-item.result in
    let ds = declarations_of c.args.scope.now in
    refused c.from_residual.result _ _ _ c.from_residual.ensures.1 (λ e.
    parts_stop expr_of ds c.args.parts.now c.loop-part.part-index c.loop-part.at (map typed_of c.loop-part.done.items) _ x _ c.loop-part-test.true
    (ap (λ y. judged_expr ds c.loop-part.at (expr_of y)) (sym c.part-item.is) ∙ c.in_err-typed.ensures e) c.loop-part.invariant.same)

pub parts_typed-loop-part-preserved : goal.parts_typed-loop-part-preserved
parts_typed-loop-part-preserved t c =
    let x = c.part-item.result in
    let i = c.loop-part.part-index in
    let parts = c.args.parts.now in
    let ds = declarations_of c.args.scope.now in
    let typed = typed_of c.in_ok-typed.typed in
    let next = parts_next expr_of ds parts i c.loop-part.at (map typed_of c.loop-part.done.items) _ x typed c.loop-part-test.true
    (ap (λ y. judged_expr ds c.loop-part.at (expr_of y)) (sym c.part-item.is) ∙ c.in_ok-typed.ensures) c.loop-part.invariant.same in
    record {
      same = ap (λ (xs : List Typed). behind xs (judged_parts ds c.in_ok-at.at (map expr_of (drop (i + 1) parts)))) (ap (map typed_of) c.in_ok-push.ensures.items ∙ map-append typed_of c.loop-part.done.items (c.in_ok-typed.typed ∷ []))
          ∙ ap (λ (k : ℕ). behind (map typed_of c.loop-part.done.items ++ typed ∷ []) (judged_parts ds k (map expr_of (drop (i + 1) parts)))) c.in_ok-at.ensures ∙ next;
      small = (let here = part_below expr_of parts i x c.loop-part-test.true in omega (arith, here, c.loop-part.invariant.small));
    }

pub parts_typed-loop-part-init : goal.parts_typed-loop-part-init
parts_typed-loop-part-init t c =
    let all = judged_parts (declarations_of c.args.scope.now) c.args.k (map expr_of c.args.parts.now) in
    let none : c.new-done.result.items ≡ [] = cc in
    record {
      same = ap (λ (xs : List _). behind (map typed_of xs) all) none ∙ parts_begin all;
      small = omega arith;
    }

pub parts_typed-returns : goal.parts_typed-returns
parts_typed-returns t c = parts_end expr_of (declarations_of c.args.scope.now) c.args.parts.now c.loop-part.part-index c.loop-part.at (map typed_of c.loop-part.done.items) _ (omega (arith, c.loop-part-test.false)) c.loop-part.invariant.same

pub braces_typed-returns-then-parts-lt1 : goal.braces_typed-returns-then-parts-lt1
braces_typed-returns-then-parts-lt1 t c =
    subst (λ (ws : List written.WrittenExpr). Gives typed_of (judged_expr (declarations_of c.args.scope.now) c.args.k (written.Braces (parts_list ws))) c.empty_braces.result)
    (sym (no_parts expr_of c.args.parts.now (omega (arith, c.if-parts-lt1.true)))) c.empty_braces.ensures

pub braces_typed-returns-in_err-done : goal.braces_typed-returns-in_err-done
braces_typed-returns-in_err-done t c =
    let ds = declarations_of c.args.scope.now in
    let ws = map expr_of c.args.parts.now in
    refused c.from_residual-in_err-done.result _ _ _ c.from_residual-in_err-done.ensures.1 (λ e. braces_stop ds c.args.k ws _ (ap (λ n. judged_parts ds n ws) (sym c.in_ok-first.ensures) ∙ c.in_err-done.ensures e))

pub braces_typed-returns-in-Some : goal.braces_typed-returns-in-Some
braces_typed-returns-in-Some t c =
    let ds = declarations_of c.args.scope.now in
    let ws = map expr_of c.args.parts.now in
    let ts = map typed_of c.pop.new.self.items in
    let last = typed_of c.in-Some.last in
    let all : judged_parts ds (c.args.k + 1) ws ≡ Ok (ts ++ last ∷ []) =
    ap (λ n. judged_parts ds n ws) (sym c.in_ok-first.ensures) ∙ c.in_ok-done.ensures ∙ ap (λ xs. Ok (map typed_of xs)) c.in-Some.ensures.items ∙ ap Ok (map-append typed_of c.pop.new.self.items (c.in-Some.last ∷ [])) in
    subst (λ (s : Result Typed Broken). Gives typed_of s c.enclose.result) (sym (braces_found ds c.args.k ws ts last all)) c.enclose.ensures
