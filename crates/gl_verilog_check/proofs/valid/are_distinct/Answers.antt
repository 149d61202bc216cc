use Rattle.std.proofs.Common.{◌≡◌, ◌∙◌, ◌+◌, ℕ, not, List, map, drop, sym, ap, subst}
use Rattle.std.specs.Prelude.{bytes_eq}
use Rattle.std.specs.List.{list_any}
use Rattle.gl_verilog.specs.View.{declaration_of}
use Rattle.gl_verilog_check.specs.Tests.{are_new}
use Rattle.gl_verilog_check.proofs.Marks.{from_place}
use Rattle.gl_verilog_check.proofs.Names.{not_new, new_more}
use Rattle.gl_verilog_check.proofs.valid.are_distinct.Goals as goal

pub returns-then-not-is_new : goal.returns-then-not-is_new
returns-then-not-is_new c =
    let all = c.args.declarations.now in
    let i = c.loop-declaration.declaration-index in
    let d = c.declaration-item.result in
    let names = c.loop-declaration.names.keys in
    let here = from_place declaration_of all i d c.loop-declaration-test.true c.declaration-item.is in
    let added : c.in-Ok.is_new ≡ not (list_any (λ k. bytes_eq d.name k.now) names) = subst (λ (x : List ℕ). c.in-Ok.is_new ≡ not (list_any (λ k. bytes_eq x k.now) names)) c.as_slice.ensures c.in-Ok.ensures.added in
    not_new names (declaration_of d) (map declaration_of (drop (i + 1) all)) c.in-Ok.is_new added c.if-not-is_new.true
    ∙ ap (are_new (map (λ k. k.now) names)) (sym here) ∙ c.loop-declaration.invariant

pub loop-declaration-preserved : goal.loop-declaration-preserved
loop-declaration-preserved c =
    let all = c.args.declarations.now in
    let i = c.loop-declaration.declaration-index in
    let names = c.loop-declaration.names.keys in
    let here = from_place declaration_of all i c.declaration-item.result c.loop-declaration-test.true c.declaration-item.is in
    new_more names c.insert.new.self.keys c.as_slice.result (declaration_of c.declaration-item.result) (map declaration_of (drop (i + 1) all)) c.in-Ok.is_new c.as_slice.ensures c.in-Ok.ensures.added c.in-Ok.ensures.keys c.if-not-is_new.false
    ∙ ap (are_new (map (λ k. k.now) names)) (sym here) ∙ c.loop-declaration.invariant
