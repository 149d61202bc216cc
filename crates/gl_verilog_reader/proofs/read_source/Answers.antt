-- What is answered for the text's tokens, at their places, is answered for the text.
use Rattle.std.proofs.Common.{◌≡◌, List, length, refl, sym, ap, subst, ◌∙◌}
use Rattle.gl_verilog.specs.Text.{IsSpelling}
use Rattle.gl_verilog.specs.View as meant
use Rattle.gl_verilog.specs.declared.module.Module.{Module}
use Rattle.gl_verilog_elaborator.specs.Meant.{IsMeant}
use Rattle.gl_verilog_tokens.specs.declared.token.Lexeme.{Lexeme}
use Rattle.gl_verilog_tokens.specs.View.{tokens_in, module_of}
use Rattle.gl_verilog_tokens.specs.Placed.{places_in, ArePlaces}
use Rattle.gl_verilog_reader.specs.Reading.{ByRules, Shows}
use Rattle.gl_verilog_reader.specs.Sources.{IsLocated}
use Rattle.gl_verilog_reader.proofs.Places.{source_in, judged_fault, fault_read, refused, only_refused}
use Rattle.gl_verilog_reader.proofs.read_source.Goals as goal

pub returns-in_err-written-clause-fault : goal.returns-in_err-written-clause-fault
returns-in_err-written-clause-fault c =
    refused c.args.text.now c.from_residual-in_err-written.result _ c.from_residual-in_err-written.ensures.1
    (fault_read c.args.text.now c.deref.result.now (length c.args.text.now) _
    (ap tokens_in c.deref.ensures.value ∙ c.in_ok-lexemes.ensures.tokens) (subst (λ (l : List Lexeme). ArePlaces c.args.text.now (places_in l)) (sym c.deref.ensures.value) c.in_ok-lexemes.ensures.places) refl
    c.in_err-written.ensures.answer)

pub returns-in_err-design-clause-fault : goal.returns-in_err-design-clause-fault
returns-in_err-design-clause-fault c =
    let xs = c.in_ok-lexemes.lexemes.items in
    let w = module_of c.in_ok-written.written in
    let e = c.in_err-design.field-0.0 in
    refused c.args.text.now c.from_residual-in_err-design.result e c.from_residual-in_err-design.ensures.1
    (judged_fault c.args.text.now xs w e c.in_ok-lexemes.ensures.tokens c.in_ok-lexemes.ensures.places
    (subst (λ (l : List Lexeme). IsSpelling (tokens_in l) w) c.deref.ensures.value c.in_ok-written.ensures.answer) (subst (λ (l : List Lexeme). ByRules (Shows (places_in l) w) e) c.deref-2.ensures.value c.in_err-design.ensures))

pub returns-in_err-design-clause-only : goal.returns-in_err-design-clause-only
returns-in_err-design-clause-only c =
    let xs = c.in_ok-lexemes.lexemes.items in
    let w = module_of c.in_ok-written.written in
    let e = c.in_err-design.field-0.0 in
    only_refused (λ m s. meant.module_of s.design ≡ m) c.one_verdict.ensures.only c.args.text.now c.from_residual-in_err-design.result e c.from_residual-in_err-design.ensures.1
    (judged_fault c.args.text.now xs w e c.in_ok-lexemes.ensures.tokens c.in_ok-lexemes.ensures.places
    (subst (λ (l : List Lexeme). IsSpelling (tokens_in l) w) c.deref.ensures.value c.in_ok-written.ensures.answer) (subst (λ (l : List Lexeme). ByRules (Shows (places_in l) w) e) c.deref-2.ensures.value c.in_err-design.ensures))

pub returns-clause-found : goal.returns-clause-found
returns-clause-found c =
    let xs = c.in_ok-lexemes.lexemes.items in
    let w = module_of c.in_ok-written.written in
    let s = c.in_ok-located.field-0 in
    source_in c.args.text.now xs w s c.in_ok-lexemes.ensures.tokens c.in_ok-lexemes.ensures.places
    (subst (λ (l : List Lexeme). IsSpelling (tokens_in l) w) c.deref.ensures.value c.in_ok-written.ensures.answer)
    (subst (λ (d : Module). IsMeant w (meant.module_of d)) (sym c.in_ok-located.ensures.same) c.in_ok-design.ensures)
    (subst (λ (l : List Lexeme). IsLocated (places_in l) w s) c.deref-3.ensures.value c.in_ok-located.ensures.located)
