use Rattle.std.proofs.Common.{ℕ, not, length, Option, ap, ◌∙◌, rules, tests}
use Rattle.std.specs.Prelude.{unwrap_or}
use Rattle.std.proofs.lemmas.Iterator.{YieldsList-from_slice}
use Rattle.std.proofs.lemmas.Iterator.Search.{position_from_yields_List}
use Rattle.gl_schema.specs.SchemaText.{is_blank}
use Rattle.gl_vcd.proofs.Lexed.{or_len}
use Rattle.gl_vcd.proofs.tokens.blank_len.Goals as goal

pub returns-clause-place : goal.returns-clause-place
returns-clause-place c =
    let bytes = c.args.bytes.now in
    let found = position_from_yields_List (λ b. not (is_blank b)) _ _ c.position.result c.position.ensures.ran (YieldsList-from_slice bytes cc) (λ x b q k. search (rules, tests)) in
    c.unwrap_or.ensures ∙ ap (λ (o : Option ℕ). unwrap_or o (length bytes)) found ∙ or_len (λ b. not (is_blank b)) bytes
