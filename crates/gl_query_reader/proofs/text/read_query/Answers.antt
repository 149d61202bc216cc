use Rattle.std.proofs.Common.{List, length, subst, sym}
use Rattle.std.specs.Prelude.{IfOk}
use Rattle.gl_query.specs.Trees.{statement_tree}
use Rattle.gl_query_tokens.specs.declared.token.Lexeme.{Lexeme}
use Rattle.gl_query_reader.specs.Grammar.{HaveStatement, HaveSyntaxFault, HaveDepthFault, HaveItemsFault}
use Rattle.gl_query_reader.proofs.Regular.{regular_statement}
use Rattle.gl_query_reader.proofs.text.read_query.Goals as goal

pub returns-in-Ok-clause-regular : goal.returns-in-Ok-clause-regular
returns-in-Ok-clause-regular c =
    regular_statement c.trees_are_alike.ensures c.args.text.now c.read_lexemes.result
    (subst (λ (tokens : List Lexeme). IfOk c.read_lexemes.result (λ s. HaveStatement tokens (statement_tree s))) c.in-Ok.ensures c.read_lexemes.ensures.found)

pub returns-in-Ok-clause-syntax : goal.returns-in-Ok-clause-syntax
returns-in-Ok-clause-syntax c = λ at f. c.read_lexemes.ensures.syntax at
    (subst (λ (tokens : List Lexeme). HaveSyntaxFault tokens (length c.args.text.now) at) (sym c.in-Ok.ensures) f)

pub returns-in-Ok-clause-too_deep : goal.returns-in-Ok-clause-too_deep
returns-in-Ok-clause-too_deep c = λ at f. c.read_lexemes.ensures.too_deep at
    (subst (λ (tokens : List Lexeme). HaveDepthFault tokens at) (sym c.in-Ok.ensures) f)

pub returns-in-Ok-clause-mixed_items : goal.returns-in-Ok-clause-mixed_items
returns-in-Ok-clause-mixed_items c = λ at f. c.read_lexemes.ensures.mixed_items at
    (subst (λ (tokens : List Lexeme). HaveItemsFault tokens at) (sym c.in-Ok.ensures) f)
