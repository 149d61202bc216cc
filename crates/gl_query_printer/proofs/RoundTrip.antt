-- What is read from a canonical text is the statement that it is the text of.
use Rattle.std.proofs.Common.{refl, sym, ap, subst, ◌∙◌}
use Rattle.std.specs.List.{AllByRecursion}
use Rattle.gl_query.specs.Shapes.{StatementShape}
use Rattle.gl_query_tokens.specs.Tokens.{tokens_of}
use Rattle.gl_query_reader.specs.Grammar.{bare_tokens}
use Rattle.gl_query_reader.specs.Meaning.{statement_meaning}
use Rattle.gl_query.specs.Alike.{statement_alike}
use Rattle.gl_query_printer.specs.Canonical.{canonical_tokens}
use Rattle.gl_query_printer.specs.Printing.{canonical_text, IsPrintable, CanonicalTextsAreRead}
use Rattle.gl_query_printer.proofs.Lexed.{text_has}
use Rattle.gl_bits.proofs.AllLists.{all_mapped}
use Rattle.gl_query_tokens.specs.declared.token.Lexeme.{Lexeme}
use Rattle.gl_query_tokens.proofs.Sound.{IsSound, text_sound}
use Rattle.gl_query_printer.proofs.WritableQueries.{CanBeStatement, statement_can}
use Rattle.gl_query_printer.proofs.Readable.{statement_readable}
use Rattle.gl_query_printer.proofs.ReadBackStatement.{read_statement}

-- what some text has can be written
printable_can : (s : StatementShape) → IsPrintable s → CanBeStatement s
printable_can s p =
    let f = p.1.found in
    let w = f.written in
    let sound = subst (AllByRecursion IsSound) (sym f.derived.spelled) (all_mapped IsSound (λ (l : Lexeme). l.token) (tokens_of p.0) (text_sound p.0)) in
    subst CanBeStatement (ap statement_alike (sym f.means) ∙ p.1.alike) (statement_can w f.derived.grammar sound f.items)

pub canonical_read : CanonicalTextsAreRead
canonical_read s p limits =
    let c = printable_can s p in
    let r = read_statement s c (bare_tokens (tokens_of (canonical_text s))) (text_has (canonical_tokens s) (statement_readable s c)) in
    record {
      read = statement_meaning r.tree;
      found = record { written = r.tree; derived = record { grammar = r.grammar; spelled = r.spelled }; limits = limits; items = r.mixed; means = refl };
      alike = r.alike;
    }
