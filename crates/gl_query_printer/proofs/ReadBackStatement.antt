-- A canonical text is read back: the statement.
use Rattle.std.proofs.Common.{◌≡◌, ℕ, false, List, [], ◌∷◌, map, None, sym, ap}
use Rattle.gl_query.specs.Shapes.{QueryShape, StatementShape}
use Rattle.gl_query_tokens.specs.declared.token.Plain.TheVariants as plain
use Rattle.gl_query_tokens.specs.declared.token.Token.{Token}
use Rattle.gl_query_tokens.specs.declared.token.Token.TheVariants as token
use Rattle.gl_query_reader.specs.Written as written
use Rattle.gl_query_reader.specs.Written.{IsQuery, spell_query, spell_statement}
use Rattle.gl_query_reader.specs.Meaning.{query_meaning, statement_meaning}
use Rattle.gl_query_reader.specs.Mixed.{mixed_in}
use Rattle.gl_query.specs.Alike.{query_alike, statement_alike}
use Rattle.gl_query_printer.specs.Canonical.{name_of, query_of, canonical_tokens}
use Rattle.gl_query_printer.proofs.Places.{placeless, parts, first, alone}
use Rattle.gl_query_printer.proofs.WritableQueries.{CanBeStatement}
use Rattle.gl_query_printer.proofs.ReadBack.{cons, two}
use Rattle.gl_query_printer.proofs.ReadBackQueries.{read_query}

-- a statement
pub record ReadStatement (us : List Token) (s : StatementShape) : Type 0 where
  pub tree : written.Statement
  pub spelled : spell_statement tree ≡ us
  pub grammar : IsQuery tree.query
  pub mixed : mixed_in tree.query ≡ None
  pub alike : statement_alike (statement_meaning tree) ≡ s

abbrev named_query : QueryShape → List ℕ → StatementShape
named_query q name = record { query = q; name = name }

alike_statement : (q p : QueryShape) (name : List ℕ) → q ≡ p → named_query q name ≡ named_query p name
alike_statement q p name e = ap (λ (z : QueryShape). named_query z name) e

pub read_statement : (s : StatementShape) → CanBeStatement s → (us : List Token) → map placeless us ≡ canonical_tokens s → ReadStatement us s
read_statement s c us h =
    let p = parts us (spell_query (query_of s.query)) (token.Plain plain.Into ∷ token.Name (name_of s.name) ∷ []) h in
    let x = read_query s.query c.query.0 p.front p.front_is in
    let a = first p.back (token.Plain plain.Into) (token.Name (name_of s.name) ∷ []) p.back_is in
    let n = alone a.rest (token.Name (name_of s.name)) a.rest_is in
    record {
      tree = record { query = x.tree; name = record { text = s.name; at = n.at }; closed = false };
      spelled = two us p.front p.back (spell_query x.tree) _ p.whole x.spelled (cons (token.Plain plain.Into) p.back a.rest _ a.whole (sym n.whole));
      grammar = x.grammar c.query.1;
      mixed = x.mixed;
      alike = alike_statement (query_alike (query_meaning x.tree)) s.query s.name x.alike;
    }
