-- A text of several queries comes to one thing.
use Rattle.std.proofs.Common.{◌≡◌, ℕ, List, [], ◌∷◌, ◌++◌, Option, Some, None, Result, Ok, Err, refl, sym, ap, subst, ◌∙◌, inl, inr, append_assoc}
use Rattle.std.proofs.lemmas.List.{append-nil}
use Rattle.gl_schema.specs.declared.schema.Schema.{Schema}
use Rattle.gl_query.specs.declared.fault.QueryFault.{QueryFault}
use Rattle.gl_query.specs.Trees.{StatementTree}
use Rattle.gl_query_reader.specs.Grammar.{HaveVerdict}
use Rattle.gl_query_reader.proofs.Meets.{answer_for, answer_is}
use Rattle.gl_query_reader.proofs.Verdicts.{only_verdict}
use Rattle.gl_query_texts.specs.Pieces.{Piece, pieces_of}
use Rattle.gl_query_texts.specs.Lists.{AreStatements, IsPiece, IsPieceFault, names_of, statement_fault}
use Rattle.gl_query_texts.specs.ListLaws.{IsVerdict, TextsHaveOneVerdict, Verdict}

-- ---- one piece behind statements of these names

abbrev pub One : Type 0
One = Result StatementTree QueryFault

abbrev ComesTo : Schema → List (List ℕ) → Piece → One → Type 0
ComesTo schema names p (Ok s) = IsPiece schema names p s
ComesTo schema names p (Err f) = IsPieceFault schema names p f

abbrev pub judged : Option QueryFault → StatementTree → One
judged None s = Ok s
judged (Some f) s = Err f

abbrev pub by_rules : Schema → List (List ℕ) → One → One
by_rules schema names (Ok s) = judged (statement_fault schema names s) s
by_rules schema names (Err f) = Err f

abbrev pub one_answer : Schema → List (List ℕ) → Piece → One
one_answer schema names p = by_rules schema names (answer_for p.tokens p.end)

one_is : (schema : Schema) (names : List (List ℕ)) (p : Piece) → ComesTo schema names p (one_answer schema names p)
one_is schema names p = by_read (answer_for p.tokens p.end) (answer_is p.tokens p.end)
  where
    by_rule : (s : StatementTree) → HaveVerdict p.tokens p.end (Ok s) → (o : Option QueryFault) → statement_fault schema names s ≡ o → ComesTo schema names p (judged o s)
    by_rule s h None e = record { has = h; first = e }
    by_rule s h (Some f) e = inr (record { statement = s; has = h; first = e })

    by_read : (r : One) → HaveVerdict p.tokens p.end r → ComesTo schema names p (by_rules schema names r)
    by_read (Ok s) h = by_rule s h (statement_fault schema names s) refl
    by_read (Err f) h = inl h

one_only : (schema : Schema) (names : List (List ℕ)) (p : Piece) (r : One) → ComesTo schema names p r → one_answer schema names p ≡ r
one_only schema names p (Ok s) h =
    ap (by_rules schema names) (sym (only_verdict p.tokens p.end (Ok s) h.has)) ∙ ap (λ (o : Option QueryFault). judged o s) h.first
one_only schema names p (Err f) (inl h) = ap (by_rules schema names) (sym (only_verdict p.tokens p.end (Err f) h))
one_only schema names p (Err f) (inr b) =
    ap (by_rules schema names) (sym (only_verdict p.tokens p.end (Ok b.statement) b.has)) ∙ ap (λ (o : Option QueryFault). judged o b.statement) b.first

-- ---- piece by piece

-- the first fault behind statements of these names
record FaultBehind (schema : Schema) (names : List (List ℕ)) (ps : List Piece) (f : QueryFault) : Type 0 where
  before : List Piece
  broken : Piece
  behind : List Piece
  parts : ps ≡ before ++ broken ∷ behind
  statements : List StatementTree
  are : AreStatements schema names before statements
  fault : IsPieceFault schema (names ++ names_of statements) broken f

abbrev ComeTo : Schema → List (List ℕ) → List Piece → Verdict → Type 0
ComeTo schema names ps (Ok ss) = AreStatements schema names ps ss
ComeTo schema names ps (Err f) = FaultBehind schema names ps f

abbrev pub with_first : StatementTree → Verdict → Verdict
with_first s (Ok ss) = Ok (s ∷ ss)
with_first s (Err f) = Err f

abbrev pub behind_first : One → (StatementTree → Verdict) → Verdict
behind_first (Ok s) next = with_first s (next s)
behind_first (Err f) next = Err f

unfoldable pub all_answer : Schema → List (List ℕ) → List Piece → Verdict
all_answer schema names [] = Ok []
all_answer schema names (p ∷ ps) = behind_first (one_answer schema names p) (λ (s : StatementTree). all_answer schema (names ++ s.name.text ∷ []) ps)

all_is : (schema : Schema) (ps : List Piece) (names : List (List ℕ)) → ComeTo schema names ps (all_answer schema names ps)
unfolding all_answer
all_is schema [] names = tt
all_is schema (p ∷ ps) names = at_first (one_answer schema names p) (one_is schema names p) (λ (s : StatementTree). all_answer schema (names ++ s.name.text ∷ []) ps) (λ (s : StatementTree). all_is schema ps (names ++ s.name.text ∷ []))
  where
    at_rest : (s : StatementTree) → IsPiece schema names p s → (r : Verdict) → ComeTo schema (names ++ s.name.text ∷ []) ps r → ComeTo schema names (p ∷ ps) (with_first s r)
    at_rest s h (Ok ss) n = (h, n)
    at_rest s h (Err f) n = record {
      before = p ∷ n.before;
      broken = n.broken;
      behind = n.behind;
      parts = ap (λ (x : List Piece). p ∷ x) n.parts;
      statements = s ∷ n.statements;
      are = (h, n.are);
      fault = subst (λ (x : List (List ℕ)). IsPieceFault schema x n.broken f) (append_assoc names (s.name.text ∷ []) (names_of n.statements)) n.fault;
    }

    at_first : (r : One) → ComesTo schema names p r → (next : StatementTree → Verdict) → ((s : StatementTree) → ComeTo schema (names ++ s.name.text ∷ []) ps (next s)) → ComeTo schema names (p ∷ ps) (behind_first r next)
    at_first (Ok s) h next n = at_rest s h (next s) (n s)
    at_first (Err f) h next n = record {
      before = [];
      broken = p;
      behind = ps;
      parts = refl;
      statements = [];
      are = tt;
      fault = subst (λ (x : List (List ℕ)). IsPieceFault schema x p f) (sym (append-nil names)) h;
    }

all_none : (schema : Schema) (names : List (List ℕ)) → all_answer schema names [] ≡ Ok []
unfolding all_answer
all_none schema names = refl

all_first : (schema : Schema) (names : List (List ℕ)) (p : Piece) (ps : List Piece) (r : One) → one_answer schema names p ≡ r → all_answer schema names (p ∷ ps) ≡ behind_first r (λ (s : StatementTree). all_answer schema (names ++ s.name.text ∷ []) ps)
unfolding all_answer
all_first schema names p ps r e = ap (λ (x : One). behind_first x (λ (s : StatementTree). all_answer schema (names ++ s.name.text ∷ []) ps)) e

statements_answer : (schema : Schema) (names : List (List ℕ)) (ps : List Piece) (ss : List StatementTree) → AreStatements schema names ps ss → all_answer schema names ps ≡ Ok ss
statements_answer schema names [] [] h = all_none schema names
statements_answer schema names [] (s ∷ ss) h = absurd h
statements_answer schema names (p ∷ ps) [] h = absurd h
statements_answer schema names (p ∷ ps) (s ∷ ss) h =
    all_first schema names p ps (Ok s) (one_only schema names p (Ok s) h.0)
    ∙ ap (with_first s) (statements_answer schema (names ++ s.name.text ∷ []) ps ss h.1)

fault_answer : (schema : Schema) (names : List (List ℕ)) (before : List Piece) (ss : List StatementTree) (broken : Piece) (behind : List Piece) (f : QueryFault)
    → AreStatements schema names before ss → IsPieceFault schema (names ++ names_of ss) broken f → all_answer schema names (before ++ broken ∷ behind) ≡ Err f
fault_answer schema names [] [] broken behind f h is =
    all_first schema names broken behind (Err f) (one_only schema names broken (Err f) (subst (λ (x : List (List ℕ)). IsPieceFault schema x broken f) (append-nil names) is))
fault_answer schema names [] (s ∷ ss) broken behind f h is = absurd h
fault_answer schema names (p ∷ ps) [] broken behind f h is = absurd h
fault_answer schema names (p ∷ ps) (s ∷ ss) broken behind f h is =
    all_first schema names p (ps ++ broken ∷ behind) (Ok s) (one_only schema names p (Ok s) h.0)
    ∙ ap (with_first s) (fault_answer schema (names ++ s.name.text ∷ []) ps ss broken behind f h.1
    (subst (λ (x : List (List ℕ)). IsPieceFault schema x broken f) (sym (append_assoc names (s.name.text ∷ []) (names_of ss))) is))

-- ---- texts

abbrev pub text_answer : Schema → List ℕ → Verdict
text_answer schema text = all_answer schema [] (pieces_of text)

pub text_is : (schema : Schema) (text : List ℕ) → IsVerdict schema text (text_answer schema text)
text_is schema text = by (text_answer schema text) (all_is schema (pieces_of text) [])
  where
    by : (v : Verdict) → ComeTo schema [] (pieces_of text) v → IsVerdict schema text v
    by (Ok ss) h = h
    by (Err f) h = record { before = h.before; broken = h.broken; behind = h.behind; parts = h.parts; statements = h.statements; are = h.are; fault = h.fault }

text_only : (schema : Schema) (text : List ℕ) (v : Verdict) → IsVerdict schema text v → v ≡ text_answer schema text
text_only schema text (Ok ss) h = sym (statements_answer schema [] (pieces_of text) ss h)
text_only schema text (Err f) h = sym (ap (all_answer schema []) h.parts ∙ fault_answer schema [] h.before h.statements h.broken h.behind f h.are h.fault)

pub verdicts : TextsHaveOneVerdict
verdicts schema text = record { verdict = text_answer schema text; is = text_is schema text; only = text_only schema text }
