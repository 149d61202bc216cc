-- Piece by piece from the left.
use Rattle.std.proofs.Common.{◌≡◌, ℕ, List, [], ◌∷◌, ◌++◌, sym, ap, subst, ◌∙◌, append_assoc}
use Rattle.std.specs.Prelude.{map}
use Rattle.std.specs.List.{AllByRecursion}
use Rattle.std.proofs.lemmas.List.{append-nil, map-append}
use Rattle.gl_bits.proofs.AllLists.{all_append}
use Rattle.gl_schema.specs.declared.schema.Schema.{Schema}
use Rattle.gl_query.specs.Trees.{StatementTree}
use Rattle.gl_query_check.specs.declared.checking.Checked.{Checked}
use Rattle.gl_query_texts.specs.Pieces.{Piece}
use Rattle.gl_query_texts.specs.Lists.{AreStatements, IsCheckedOver, IsPiece, names_of, tree_of}
use Rattle.gl_query_texts.specs.Reading.{Came, GoesOn, IsDone}

-- one more piece with its statement
statements_push : (schema : Schema) (names : List (List ℕ)) (ps : List Piece) (ss : List StatementTree) (p : Piece) (s : StatementTree)
    → AreStatements schema names ps ss → IsPiece schema (names ++ names_of ss) p s → AreStatements schema names (ps ++ p ∷ []) (ss ++ s ∷ [])
statements_push schema names [] [] p s h is = (subst (λ (n : List (List ℕ)). IsPiece schema n p s) (append-nil names) is, tt)
statements_push schema names [] (t ∷ ss) p s h is = absurd h
statements_push schema names (q ∷ ps) [] p s h is = absurd h
statements_push schema names (q ∷ ps) (t ∷ ss) p s h is = (
  h.0,
  statements_push schema (names ++ t.name.text ∷ []) ps ss p s h.1
      (subst (λ (n : List (List ℕ)). IsPiece schema n p s) (sym (append_assoc names (t.name.text ∷ []) (names_of ss))) is),
)

pub came_more : (schema : Schema) (all ps left : List Piece) (old new : List Checked) → Came schema all ps old → GoesOn schema ps left old new → Came schema all left new
came_more schema all ps left old new c g =
    let trees : map tree_of new ≡ map tree_of old ++ tree_of g.checked ∷ [] = ap (map tree_of) g.more ∙ map-append tree_of old (g.checked ∷ []) in
    record {
      before = c.before ++ g.first ∷ [];
      parts = c.parts ∙ ap (λ (x : List Piece). c.before ++ x) g.parts ∙ sym (append_assoc c.before (g.first ∷ []) left);
      are = subst (λ (ts : List StatementTree). AreStatements schema [] (c.before ++ g.first ∷ []) ts) (sym trees)
          (statements_push schema [] c.before (map tree_of old) g.first (tree_of g.checked) c.are g.is);
      over = subst (AllByRecursion (IsCheckedOver schema)) (sym g.more) (all_append (IsCheckedOver schema) old (g.checked ∷ []) c.over (g.over, tt));
    }

pub came_all : (schema : Schema) (all : List Piece) (cs : List Checked) → Came schema all [] cs → IsDone schema all cs
came_all schema all cs c = record {
  are = subst (λ (ps : List Piece). AreStatements schema [] ps (map tree_of cs)) (sym (c.parts ∙ append-nil c.before)) c.are;
  over = c.over;
}
