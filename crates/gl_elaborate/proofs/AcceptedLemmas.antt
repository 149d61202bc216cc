-- The term of an accepted expression is one.
use Rattle.std.proofs.Common.{◌≡◌, ℕ, ◌^◌, ◌<◌, true, List, length, refl, sym, subst, ◌∙◌, arith, lit≤}
use Rattle.std.specs.Prelude.{IsTrue, bytes_eq, neg_ℤ, pos}
use Rattle.std.proofs.lemmas.List.{length-map}
use Rattle.std.proofs.lemmas.Option.{slice_get_within}
use Rattle.gl_values.specs.Kinds.{IsKind, bytes_in, can_cast, is_number, negative_word, width_of}
use Rattle.gl_values.specs.Operators.{sort_of}
use Rattle.gl_values.specs.declared.kind.Kind.{Kind}
use Rattle.gl_values.specs.declared.kind.Kind.TheVariants.{Unsigned}
use Rattle.gl_values.specs.declared.op.Sort.{Sort}
use Rattle.gl_values.specs.declared.op.Sort.TheVariants.{Arithmetic, Comparison, Logic}
use Rattle.gl_values.proofs.KindLemmas.{kind_some, range_below}
use Rattle.gl_values.proofs.Signs.{word_fits}
use Rattle.gl_schema.specs.declared.schema.Column.{Column as NamedColumn}
use Rattle.gl_schema.specs.Schemas.{kinds_of, has_column, text_word}
use Rattle.gl_query.specs.Shapes.{ExprShape}
use Rattle.gl_query.specs.Shapes as shape
use Rattle.gl_query.specs.Values.{CanApply, HasKind, column_number, kind_alone, kind_of, operand_place}
use Rattle.gl_query.specs.Laws.{AreKinds}
use Rattle.gl_algebra.specs.Columns.{SortFits}
use Rattle.gl_algebra.proofs.ListLemmas.{first_passes}
use Rattle.gl_elaborate.specs.Terms.{literal, term_of, term_shifts, IsTerm}
use Rattle.gl_elaborate.proofs.ShiftLemmas.{shape-shifts}
use Rattle.gl_elaborate.proofs.TermLemmas.{term-kind}
use Rattle.gl_query.proofs.Fitting.{letters_below}
use Rattle.gl_query.proofs.Real.{alone_kind, casts_are, kind_is, place_is}

-- ---- literals

literal-fits : (kinds : List Kind) (place : Kind) (n : ℕ) → IsKind place → n < 2 ^ width_of place → IsTerm kinds (literal place n)
literal-fits kinds place n kind below =
    (record { width = record { some' = kind_some place kind; most = omega (arith, kind.1) }; fits = below }, kind, refl)

-- ---- kinds

can-apply : (sort : Sort) (l r : Kind) → CanApply sort l r → (l ≡ r) × SortFits sort l
can-apply Arithmetic l r h = h
can-apply Comparison l r h = (h, tt)
can-apply Logic l r h = (h.0 ∙ sym h.1, h.0)

module _ (columns : List NamedColumn) (kinds : AreKinds columns) where
  -- in any place
  pub kind-fits : (e : ExprShape) (typed place : Kind) → HasKind columns typed e → IsKind place → IsKind (kind_of columns place e)
  kind-fits e typed place h k = kind_is e columns place kinds k (casts_are e columns typed h)

  pub column-fits : (name : List ℕ) → has_column columns name ≡ true → column_number columns name < length (kinds_of columns)
  unfolding has_column
  column-fits name h =
      let found = first_passes (λ (c : NamedColumn). bytes_eq name c.name) columns h in
      rw length-map (slice_get_within columns (column_number columns name) found.0 found.1)

  -- an accepted expression's term is one
  pub term-fits : (e : ExprShape) (place : Kind) → IsKind place → HasKind columns place e → IsTerm (kinds_of columns) (term_of columns place e)
  term-fits (shape.Column name) place k h = column-fits name h
  term-fits (shape.Number n) place k h = literal-fits (kinds_of columns) place n k (range_below place n h.1)
  term-fits (shape.Minus n) place k h =
      literal-fits (kinds_of columns) place (negative_word place n) k (word_fits (width_of place) (neg_ℤ (pos n)))
  term-fits (shape.Letters text) place k h =
      literal-fits (kinds_of columns) place (text_word (bytes_in place) text) k (letters_below place text h)
  term-fits (shape.Not e) place k h =
      (term-fits e (Unsigned 1) (lit≤ tt, lit≤ tt) h.0, term-kind columns (Unsigned 1) e ∙ h.1)
  term-fits (shape.Flip e) place k h =
      (term-fits e place k h.0, subst (λ (j : Kind). IsTrue (is_number j)) (sym (term-kind columns place e)) h.1)
  term-fits (shape.Cast kind e) place k h = (
    term-fits e (kind_alone e) (alone_kind e) h.0,
    subst (λ (from : Kind). IsTrue (can_cast from kind)) (sym (term-kind columns (kind_alone e) e)) h.1,
  )
  term-fits (shape.Binary o l r) place k h =
      let left = operand_place columns o place l r in
      let right = operand_place columns o place r l in
      let can = can-apply (sort_of o) (kind_of columns left l) (kind_of columns right r) h.2 in
      let a = term-kind columns left l in
      let c = term-kind columns right r in (
        term-fits l left (place_is columns o place l r kinds k (casts_are r columns right h.1)) h.0,
        term-fits r right (place_is columns o place r l kinds k (casts_are l columns left h.0)) h.1,
        a ∙ can.0 ∙ sym c,
        subst (SortFits (sort_of o)) (sym a) can.1,
        subst (λ (j : Kind). IsTrue (term_shifts o j (term_of columns right r))) (sym a)
            (shape-shifts o (kind_of columns left l) columns right r h.3),
      )
