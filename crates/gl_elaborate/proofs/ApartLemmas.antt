-- A term whose parameters are apart has the kind and the value of the whole one, over the columns alone.
use Rattle.std.proofs.Common.{◌≡◌, ℕ, zero, suc, ◌+◌, ◌-◌, ◌^◌, ◌<◌, ◌≤◌, List, [], ◌∷◌, ◌++◌, length, slice_index, get_or, refl, sym, ap, subst, ◌∙◌, arith, max, nat_lt}
use Rattle.std.specs.Prelude.{IsTrue}
use Rattle.std.proofs.lemmas.Bool.{ltb-false, ltb-true}
use Rattle.std.proofs.lemmas.List.{length-map, map-append, get_or_append_left, get_or-append-add}
use Rattle.gl_bits.proofs.Bools.{by_cases}
use Rattle.gl_bits.specs.Words.{not_of}
use Rattle.gl_values.specs.Kinds.{IsKind, can_cast, is_number, width_of}
use Rattle.gl_values.specs.Operators.{cast_of, operate, result_kind, sort_of}
use Rattle.gl_values.specs.Results.{Row}
use Rattle.gl_values.specs.declared.kind.Kind.{Kind}
use Rattle.gl_schema.specs.declared.schema.Column.{Column as NamedColumn}
use Rattle.gl_schema.specs.Schemas.{IsRowOf, kinds_of}
use Rattle.gl_query.specs.Shapes.{ExprShape}
use Rattle.gl_query.specs.Shapes as shape
use Rattle.gl_query.specs.Values.{HasKind, column_number, kind_of, value_of}
use Rattle.gl_query.specs.Laws.{AreKinds}
use Rattle.gl_query.proofs.Real.{kind_at as named_kind}
use Rattle.gl_algebra.specs.Columns.{SortFits, bit_kind, kind_of_column}
use Rattle.gl_algebra.specs.Values.{Sets}
use Rattle.gl_elaborate.specs.Terms.{Term, Column, Literal, Parameter, Not, Flip, Cast, Binary, IsTerm, apart, depth_of, kind_numbered, named, ops_in, term_kind, term_shifts, term_of, term_over, term_value}
use Rattle.gl_elaborate.proofs.TermLemmas.{kind_at, term-kind, term-value}
use Rattle.gl_elaborate.proofs.AcceptedLemmas.{term-fits}
use Rattle.gl_elaborate.proofs.ShiftLemmas.{apart-shifts}

-- the words of the parameters are those that a run sets, each of its kind
pub record AreWords (parameters : List NamedColumn) (sets : Sets) (words : Row) : Type 0 where
  pub fit : IsRowOf parameters words
  pub each : (k : ℕ) → sets k ≡ slice_index words k

-- a parameter by itself has a word of its kind
abbrev pub IsNarrow : Sets → Term → Type 0
IsNarrow sets (Column n) = Unit {0}
IsNarrow sets (Literal w k) = Unit {0}
IsNarrow sets (Parameter n k) = sets n < 2 ^ width_of k
IsNarrow sets (Not t) = Unit {0}
IsNarrow sets (Flip t) = Unit {0}
IsNarrow sets (Cast t k) = Unit {0}
IsNarrow sets (Binary o l r) = Unit {0}

word-narrow : (parameters : List NamedColumn) (words : Row) → IsRowOf parameters words → (k : ℕ) → slice_index words k < 2 ^ width_of (kind_numbered parameters k)
word-narrow [] [] h k = omega arith
word-narrow [] (n ∷ ns) h k = absurd h
word-narrow (c ∷ cs) [] h k = absurd h
word-narrow (c ∷ cs) (n ∷ ns) h zero = h.0
word-narrow (c ∷ cs) (n ∷ ns) h (suc k) = word-narrow cs ns h.1 k

module _ (own : ℕ) (reach : List NamedColumn) where
  named-depth : (n : ℕ) → depth_of (named own reach n) ≡ 0
  named-depth n = by_cases (nat_lt n own) (λ e. rw e refl) (λ e. rw e refl)

  named-ops : (n : ℕ) → ops_in (named own reach n) ≡ 0
  named-ops n = by_cases (nat_lt n own) (λ e. rw e refl) (λ e. rw e refl)

  pub apart-depth : (t : Term) → depth_of (apart own reach t) ≡ depth_of t
  apart-depth (Column n) = named-depth n
  apart-depth (Literal w k) = refl
  apart-depth (Parameter n k) = refl
  apart-depth (Not t) = ap (λ (n : ℕ). 1 + n) (apart-depth t)
  apart-depth (Flip t) = ap (λ (n : ℕ). 1 + n) (apart-depth t)
  apart-depth (Cast t k) = ap (λ (n : ℕ). 1 + n) (apart-depth t)
  apart-depth (Binary o l r) = λ i. 1 + max (apart-depth l i) (apart-depth r i)

  pub apart-ops : (t : Term) → ops_in (apart own reach t) ≡ ops_in t
  apart-ops (Column n) = named-ops n
  apart-ops (Literal w k) = refl
  apart-ops (Parameter n k) = refl
  apart-ops (Not t) = ap (λ (n : ℕ). 1 + n) (apart-ops t)
  apart-ops (Flip t) = ap (λ (n : ℕ). 1 + n) (apart-ops t)
  apart-ops (Cast t k) = ap (λ (n : ℕ). 1 + n) (apart-ops t)
  apart-ops (Binary o l r) = λ i. 1 + apart-ops l i + apart-ops r i

module _ (columns parameters : List NamedColumn) where
  -- what an expression may name
  abbrev pub reach : List NamedColumn
  reach = columns ++ parameters

  -- the kinds of the columns stand first
  first-kind : (n : ℕ) → n < length columns → kind_of_column (kinds_of columns) n ≡ kind_of_column (kinds_of reach) n
  first-kind n below =
      sym (get_or_append_left (kinds_of columns) (kinds_of parameters) bit_kind n (rw length-map below))
      ∙ ap (λ (ks : List Kind). get_or ks n bit_kind) (sym (map-append (λ (c : NamedColumn). c.kind) columns parameters))

  named-kind : (n : ℕ) → term_kind (kinds_of columns) (named (length columns) reach n) ≡ kind_of_column (kinds_of reach) n
  named-kind n = by_cases (nat_lt n (length columns))
      (λ e. rw e (first-kind n (ltb-true n (length columns) e)))
      (λ e. rw e (sym (kind_at reach n)))

  pub apart-kind : (t : Term) → term_kind (kinds_of columns) (apart (length columns) reach t) ≡ term_kind (kinds_of reach) t
  apart-kind (Column n) = named-kind n
  apart-kind (Literal w k) = refl
  apart-kind (Parameter n k) = refl
  apart-kind (Not t) = refl
  apart-kind (Flip t) = apart-kind t
  apart-kind (Cast t k) = refl
  apart-kind (Binary o l r) = ap (result_kind (sort_of o)) (apart-kind l)

  named-fits : AreKinds reach → (n : ℕ) → IsTerm (kinds_of columns) (named (length columns) reach n)
  named-fits are n = by_cases (nat_lt n (length columns))
      (λ e. rw e (rw length-map (ltb-true n (length columns) e)))
      (λ e. rw e (named_kind reach n are))

  pub apart-fits : AreKinds reach → (t : Term) → IsTerm (kinds_of reach) t → IsTerm (kinds_of columns) (apart (length columns) reach t)
  apart-fits are (Column n) fits = named-fits are n
  apart-fits are (Literal w k) fits = fits
  apart-fits are (Parameter n k) fits = fits
  apart-fits are (Not t) fits = (apart-fits are t fits.0, apart-kind t ∙ fits.1)
  apart-fits are (Flip t) fits =
      (apart-fits are t fits.0, subst (λ (j : Kind). IsTrue (is_number j)) (sym (apart-kind t)) fits.1)
  apart-fits are (Cast t k) fits =
      (apart-fits are t fits.0, subst (λ (j : Kind). IsTrue (can_cast j k)) (sym (apart-kind t)) fits.1)
  apart-fits are (Binary o l r) fits = (
    apart-fits are l fits.0,
    apart-fits are r fits.1,
    apart-kind l ∙ fits.2 ∙ sym (apart-kind r),
    subst (SortFits (sort_of o)) (sym (apart-kind l)) fits.3,
    subst (λ (j : Kind). IsTrue (term_shifts o j (apart (length columns) reach r))) (sym (apart-kind l))
        (apart-shifts o (term_kind (kinds_of reach) l) (length columns) reach r fits.4),
  )

  module _ (sets : Sets) (words row : Row) (are : AreWords parameters sets words) (long : length row ≡ length columns) where
    -- the word of what stands behind the columns
    past : (n : ℕ) → length columns ≤ n → sets (n - length columns) ≡ slice_index (row ++ words) n
    past n above =
        are.each (n - length columns)
        ∙ sym (get_or-append-add row words (n - length columns) 0)
        ∙ ap (λ (i : ℕ). get_or (row ++ words) i 0) (let e : length row + (n - length columns) ≡ n = omega (arith, long, above) in e)

    named-value : (n : ℕ) → term_value sets (kinds_of columns) row (named (length columns) reach n) ≡ slice_index (row ++ words) n
    named-value n = by_cases (nat_lt n (length columns))
        (λ e. rw e (sym (get_or_append_left row words 0 n (rw long (ltb-true n (length columns) e)))))
        (λ e. rw e (past n (ltb-false n (length columns) e)))

    pub apart-value : (t : Term) → term_value sets (kinds_of columns) row (apart (length columns) reach t) ≡ term_value sets (kinds_of reach) (row ++ words) t
    apart-value (Column n) = named-value n
    apart-value (Literal w k) = refl
    apart-value (Parameter n k) = refl
    apart-value (Not t) = ap (not_of 1) (apart-value t)
    apart-value (Flip t) = λ i. not_of (width_of (apart-kind t i)) (apart-value t i)
    apart-value (Cast t k) = λ i. cast_of (apart-kind t i) k (apart-value t i)
    apart-value (Binary o l r) = λ i. operate o (apart-kind l i) (apart-value l i) (apart-value r i)

  -- the kind of what stands behind the columns
  pub past-kind : (n : ℕ) → length columns ≤ n → kind_numbered reach n ≡ kind_numbered parameters (n - length columns)
  past-kind n above =
      let k = n - length columns in
      let e : n ≡ length (kinds_of columns) + k = rw length-map (omega (arith, above)) in
      sym (kind_at reach n)
      ∙ (λ i. get_or (map-append (λ (c : NamedColumn). c.kind) columns parameters i) (e i) bit_kind)
      ∙ get_or-append-add (kinds_of columns) (kinds_of parameters) k bit_kind
      ∙ kind_at parameters k

  named-narrow : (sets : Sets) (words : Row) → AreWords parameters sets words → (n : ℕ) → IsNarrow sets (named (length columns) reach n)
  named-narrow sets words are n = by_cases (nat_lt n (length columns))
      (λ e. rw e tt)
      (λ e.
      let above = ltb-false n (length columns) e in
      rw (e, past-kind n above, are.each (n - length columns)) (word-narrow parameters words are.fit (n - length columns)))

  -- ---- the terms of expressions

  pub over-narrow : (place : Kind) (e : ExprShape) (sets : Sets) (words : Row) → AreWords parameters sets words
      → IsNarrow sets (term_over columns reach place e)
  over-narrow place (shape.Column name) sets words are = named-narrow sets words are (column_number reach name)
  over-narrow place (shape.Number n) sets words are = tt
  over-narrow place (shape.Minus n) sets words are = tt
  over-narrow place (shape.Letters text) sets words are = tt
  over-narrow place (shape.Not e) sets words are = tt
  over-narrow place (shape.Flip e) sets words are = tt
  over-narrow place (shape.Cast kind e) sets words are = tt
  over-narrow place (shape.Binary o l r) sets words are = tt

  pub over-kind : (place : Kind) (e : ExprShape) → term_kind (kinds_of columns) (term_over columns reach place e) ≡ kind_of reach place e
  over-kind place e = apart-kind (term_of reach place e) ∙ term-kind reach place e

  pub over-value : (place : Kind) (e : ExprShape) (sets : Sets) (words row : Row) → AreWords parameters sets words → length row ≡ length columns
      → term_value sets (kinds_of columns) row (term_over columns reach place e) ≡ value_of reach place e (row ++ words)
  over-value place e sets words row are long =
      apart-value sets words row are long (term_of reach place e) ∙ term-value sets reach place e (row ++ words)

  pub over-fits : AreKinds reach → (e : ExprShape) (place : Kind) → IsKind place → HasKind reach place e
      → IsTerm (kinds_of columns) (term_over columns reach place e)
  over-fits are e place k h = apart-fits are (term_of reach place e) (term-fits reach are e place k h)
