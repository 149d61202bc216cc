-- The parameters that the terms of a query name are those of its schema, through all levels.
use Rattle.std.proofs.Common.{◌≡◌, ℕ, zero, suc, ◌-◌, ◌<◌, List, [], ◌∷◌, ◌++◌, length, map, Option, Some, None, slice_get, refl, sym, ap, subst, ◌∙◌, arith, lit≤, length-append}
use Rattle.std.specs.Prelude.{nat_lt, option_map, option_to_list}
use Rattle.std.specs.List.{AllByRecursion, range_with_len}
use Rattle.std.proofs.lemmas.Bool.{ltb-false}
use Rattle.std.proofs.lemmas.List.{length-map}
use Rattle.std.proofs.lemmas.Option.{same_Some}
use Rattle.gl_bits.proofs.AllLists.{all_append, all_mapped}
use Rattle.gl_bits.proofs.Bools.{by_cases}
use Rattle.gl_values.specs.Kinds.{IsKind, width_of}
use Rattle.gl_values.specs.declared.kind.Kind.{Kind}
use Rattle.gl_values.specs.declared.kind.Kind.TheVariants.{Unsigned}
use Rattle.gl_values.specs.declared.op.Op.{Op}
use Rattle.gl_schema.specs.declared.schema.Column.{Column as NamedColumn}
use Rattle.gl_schema.specs.Schemas.{kinds_of}
use Rattle.gl_query.specs.Shapes.{ExprShape, AggShape, AggItemShape, FrameAggShape, FrameShape, FrameItemShape, ItemShape, PickShape}
use Rattle.gl_query.specs.Shapes as shape
use Rattle.gl_query.specs.Values.{HasKind, column_number, kind_alone, operand_place}
use Rattle.gl_query.specs.Accepted.{IsAgg, IsFilter, IsFrame, IsFrameAgg, IsPick}
use Rattle.gl_query.specs.Laws.{AreKinds}
use Rattle.gl_query.proofs.Real.{alone_kind}
use Rattle.gl_algebra.specs.declared.node.Operand.{Operand}
use Rattle.gl_algebra.specs.declared.node.ColOp.{ColOp}
use Rattle.gl_algebra.specs.declared.node.ColOp.TheVariants as op
use Rattle.gl_algebra.specs.Known.{OpKnown, OperandKnown}
use Rattle.gl_elaborate.specs.Terms.{Term, Column, Literal, Parameter, Not, Flip, Cast, Binary, IsTerm, kind_numbered, named, term_of, term_over}
use Rattle.gl_elaborate.specs.Levels.{binary_of, innermost, innermost_of_all, leaf_of, level_of, op_of, operand_of, or_column, or_these, reduced}
use Rattle.gl_elaborate.specs.Plans.{arguments_of, arguments_of_all, condition_of, filter_of, frame_arguments, frame_terms, frames_terms, picked_terms}
use Rattle.gl_elaborate.proofs.AcceptedLemmas.{term-fits}
use Rattle.gl_elaborate.proofs.ApartLemmas.{past-kind}
use Rattle.gl_elaborate.proofs.LevelLemmas.{all-inserted}

-- the parameters that a term names are there, where their words have these widths
abbrev pub IsKnown : List ℕ → Term → Type 0
IsKnown words (Column n) = Unit {0}
IsKnown words (Literal w k) = Unit {0}
IsKnown words (Parameter n k) = slice_get words n ≡ Some (width_of k)
IsKnown words (Not t) = IsKnown words t
IsKnown words (Flip t) = IsKnown words t
IsKnown words (Cast t k) = IsKnown words t
IsKnown words (Binary o l r) = IsKnown words l × IsKnown words r

-- the widths of the words of parameters
abbrev pub widths_of : List NamedColumn → List ℕ
widths_of parameters = map (λ (c : NamedColumn). width_of c.kind) parameters

-- what holds of all holds of each
pub all-of : {A : Type 0} (P : A → Type 0) → ((x : A) → P x) → (xs : List A) → AllByRecursion P xs
all-of P h [] = tt
all-of P h (x ∷ xs) = (h x, all-of P h xs)

-- ---- the terms of a query

word-there : (parameters : List NamedColumn) (k : ℕ) → k < length parameters → slice_get (widths_of parameters) k ≡ Some (width_of (kind_numbered parameters k))
word-there [] k lt = absurd (omega (arith, lt))
word-there (c ∷ cs) zero lt = refl
word-there (c ∷ cs) (suc k) lt = word-there cs k (omega (arith, lt))

condition-known : (words : List ℕ) (t : Term) → IsKnown words t → IsKnown words (condition_of t)
condition-known words (Column n) h = tt
condition-known words (Literal w k) h = tt
condition-known words (Parameter n k) h = h
condition-known words (Not t) h = h
condition-known words (Flip t) h = h
condition-known words (Cast t k) h = h
condition-known words (Binary o l r) h = h

module _ (words : List ℕ) (columns parameters : List NamedColumn) (same : widths_of parameters ≡ words) (are : AreKinds (columns ++ parameters)) where
  -- what an expression may name
  abbrev within : List NamedColumn
  within = columns ++ parameters

  named-known : (n : ℕ) → n < length within → IsKnown words (named (length columns) within n)
  named-known n below = by_cases (nat_lt n (length columns))
      (λ e. rw e tt)
      (λ e.
      let above = ltb-false n (length columns) e in
      let k = n - length columns in
      let there : k < length parameters = omega (arith, above, below, length-append columns parameters) in
      let known : slice_get words k ≡ Some (width_of (kind_numbered parameters k)) =
      subst (λ (ws : List ℕ). slice_get ws k ≡ Some (width_of (kind_numbered parameters k))) same (word-there parameters k there) in
      rw e (known ∙ ap (λ (j : Kind). Some (width_of j)) (sym (past-kind columns parameters n above))))

  over-known : (e : ExprShape) (place : Kind) → IsTerm (kinds_of within) (term_of within place e) → IsKnown words (term_over columns within place e)
  over-known (shape.Column name) place fits =
      named-known (column_number within name) (omega (arith, fits, length-map within (λ (c : NamedColumn). c.kind)))
  over-known (shape.Number n) place fits = tt
  over-known (shape.Minus n) place fits = tt
  over-known (shape.Letters text) place fits = tt
  over-known (shape.Not e) place fits = over-known e (Unsigned 1) fits.0
  over-known (shape.Flip e) place fits = over-known e place fits.0
  over-known (shape.Cast kind e) place fits = over-known e (kind_alone e) fits.0
  over-known (shape.Binary o l r) place fits =
      (over-known l (operand_place within o place l r) fits.0, over-known r (operand_place within o place r l) fits.1)

  accepted-known : (e : ExprShape) (place : Kind) → IsKind place → HasKind within place e → IsKnown words (term_over columns within place e)
  accepted-known e place k h = over-known e place (term-fits within are e place k h)

  -- an expression that stands alone
  alone-known : (e : ExprShape) → HasKind within (kind_alone e) e → IsKnown words (term_over columns within (kind_alone e) e)
  alone-known e h = accepted-known e (kind_alone e) (alone_kind e) h

  pub filter-known : (o : Option ExprShape) → IsFilter within o → AllByRecursion (IsKnown words) (option_to_list (filter_of columns within o))
  filter-known None h = tt
  filter-known (Some e) h =
      (condition-known words (term_over columns within (Unsigned 1) e) (accepted-known e (Unsigned 1) (lit≤ tt, lit≤ tt) h.typed), tt)

  items-known : (items : List ItemShape) → AllByRecursion (λ (i : ItemShape). HasKind within (kind_alone i.expr) i.expr) items
      → AllByRecursion (IsKnown words) (picked_terms columns within (shape.Items items))
  items-known [] h = tt
  items-known (i ∷ items) h = (alone-known i.expr h.0, items-known items h.1)

  pub picks-known : (pick : PickShape) → IsPick within pick → AllByRecursion (IsKnown words) (picked_terms columns within pick)
  picks-known shape.All h =
      let numbers = range_with_len 0 (length columns) in
      all_mapped (IsKnown words) Column numbers (all-of (λ (n : ℕ). IsKnown words (Column n)) (λ n. tt) numbers)
  picks-known (shape.Items items) h = items-known items h.typed

  argument-known : (a : AggShape) → IsAgg within a → AllByRecursion (IsKnown words) (arguments_of columns within a)
  argument-known shape.Count h = tt
  argument-known (shape.Sum e) h = (alone-known e h.typed, tt)
  argument-known (shape.Min e) h = (alone-known e h, tt)
  argument-known (shape.Max e) h = (alone-known e h, tt)
  argument-known (shape.Avg e) h = (alone-known e h.typed, tt)
  argument-known (shape.Wsum e weights) h = (alone-known e h.summed.typed, tt)

  pub arguments-known : (items : List AggItemShape) → AllByRecursion (λ (i : AggItemShape). IsAgg within i.agg) items
      → AllByRecursion (IsKnown words) (arguments_of_all columns within items)
  arguments-known [] h = tt
  arguments-known (i ∷ items) h =
      all_append (IsKnown words) (arguments_of columns within i.agg) (arguments_of_all columns within items) (argument-known i.agg h.0) (arguments-known items h.1)

  own-known : (a : FrameAggShape) → IsFrameAgg within a → AllByRecursion (IsKnown words) (frame_arguments columns within a)
  own-known shape.CountOver h = tt
  own-known (shape.SumOver e) h = (alone-known e h.typed, tt)
  own-known (shape.MinOver e) h = (alone-known e h, tt)
  own-known (shape.MaxOver e) h = (alone-known e h, tt)
  own-known (shape.AvgOver e) h = (alone-known e h.typed, tt)
  own-known (shape.LastOver e) h = (alone-known e h, tt)

  frame-known : (f : FrameShape) → IsFrame within f → AllByRecursion (IsKnown words) (frame_terms columns within f)
  frame-known (shape.Own e) h = (alone-known e h, tt)
  frame-known (shape.Lag e back) h = (alone-known e h.typed, tt)
  frame-known (shape.Over a o back) h =
      all_append (IsKnown words) (frame_arguments columns within a) (option_to_list (filter_of columns within o)) (own-known a h.typed) (filter-known o h.picks)

  pub frames-known : (items : List FrameItemShape) → AllByRecursion (λ (i : FrameItemShape). IsFrame within i.frame) items
      → AllByRecursion (IsKnown words) (frames_terms columns within items)
  frames-known [] h = tt
  frames-known (i ∷ items) h =
      all_append (IsKnown words) (frame_terms columns within i.frame) (frames_terms columns within items) (frame-known i.frame h.0) (frames-known items h.1)

-- ---- levels

module _ (words : List ℕ) where
  leaf-known : (t : Term) (x : Operand) → leaf_of t ≡ Some x → IsKnown words t → OperandKnown words x
  leaf-known (Column n) x e h = subst (OperandKnown words) (same_Some _ _ e) tt
  leaf-known (Literal w k) x e h = subst (OperandKnown words) (same_Some _ _ e) tt
  leaf-known (Parameter n k) x e h = subst (OperandKnown words) (same_Some _ _ e) h
  leaf-known (Not t) x e h = absurd (cc)
  leaf-known (Flip t) x e h = absurd (cc)
  leaf-known (Cast t k) x e h = absurd (cc)
  leaf-known (Binary o l r) x e h = absurd (cc)

  not-known : (t : Term) (x : ColOp) (found : Option Operand) → leaf_of t ≡ found → option_map op.Not found ≡ Some x → IsKnown words t → OpKnown words x
  not-known t x None e h k = absurd (cc)
  not-known t x (Some y) e h k = subst (OpKnown words) (same_Some _ _ h) (leaf-known t y e k)

  flip-known : (t : Term) (x : ColOp) (found : Option Operand) → leaf_of t ≡ found → option_map op.Flip found ≡ Some x → IsKnown words t → OpKnown words x
  flip-known t x None e h k = absurd (cc)
  flip-known t x (Some y) e h k = subst (OpKnown words) (same_Some _ _ h) (leaf-known t y e k)

  cast-known : (t : Term) (kind : Kind) (x : ColOp) (found : Option Operand) → leaf_of t ≡ found → option_map (λ (y : Operand). op.Cast y kind) found ≡ Some x → IsKnown words t
      → OpKnown words x
  cast-known t kind x None e h k = absurd (cc)
  cast-known t kind x (Some y) e h k = subst (OpKnown words) (same_Some _ _ h) (leaf-known t y e k)

  binary-known : (o : Op) (l r : Term) (x : ColOp) (a b : Option Operand) → leaf_of l ≡ a → leaf_of r ≡ b → binary_of o a b ≡ Some x → IsKnown words (Binary o l r)
      → OpKnown words x
  binary-known o l r x None b e f h k = absurd (cc)
  binary-known o l r x (Some y) None e f h k = absurd (cc)
  binary-known o l r x (Some y) (Some z) e f h k = subst (OpKnown words) (same_Some _ _ h) (leaf-known l y e k.0, leaf-known r z f k.1)

  op-known : (t : Term) (x : ColOp) → op_of t ≡ Some x → IsKnown words t → OpKnown words x
  op-known (Column n) x e h = absurd (cc)
  op-known (Literal w k) x e h = absurd (cc)
  op-known (Parameter n k) x e h = absurd (cc)
  op-known (Not t) x e h = not-known t x (leaf_of t) refl e h
  op-known (Flip t) x e h = flip-known t x (leaf_of t) refl e h
  op-known (Cast t k) x e h = cast-known t k x (leaf_of t) refl e h
  op-known (Binary o l r) x e h = binary-known o l r x (leaf_of l) (leaf_of r) refl refl e h

  or-known : (t : Term) (found : Option ColOp) (ops : List ColOp) → op_of t ≡ found → IsKnown words t → AllByRecursion (OpKnown words) ops
      → AllByRecursion (OpKnown words) (or_these found ops)
  or-known t None ops e h all = all
  or-known t (Some x) ops e h all = (op-known t x e h, tt)

  innermost-known : (t : Term) → IsKnown words t → AllByRecursion (OpKnown words) (innermost t)
  innermost-known (Column n) h = tt
  innermost-known (Literal w k) h = tt
  innermost-known (Parameter n k) h = tt
  innermost-known (Not t) h = or-known (Not t) (op_of (Not t)) (innermost t) refl h (innermost-known t h)
  innermost-known (Flip t) h = or-known (Flip t) (op_of (Flip t)) (innermost t) refl h (innermost-known t h)
  innermost-known (Cast t k) h = or-known (Cast t k) (op_of (Cast t k)) (innermost t) refl h (innermost-known t h)
  innermost-known (Binary o l r) h = or-known (Binary o l r) (op_of (Binary o l r)) (innermost l ++ innermost r) refl h
      (all_append (OpKnown words) (innermost l) (innermost r) (innermost-known l h.0) (innermost-known r h.1))

  all-innermost-known : (ts : List Term) → AllByRecursion (IsKnown words) ts → AllByRecursion (OpKnown words) (innermost_of_all ts)
  all-innermost-known [] h = tt
  all-innermost-known (t ∷ ts) h =
      all_append (OpKnown words) (innermost t) (innermost_of_all ts) (innermost-known t h.0) (all-innermost-known ts h.1)

  pub level-known : (ts : List Term) → AllByRecursion (IsKnown words) ts → AllByRecursion (OpKnown words) (level_of ts)
  unfolding level_of
  level-known ts h = all-inserted (OpKnown words) (innermost_of_all ts) [] tt (all-innermost-known ts h)

  -- a column, or the term that is left
  column-known : (base : ℕ) (level : List ColOp) (found : Option ColOp) (t : Term) → IsKnown words t → IsKnown words (or_column base level found t)
  column-known base level None t h = h
  column-known base level (Some x) t h = tt

  pub reduced-known : (base : ℕ) (level : List ColOp) (t : Term) → IsKnown words t → IsKnown words (reduced base level t)
  reduced-known base level (Column n) h = tt
  reduced-known base level (Literal w k) h = tt
  reduced-known base level (Parameter n k) h = h
  reduced-known base level (Not t) h = column-known base level (op_of (Not t)) (Not (reduced base level t)) (reduced-known base level t h)
  reduced-known base level (Flip t) h = column-known base level (op_of (Flip t)) (Flip (reduced base level t)) (reduced-known base level t h)
  reduced-known base level (Cast t k) h = column-known base level (op_of (Cast t k)) (Cast (reduced base level t) k) (reduced-known base level t h)
  reduced-known base level (Binary o l r) h = column-known base level (op_of (Binary o l r)) (Binary o (reduced base level l) (reduced base level r))
      (reduced-known base level l h.0, reduced-known base level r h.1)

  pub operand-known : (t : Term) → IsKnown words t → OperandKnown words (operand_of t)
  operand-known (Column n) h = tt
  operand-known (Literal w k) h = tt
  operand-known (Parameter n k) h = h
  operand-known (Not t) h = tt
  operand-known (Flip t) h = tt
  operand-known (Cast t k) h = tt
  operand-known (Binary o l r) h = tt
