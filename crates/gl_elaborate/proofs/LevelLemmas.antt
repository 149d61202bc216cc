-- A level: what is reduced by it keeps its kind and its value.
use Rattle.std.proofs.Common.{◌≡◌, ℕ, ◌+◌, ◌<◌, true, List, [], ◌∷◌, ◌++◌, length, Option, Some, None, slice_get, get_or, refl, sym, ap, subst, ◌∙◌, arith, map, length-append}
use Rattle.std.specs.Prelude.{IsTrue, option_map}
use Rattle.std.specs.List.{AllByRecursion, AllZip, list_any, position_or_len}
use Rattle.std.proofs.lemmas.List.{length-map, get_or_append_left, get_or-append-add}
use Rattle.std.proofs.lemmas.Option.{slice_get-map, slice_get_within, get_or_from_slice_get, same_Some}
use Rattle.indexmap.specs.IndexSet.{insert_key, insert_all}
use Rattle.gl_values.specs.Kinds.{can_cast, is_number}
use Rattle.gl_bits.specs.Words.{not_of}
use Rattle.gl_values.specs.declared.kind.Kind.{Kind}
use Rattle.gl_algebra.specs.declared.node.Operand.{Operand}
use Rattle.gl_values.specs.declared.op.Op.{Op}
use Rattle.gl_algebra.specs.declared.node.ColOp.{ColOp}
use Rattle.gl_algebra.specs.declared.node.ColOp.TheVariants as op
use Rattle.gl_values.specs.Operators.{result_kind, sort_of}
use Rattle.gl_bits.proofs.AllLists.{all_append, all_front, all_back}
use Rattle.gl_bits.proofs.Bools.{by_cases}
use Rattle.gl_values.specs.Results.{Row}
use Rattle.gl_algebra.specs.Columns.{bit_kind, distance_fits, kind_of_operand, kind_of_op, OperandFits, OpFits, SortFits}
use Rattle.gl_algebra.specs.Values.{Sets, value_of_operand, value_of_op}
use Rattle.gl_algebra.specs.Results.{computed}
use Rattle.gl_algebra.proofs.ListLemmas.{first_passes}
use Rattle.gl_algebra.proofs.NodeEquality.{same_op as op-same}
use Rattle.gl_elaborate.proofs.ShiftLemmas.{leaf-shifts, reduced-shifts}
use Rattle.gl_elaborate.specs.Terms.{Term, Column, Literal, Parameter, Not, Flip, Cast, Binary, IsTerm, term_kind, term_shifts, term_value}
use Rattle.gl_elaborate.proofs.DepthLemmas.{IsNoLiteral}
use Rattle.gl_elaborate.specs.Levels.{same_op, leaf_of, binary_of, op_of, or_these, innermost, innermost_of_all, level_of, or_column, reduced}
use Rattle.gl_algebra.specs.contracts.node.ColOpEq.TheImpl.Laws as ColOpLaws

-- ---- lists of operations

-- an operation is among these
abbrev pub Has : List ColOp → ColOp → Type 0
Has ops x = list_any (same_op x) ops ≡ true

op-self : (x : ColOp) → same_op x x ≡ true
op-self x = ColOpLaws.laws-law.refl x

has-more : (x y : ColOp) (ops : List ColOp) → Has ops x → Has (ops ++ y ∷ []) x
has-more x y [] g = absurd (cc)
has-more x y (w ∷ ws) g = by_cases (same_op x w) (λ e. rw e refl) (λ e. rw e (has-more x y ws (rw e at g)))

has-key : (ops : List ColOp) (x y : ColOp) → Has ops x → Has (insert_key same_op ops y) x
has-key ops x y h = by_cases (list_any (same_op y) ops) (λ e. rw e h) (λ e. rw e (has-more x y ops h))

has-last : (ops : List ColOp) (x : ColOp) → Has (ops ++ x ∷ []) x
has-last [] x = rw (op-self x) refl
has-last (w ∷ ws) x = by_cases (same_op x w) (λ e. rw e refl) (λ e. rw e (has-last ws x))

has-here : (ops : List ColOp) (x : ColOp) → Has (insert_key same_op ops x) x
has-here ops x = by_cases (list_any (same_op x) ops) (λ e. rw e e) (λ e. rw e (has-last ops x))

has-all : (xs ops : List ColOp) (x : ColOp) → Has ops x → Has (insert_all same_op ops xs) x
has-all [] ops x h = h
has-all (y ∷ ys) ops x h = has-all ys (insert_key same_op ops y) x (has-key ops x y h)

has-each : (xs ops : List ColOp) → AllByRecursion (Has (insert_all same_op ops xs)) xs
has-each [] ops = tt
has-each (x ∷ xs) ops =
    (has-all xs (insert_key same_op ops x) x (has-here ops x), has-each xs (insert_key same_op ops x))

module _ (P : ColOp → Type 0) where
  all-key : (ops : List ColOp) (x : ColOp) → AllByRecursion P ops → P x → AllByRecursion P (insert_key same_op ops x)
  all-key ops x h p = by_cases (list_any (same_op x) ops) (λ e. rw e h) (λ e. rw e (all_append P ops (x ∷ []) h (p, tt)))

  -- what holds of all that are inserted holds of all that are there then
  pub all-inserted : (xs ops : List ColOp) → AllByRecursion P ops → AllByRecursion P xs → AllByRecursion P (insert_all same_op ops xs)
  all-inserted [] ops h p = h
  all-inserted (x ∷ xs) ops h p = all-inserted xs (insert_key same_op ops x) (all-key ops x h p.0) p.1

-- the operation stands at its place
pub at_place : (ops : List ColOp) (x : ColOp) → Has ops x → slice_get ops (position_or_len (same_op x) ops) ≡ Some x
at_place ops x h =
    let found = first_passes (same_op x) ops h in
    found.1 ∙ ap Some (sym (op-same x found.0 found.2))

-- ---- an operation whose operands are leaves

-- an operand is a term
pub record IsLeaf (kinds : List Kind) (t : Term) (x : Operand) : Type 0 where
  pub fits : OperandFits kinds x
  pub kind : kind_of_operand kinds x ≡ term_kind kinds t
  pub value : (sets : Sets) (row : Row) → value_of_operand sets row x ≡ term_value sets kinds row t

leaf : (kinds : List Kind) (t : Term) (x : Operand) → leaf_of t ≡ Some x → IsTerm kinds t → IsLeaf kinds t x
leaf kinds (Column n) x e fits = subst (IsLeaf kinds (Column n)) (same_Some _ _ e) (record { fits = fits; kind = refl; value = λ sets row. refl })
leaf kinds (Literal w k) x e fits = subst (IsLeaf kinds (Literal w k)) (same_Some _ _ e) (record { fits = fits; kind = refl; value = λ sets row. refl })
leaf kinds (Parameter n k) x e fits = subst (IsLeaf kinds (Parameter n k)) (same_Some _ _ e) (record { fits = fits; kind = refl; value = λ sets row. refl })
leaf kinds (Not t) x e fits = absurd (cc)
leaf kinds (Flip t) x e fits = absurd (cc)
leaf kinds (Cast t k) x e fits = absurd (cc)
leaf kinds (Binary o l r) x e fits = absurd (cc)

-- an operation is a term
pub record IsOp (kinds : List Kind) (t : Term) (x : ColOp) : Type 0 where
  pub fits : OpFits kinds x
  pub kind : kind_of_op kinds x ≡ term_kind kinds t
  pub value : (sets : Sets) (row : Row) → value_of_op sets kinds row x ≡ term_value sets kinds row t

module _ (kinds : List Kind) where
  not-op : (t : Term) (x : Operand) → IsTerm kinds (Not t) → IsLeaf kinds t x → IsOp kinds (Not t) (op.Not x)
  not-op t x fits is = record {
    fits = (is.fits, is.kind ∙ fits.1);
    kind = refl;
    value = λ sets row. ap (not_of 1) (is.value sets row);
  }

  flip-op : (t : Term) (x : Operand) → IsTerm kinds (Flip t) → IsLeaf kinds t x → IsOp kinds (Flip t) (op.Flip x)
  flip-op t x fits is = record {
    fits = (is.fits, subst (λ (j : Kind). IsTrue (is_number j)) (sym is.kind) fits.1);
    kind = is.kind;
    value = λ sets row. rw (is.kind, is.value sets row) refl;
  }

  cast-op : (t : Term) (k : Kind) (x : Operand) → IsTerm kinds (Cast t k) → IsLeaf kinds t x → IsOp kinds (Cast t k) (op.Cast x k)
  cast-op t k x fits is = record {
    fits = (is.fits, subst (λ (j : Kind). IsTrue (can_cast j k)) (sym is.kind) fits.1);
    kind = refl;
    value = λ sets row. rw (is.kind, is.value sets row) refl;
  }

  binary-op : (o : Op) (l r : Term) (x y : Operand) → IsTerm kinds (Binary o l r) → IsLeaf kinds l x → IsLeaf kinds r y
      → IsTrue (distance_fits o (term_kind kinds l) y) → IsOp kinds (Binary o l r) (op.Binary o x y)
  binary-op o l r x y fits a b near = record {
    fits = (
      a.fits,
      b.fits,
      a.kind ∙ fits.2 ∙ sym b.kind,
      subst (SortFits (sort_of o)) (sym a.kind) fits.3,
      subst (λ (j : Kind). IsTrue (distance_fits o j y)) (sym a.kind) near,
    );
    kind = ap (result_kind (sort_of o)) a.kind;
    value = λ sets row. rw (a.kind, a.value sets row, b.value sets row) refl;
  }

  own-not : (t : Term) (x : ColOp) (found : Option Operand) → leaf_of t ≡ found → option_map op.Not found ≡ Some x → IsTerm kinds (Not t) → IsOp kinds (Not t) x
  own-not t x None e h fits = absurd (cc)
  own-not t x (Some y) e h fits = subst (IsOp kinds (Not t)) (same_Some _ _ h) (not-op t y fits (leaf kinds t y e fits.0))

  own-flip : (t : Term) (x : ColOp) (found : Option Operand) → leaf_of t ≡ found → option_map op.Flip found ≡ Some x → IsTerm kinds (Flip t) → IsOp kinds (Flip t) x
  own-flip t x None e h fits = absurd (cc)
  own-flip t x (Some y) e h fits = subst (IsOp kinds (Flip t)) (same_Some _ _ h) (flip-op t y fits (leaf kinds t y e fits.0))

  own-cast : (t : Term) (k : Kind) (x : ColOp) (found : Option Operand) → leaf_of t ≡ found → option_map (λ (y : Operand). op.Cast y k) found ≡ Some x → IsTerm kinds (Cast t k) → IsOp kinds (Cast t k) x
  own-cast t k x None e h fits = absurd (cc)
  own-cast t k x (Some y) e h fits = subst (IsOp kinds (Cast t k)) (same_Some _ _ h) (cast-op t k y fits (leaf kinds t y e fits.0))

  own-binary : (o : Op) (l r : Term) (x : ColOp) (a b : Option Operand) → leaf_of l ≡ a → leaf_of r ≡ b → binary_of o a b ≡ Some x → IsTerm kinds (Binary o l r) → IsOp kinds (Binary o l r) x
  own-binary o l r x None b e f h fits = absurd (cc)
  own-binary o l r x (Some y) None e f h fits = absurd (cc)
  own-binary o l r x (Some y) (Some z) e f h fits =
      subst (IsOp kinds (Binary o l r)) (same_Some _ _ h) (binary-op o l r y z fits (leaf kinds l y e fits.0) (leaf kinds r z f fits.1)
      (leaf-shifts o (term_kind kinds l) r z f fits.4))

  -- a term whose operands are leaves is its operation
  pub own : (t : Term) (x : ColOp) → op_of t ≡ Some x → IsTerm kinds t → IsOp kinds t x
  own (Column n) x e fits = absurd (cc)
  own (Literal w k) x e fits = absurd (cc)
  own (Parameter n k) x e fits = absurd (cc)
  own (Not t) x e fits = own-not t x (leaf_of t) refl e fits
  own (Flip t) x e fits = own-flip t x (leaf_of t) refl e fits
  own (Cast t k) x e fits = own-cast t k x (leaf_of t) refl e fits
  own (Binary o l r) x e fits = own-binary o l r x (leaf_of l) (leaf_of r) refl refl e fits

  -- the innermost operations fit
  or-fit : (t : Term) (found : Option ColOp) (ops : List ColOp) → op_of t ≡ found → IsTerm kinds t → AllByRecursion (OpFits kinds) ops → AllByRecursion (OpFits kinds) (or_these found ops)
  or-fit t None ops e fits h = h
  or-fit t (Some x) ops e fits h = ((own t x e fits).fits, tt)

  pub innermost-fit : (t : Term) → IsTerm kinds t → AllByRecursion (OpFits kinds) (innermost t)
  innermost-fit (Column n) fits = tt
  innermost-fit (Literal w k) fits = tt
  innermost-fit (Parameter n k) fits = tt
  innermost-fit (Not t) fits = or-fit (Not t) (op_of (Not t)) _ refl fits (innermost-fit t fits.0)
  innermost-fit (Flip t) fits = or-fit (Flip t) (op_of (Flip t)) _ refl fits (innermost-fit t fits.0)
  innermost-fit (Cast t k) fits = or-fit (Cast t k) (op_of (Cast t k)) _ refl fits (innermost-fit t fits.0)
  innermost-fit (Binary o l r) fits = or-fit (Binary o l r) (op_of (Binary o l r)) _ refl fits
      (all_append (OpFits kinds) (innermost l) (innermost r) (innermost-fit l fits.0) (innermost-fit r fits.1))

  pub all-innermost-fit : (ts : List Term) → AllByRecursion (IsTerm kinds) ts → AllByRecursion (OpFits kinds) (innermost_of_all ts)
  all-innermost-fit [] fits = tt
  all-innermost-fit (t ∷ ts) fits =
      all_append (OpFits kinds) (innermost t) (innermost_of_all ts) (innermost-fit t fits.0) (all-innermost-fit ts fits.1)

  pub level-fits : (ts : List Term) → AllByRecursion (IsTerm kinds) ts → AllByRecursion (OpFits kinds) (level_of ts)
  unfolding level_of
  level-fits ts fits = all-inserted (OpFits kinds) (innermost_of_all ts) [] tt (all-innermost-fit ts fits)

pub level-has : (ts : List Term) → AllByRecursion (Has (level_of ts)) (innermost_of_all ts)
unfolding level_of
level-has ts = has-each (innermost_of_all ts) []

-- ---- one level

-- a term over wider rows has the kind and the value of another
pub record IsCarried (kinds kinds' : List Kind) (widen : Sets → Row → Row) (t t' : Term) : Type 0 where
  pub fits : IsTerm kinds' t'
  pub kind : term_kind kinds' t' ≡ term_kind kinds t
  pub value : (sets : Sets) (row : Row) → length row ≡ length kinds → term_value sets kinds' (widen sets row) t' ≡ term_value sets kinds row t
  pub still : IsNoLiteral t → IsNoLiteral t'

-- each column stands in wider rows where it stood
abbrev pub KeepsColumns : List Kind → List Kind → (Sets → Row → Row) → Type 0
KeepsColumns kinds kinds' widen = (n : ℕ) → n < length kinds → IsCarried kinds kinds' widen (Column n) (Column n)

module _ (kinds : List Kind) (level : List ColOp) where
  -- the kinds with those of a level
  abbrev pub wider : List Kind
  wider = kinds ++ map (kind_of_op kinds) level

  -- rows with the values of a level
  abbrev pub levelled_row : Sets → Row → Row
  levelled_row sets row = computed sets kinds level row

  as_column : (t : Term) (x : ColOp) → Has level x → IsOp kinds t x
      → IsCarried kinds wider levelled_row t (Column (length kinds + position_or_len (same_op x) level))
  as_column t x has is =
      let place = position_or_len (same_op x) level in
      let at = at_place level x has in
      let kind : get_or (map (kind_of_op kinds) level) place bit_kind ≡ kind_of_op kinds x =
      get_or_from_slice_get (map (kind_of_op kinds) level) place (kind_of_op kinds x) bit_kind
      (slice_get-map (kind_of_op kinds) level place ∙ ap (option_map (kind_of_op kinds)) at) in
      record {
        fits =
            let within : place < length level = slice_get_within level place x at in
            rw (length-append, length-map) (omega arith);
        kind = get_or-append-add kinds (map (kind_of_op kinds) level) place bit_kind ∙ kind ∙ is.kind;
        value = λ sets row same.
            let value : get_or (map (value_of_op sets kinds row) level) place 0 ≡ value_of_op sets kinds row x =
            get_or_from_slice_get (map (value_of_op sets kinds row) level) place (value_of_op sets kinds row x) 0
            (slice_get-map (value_of_op sets kinds row) level place ∙ ap (option_map (value_of_op sets kinds row)) at) in
            ap (λ (n : ℕ). get_or (computed sets kinds level row) (n + place) 0) (sym same)
            ∙ get_or-append-add row (map (value_of_op sets kinds row) level) place 0 ∙ value ∙ is.value sets row;
        still = λ no. tt;
      }

  or-carried : (t rest : Term) (found : Option ColOp) (ops : List ColOp) → op_of t ≡ found → IsTerm kinds t
      → AllByRecursion (Has level) (or_these found ops)
      → (AllByRecursion (Has level) ops → IsCarried kinds wider levelled_row t rest)
      → IsCarried kinds wider levelled_row t (or_column (length kinds) level found rest)
  or-carried t rest None ops e fits has below = below has
  or-carried t rest (Some x) ops e fits has below = as_column t x has.0 (own kinds t x e fits)

  pub carried : (t : Term) → IsTerm kinds t → AllByRecursion (Has level) (innermost t)
      → IsCarried kinds wider levelled_row t (reduced (length kinds) level t)
  carried (Column n) fits has = record {
    fits = rw length-append (omega arith);
    kind = get_or_append_left kinds (map (kind_of_op kinds) level) bit_kind n fits;
    value = λ sets row same. get_or_append_left row (map (value_of_op sets kinds row) level) 0 n (rw same fits);
    still = λ no. tt;
  }
  carried (Literal w k) fits has = record { fits = fits; kind = refl; value = λ sets row same. refl; still = λ no. no }
  carried (Parameter n k) fits has = record { fits = fits; kind = refl; value = λ sets row same. refl; still = λ no. no }
  carried (Not t) fits has = or-carried (Not t) (Not (reduced (length kinds) level t)) (op_of (Not t)) (innermost t) refl fits has
      (λ ops. let below = carried t fits.0 ops in record {
        fits = (below.fits, below.kind ∙ fits.1);
        kind = refl;
        value = λ sets row same. ap (not_of 1) (below.value sets row same);
        still = λ no. tt;
      })
  carried (Flip t) fits has = or-carried (Flip t) (Flip (reduced (length kinds) level t)) (op_of (Flip t)) (innermost t) refl fits has
      (λ ops. let below = carried t fits.0 ops in record {
        fits = (below.fits, subst (λ (j : Kind). IsTrue (is_number j)) (sym below.kind) fits.1);
        kind = below.kind;
        value = λ sets row same. rw (below.kind, below.value sets row same) refl;
        still = λ no. tt;
      })
  carried (Cast t k) fits has = or-carried (Cast t k) (Cast (reduced (length kinds) level t) k) (op_of (Cast t k)) (innermost t) refl fits has
      (λ ops. let below = carried t fits.0 ops in record {
        fits = (below.fits, subst (λ (j : Kind). IsTrue (can_cast j k)) (sym below.kind) fits.1);
        kind = refl;
        value = λ sets row same. rw (below.kind, below.value sets row same) refl;
        still = λ no. tt;
      })
  carried (Binary o l r) fits has = or-carried (Binary o l r)
      (Binary o (reduced (length kinds) level l) (reduced (length kinds) level r)) (op_of (Binary o l r)) (innermost l ++ innermost r) refl fits has
      (λ ops.
      let a = carried l fits.0 (all_front (Has level) (innermost l) (innermost r) ops) in
      let b = carried r fits.1 (all_back (Has level) (innermost l) (innermost r) ops) in
      record {
        fits = (
          a.fits,
          b.fits,
          a.kind ∙ fits.2 ∙ sym b.kind,
          subst (SortFits (sort_of o)) (sym a.kind) fits.3,
          subst (λ (j : Kind). IsTrue (term_shifts o j (reduced (length kinds) level r))) (sym a.kind)
              (reduced-shifts o (term_kind kinds l) (length kinds) level r fits.4),
        );
        kind = ap (result_kind (sort_of o)) a.kind;
        value = λ sets row same. rw (a.kind, a.value sets row same, b.value sets row same) refl;
        still = λ no. tt;
      })

  pub all-carried : (ts : List Term) → AllByRecursion (IsTerm kinds) ts → AllByRecursion (Has level) (innermost_of_all ts)
      → AllZip (IsCarried kinds wider levelled_row) ts (map (reduced (length kinds) level) ts)
  all-carried [] fits has = tt
  all-carried (t ∷ ts) fits has = (
    carried t fits.0 (all_front (Has level) (innermost t) (innermost_of_all ts) has),
    all-carried ts fits.1 (all_back (Has level) (innermost t) (innermost_of_all ts) has),
  )

  pub length-computed : (sets : Sets) (row : Row) → length row ≡ length kinds → length (computed sets kinds level row) ≡ length wider
  length-computed sets row same =
      let a = length-append row (map (value_of_op sets kinds row) level) in
      let b = length-append kinds (map (kind_of_op kinds) level) in
      let c = length-map level (value_of_op sets kinds row) in
      let d = length-map level (kind_of_op kinds) in
      omega arith
