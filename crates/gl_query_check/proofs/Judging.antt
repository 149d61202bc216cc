-- An expression that is judged before its place is known.
use Rattle.std.proofs.Common.{◌≡◌, ℕ, Bool, true, false, List, Option, None, Some, refl, sym, ap, ◌∙◌}
use Rattle.std.specs.Prelude.{IsSome, is_none, is_some, not}
use Rattle.gl_values.specs.declared.kind.Kind.{Kind}
use Rattle.gl_values.specs.declared.kind.Kind.TheVariants.{Unsigned}
use Rattle.gl_values.specs.declared.op.Op.{Op}
use Rattle.gl_values.specs.declared.op.Sort.{Sort}
use Rattle.gl_values.specs.declared.op.Sort.TheVariants.{Arithmetic, Comparison, Logic}
use Rattle.gl_values.specs.Kinds.{is_number}
use Rattle.gl_values.specs.Operators.{sort_of}
use Rattle.gl_values.proofs.KindLemmas.{equal_kinds}
use Rattle.gl_schema.specs.declared.schema.Column.{Column}
use Rattle.gl_query.specs.declared.fault.QueryFault.{QueryFault}
use Rattle.gl_query.specs.declared.fault.QueryFault.TheVariants.{KindsDiffer}
use Rattle.gl_query.specs.Alike.{expr_alike}
use Rattle.gl_query.specs.Faults.{distance_fault, expr_fault, of_operands, operator_fault, or_else, unless}
use Rattle.gl_query.specs.Shapes.{ExprShape}
use Rattle.gl_query.specs.Trees.{ExprTree}
use Rattle.gl_query.specs.Trees as tree
use Rattle.gl_query.specs.Values.{kind_of, loose_kind, operand_place, operator_kind, own_kind}
use Rattle.gl_query_check.specs.declared.expressions.Judged.{Judged}
use Rattle.gl_query_check.specs.declared.expressions.Judged.TheVariants.{Loose, Fixed}
use Rattle.gl_query_check.specs.declared.expressions.Placed.{Placed}
use Rattle.gl_query_check.specs.Judging.{IsFixed, IsPlaced, Judges, kind_judged, place_beside}

-- ---- what is loose

-- the parts of a loose operator
pub record IsLooseOperator (sort : Sort) (left right : Option Kind) : Type 0 where
  pub sort' : sort ≡ Arithmetic
  pub left' : left ≡ None
  pub right' : right ≡ None

pub loose_parts : (sort : Sort) (left right : Option Kind) → operator_kind sort left right ≡ None → IsLooseOperator sort left right
loose_parts Arithmetic None None h = record { sort' = refl; left' = refl; right' = refl }
loose_parts Arithmetic None (Some kind) h = absurd cc
loose_parts Arithmetic (Some kind) right h = absurd cc
loose_parts Comparison left right h = absurd cc
loose_parts Logic left right h = absurd cc

pub loose_operator : (columns : List Column) (place : Kind) (op : Op) (l r : ExprTree) (at : ℕ) → own_kind columns (expr_alike (tree.Binary op l r at)) ≡ None
    → expr_fault columns place (tree.Binary op l r at) ≡ or_else (or_else (or_else (expr_fault columns place l) (expr_fault columns place r)) (unless (is_number place) (KindsDiffer at))) (distance_fault op place r)
loose_operator columns place op l r at h =
    let p = loose_parts (sort_of op) (own_kind columns (expr_alike l)) (own_kind columns (expr_alike r)) h in
    rw (p.left', p.right', p.sort', equal_kinds place place refl) refl

pub loose_flip : (columns : List Column) (place : Kind) (e : ExprTree) (at : ℕ) → own_kind columns (expr_alike e) ≡ None
    → expr_fault columns place (tree.Flip e at) ≡ or_else (expr_fault columns place e) (unless (is_number place) (KindsDiffer at))
loose_flip columns place e at h = rw h refl

-- the answer of `is_none`
pub none_is : (own : Option Kind) (b : Bool) → is_some own ≡ not b → b ≡ is_none own
none_is None true e = refl
none_is None false e = absurd cc
none_is (Some kind) true e = absurd cc
none_is (Some kind) false e = refl

-- ---- operands

-- an operand's place is the one beside the other, unless its place is nothing to it
pub record IsSame (columns : List Column) (p q : Kind) (e : ExprTree) : Type 0 where
  pub kind : kind_of columns p (expr_alike e) ≡ kind_of columns q (expr_alike e)
  pub fault : expr_fault columns p e ≡ expr_fault columns q e

at_one : (columns : List Column) (p q : Kind) (e : ExprTree) → p ≡ q → IsSame columns p q e
at_one columns p q e h = record { kind = ap (λ (k : Kind). kind_of columns k (expr_alike e)) h; fault = ap (λ (k : Kind). expr_fault columns k e) h }

fixed_same : (columns : List Column) (p q : Kind) (e : ExprTree) (kind : Kind) (fault : Option QueryFault) → IsFixed columns e kind fault → IsSame columns p q e
fixed_same columns p q e kind fault f = record { kind = rw f.kind' refl; fault = f.fault' p ∙ sym (f.fault' q) }

own_is : (columns : List Column) (e : ExprTree) (j : Judged) → Judges columns e j → own_kind columns (expr_alike e) ≡ kind_judged j
own_is columns e Loose h = h
own_is columns e (Fixed kind fault) f = f.kind'

-- beside a loose operand, one of an operator that is not loose has no place of the whole
no_whole : (sort : Sort) (place : Kind) (e : ExprShape) (own : Option Kind) → own ≡ None → IsSome (operator_kind sort own None) → loose_kind sort place e ≡ loose_kind sort (Unsigned 1) e
no_whole Arithmetic place e None n s = absurd cc
no_whole Arithmetic place e (Some kind) n s = absurd cc
no_whole Comparison place e own n s = refl
no_whole Logic place e own n s = refl

operand_same : (columns : List Column) (op : Op) (place : Kind) (e other : ExprTree) (own beside : Judged) → Judges columns e own → Judges columns other beside
    → IsSome (operator_kind (sort_of op) (kind_judged own) (kind_judged beside))
    → IsSame columns (operand_place columns op place (expr_alike e) (expr_alike other)) (place_beside (sort_of op) (kind_judged beside) (expr_alike e)) e
operand_same columns op place e other (Fixed kind fault) beside f j s = fixed_same columns _ _ e kind fault f
operand_same columns op place e other Loose (Fixed kind fault) h f s = at_one columns _ kind e (rw f.kind' refl)
operand_same columns op place e other Loose Loose h j s = at_one columns _ _ e (rw j (no_whole (sort_of op) place (expr_alike e) None refl s))

-- ---- operators

turned : (sort : Sort) (left right : Option Kind) → IsSome (operator_kind sort left right) → IsSome (operator_kind sort right left)
turned Arithmetic None None s = absurd cc
turned Arithmetic None (Some kind) s = refl
turned Arithmetic (Some kind) None s = refl
turned Arithmetic (Some kind) (Some other) s = refl
turned Comparison left right s = refl
turned Logic left right s = refl

pub whole_kind : (columns : List Column) (op : Op) (l r : ExprTree) (jl jr : Judged) (at : ℕ) → Judges columns l jl → Judges columns r jr
    → own_kind columns (expr_alike (tree.Binary op l r at)) ≡ operator_kind (sort_of op) (kind_judged jl) (kind_judged jr)
whole_kind columns op l r jl jr at hl hr = rw (own_is columns l jl hl, own_is columns r jr hr) refl

-- the fault of an operator, by what is known of its operands
abbrev pub fault_by : Op → ExprTree → ℕ → Option Kind → Option Kind → Option QueryFault → Option QueryFault → Kind → Kind → Option QueryFault
fault_by op r at left_own right_own left right left_kind right_kind =
    or_else (or_else (of_operands (is_none left_own) (is_none right_own) left right) (operator_fault (sort_of op) left_kind right_kind at)) (distance_fault op left_kind r)

fault_same : (op : Op) (e : ExprTree) (at : ℕ) (a a' b b' : Option Kind) (f f' g g' : Option QueryFault) (j j' k k' : Kind) → a ≡ a' → b ≡ b' → f ≡ f' → g ≡ g' → j ≡ j' → k ≡ k'
    → fault_by op e at a b f g j k ≡ fault_by op e at a' b' f' g' j' k'
fault_same op e at a a' b b' f f' g g' j j' k k' p q r s t u = rw (p, q, r, s, t, u) refl

pub combined_fixed : (columns : List Column) (op : Op) (l r : ExprTree) (at : ℕ) (jl jr : Judged) (left right : Placed) (kind : Kind) → Judges columns l jl → Judges columns r jr
    → operator_kind (sort_of op) (kind_judged jl) (kind_judged jr) ≡ Some kind
    → IsPlaced columns (place_beside (sort_of op) (kind_judged jr) (expr_alike l)) l left → IsPlaced columns (place_beside (sort_of op) (kind_judged jl) (expr_alike r)) r right
    → IsFixed columns (tree.Binary op l r at) kind (fault_by op r at (kind_judged jl) (kind_judged jr) left.fault right.fault left.kind right.kind)
combined_fixed columns op l r at jl jr left right kind hl hr s pl pr = record {
  kind' = whole_kind columns op l r jl jr at hl hr ∙ s;
  fault' = λ place.
      let some : IsSome (operator_kind (sort_of op) (kind_judged jl) (kind_judged jr)) = rw s refl in
      let a = operand_same columns op place l r jl jr hl hr some in
      let b = operand_same columns op place r l jr jl hr hl (turned (sort_of op) (kind_judged jl) (kind_judged jr) some) in
      fault_same op r at _ _ _ _ _ _ _ _ _ _ _ _ (own_is columns l jl hl) (own_is columns r jr hr) (a.fault ∙ sym pl.fault') (b.fault ∙ sym pr.fault') (a.kind ∙ sym pl.kind') (b.kind ∙ sym pr.kind');
}

-- other bits have the kind of what they are made of
pub flip_fixed : (columns : List Column) (e : ExprTree) (at : ℕ) (kind : Kind) (fault : Option QueryFault) → IsFixed columns e kind fault
    → IsFixed columns (tree.Flip e at) kind (or_else fault (unless (is_number kind) (KindsDiffer at)))
flip_fixed columns e at kind fault f = record { kind' = f.kind'; fault' = λ place. rw (f.kind', f.fault' place) refl }
