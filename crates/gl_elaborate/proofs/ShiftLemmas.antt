-- What stands on the right of a shift stays a literal below the width.
use Rattle.std.proofs.Common.{◌≡◌, ℕ, Bool, true, false, List, Some, subst}
use Rattle.std.specs.Prelude.{◌||◌, IsTrue, not}
use Rattle.gl_values.specs.Operators.{is_shift}
use Rattle.gl_values.specs.declared.kind.Kind.{Kind}
use Rattle.gl_values.specs.declared.op.Op.{Op}
use Rattle.gl_schema.specs.declared.schema.Column.{Column as NamedColumn}
use Rattle.gl_query.specs.Shapes.{ExprShape}
use Rattle.gl_query.specs.Shapes as shape
use Rattle.gl_query.specs.Values.{shift_fits}
use Rattle.gl_algebra.specs.declared.node.ColOp.{ColOp}
use Rattle.gl_algebra.specs.declared.node.Operand.{Operand}
use Rattle.gl_algebra.specs.Columns.{distance_fits}
use Rattle.std.proofs.lemmas.Option.{same_Some}
use Rattle.gl_elaborate.specs.Levels.{leaf_of, reduced}
use Rattle.gl_elaborate.specs.Terms.{Term, Column, Literal, Parameter, Not, Flip, Cast, Binary, apart, named, term_of, term_shifts}

or_left : (a b : Bool) → a ≡ true → (a || b) ≡ true
or_left true b h = h
or_left false b h = absurd (cc)

-- an operator that is no shift takes any term on its right
any-shifts : (o : Op) (kind : Kind) (t : Term) → IsTrue (not (is_shift o)) → IsTrue (term_shifts o kind t)
any-shifts o kind (Column n) h = h
any-shifts o kind (Literal w k) h = or_left (not (is_shift o)) _ h
any-shifts o kind (Parameter n k) h = h
any-shifts o kind (Not t) h = h
any-shifts o kind (Flip t) h = h
any-shifts o kind (Cast t k) h = h
any-shifts o kind (Binary p l r) h = h

-- the right side of an accepted operator
pub shape-shifts : (o : Op) (kind : Kind) (columns : List NamedColumn) (place : Kind) (e : ExprShape) → IsTrue (shift_fits o kind e) → IsTrue (term_shifts o kind (term_of columns place e))
shape-shifts o kind columns place (shape.Column name) h = h
shape-shifts o kind columns place (shape.Number n) h = h
shape-shifts o kind columns place (shape.Minus n) h = or_left (not (is_shift o)) _ h
shape-shifts o kind columns place (shape.Letters text) h = or_left (not (is_shift o)) _ h
shape-shifts o kind columns place (shape.Not e) h = h
shape-shifts o kind columns place (shape.Flip e) h = h
shape-shifts o kind columns place (shape.Cast to e) h = h
shape-shifts o kind columns place (shape.Binary p l r) h = h

-- with its parameters apart
pub apart-shifts : (o : Op) (kind : Kind) (own : ℕ) (reach : List NamedColumn) (t : Term) → IsTrue (term_shifts o kind t) → IsTrue (term_shifts o kind (apart own reach t))
apart-shifts o kind own reach (Column n) h = any-shifts o kind (named own reach n) h
apart-shifts o kind own reach (Literal w k) h = h
apart-shifts o kind own reach (Parameter n k) h = h
apart-shifts o kind own reach (Not t) h = h
apart-shifts o kind own reach (Flip t) h = h
apart-shifts o kind own reach (Cast t k) h = h
apart-shifts o kind own reach (Binary p l r) h = h

-- behind a level
pub reduced-shifts : (o : Op) (kind : Kind) (base : ℕ) (level : List ColOp) (t : Term) → IsTrue (term_shifts o kind t) → IsTrue (term_shifts o kind (reduced base level t))
reduced-shifts o kind base level (Column n) h = h
reduced-shifts o kind base level (Literal w k) h = h
reduced-shifts o kind base level (Parameter n k) h = h
reduced-shifts o kind base level (Not t) h = any-shifts o kind (reduced base level (Not t)) h
reduced-shifts o kind base level (Flip t) h = any-shifts o kind (reduced base level (Flip t)) h
reduced-shifts o kind base level (Cast t k) h = any-shifts o kind (reduced base level (Cast t k)) h
reduced-shifts o kind base level (Binary p l r) h = any-shifts o kind (reduced base level (Binary p l r)) h

-- as an operand
pub leaf-shifts : (o : Op) (kind : Kind) (t : Term) (x : Operand) → leaf_of t ≡ Some x → IsTrue (term_shifts o kind t) → IsTrue (distance_fits o kind x)
leaf-shifts o kind (Column n) x e h = subst (λ (y : Operand). IsTrue (distance_fits o kind y)) (same_Some _ _ e) h
leaf-shifts o kind (Literal w k) x e h = subst (λ (y : Operand). IsTrue (distance_fits o kind y)) (same_Some _ _ e) h
leaf-shifts o kind (Parameter n k) x e h = subst (λ (y : Operand). IsTrue (distance_fits o kind y)) (same_Some _ _ e) h
leaf-shifts o kind (Not t) x e h = absurd (cc)
leaf-shifts o kind (Flip t) x e h = absurd (cc)
leaf-shifts o kind (Cast t k) x e h = absurd (cc)
leaf-shifts o kind (Binary p l r) x e h = absurd (cc)
