-- An expression of a kind over a row that fits has a word of that kind, and so have its parts.
use Rattle.std.proofs.Common.{ℕ, ◌<◌, ◌≤◌, ◌^◌, List, arith}
use Rattle.std.specs.Prelude.{IsTrue, not}
use Rattle.std.proofs.lemmas.Bool.{ltb-true}
use Rattle.std.proofs.Math.Nat.{pow-le-pow_right}
use Rattle.gl_bits.proofs.Bools.{or_left}
use Rattle.gl_values.specs.declared.kind.Kind.{Kind}
use Rattle.gl_values.specs.declared.op.Op.{Op}
use Rattle.gl_values.specs.declared.op.Op.TheVariants.{ShiftLeft, ShiftRight}
use Rattle.gl_values.specs.Operators.{is_shift, shifts_within}
use Rattle.gl_values.specs.Kinds.{IsKind, width_of}
use Rattle.gl_values.specs.Results.{Row}
use Rattle.gl_values.proofs.KindLemmas.{kind_width}
use Rattle.gl_schema.specs.declared.schema.Column.{Column}
use Rattle.gl_query.specs.Shapes.{ExprShape}
use Rattle.gl_query.specs.Shapes as shape
use Rattle.gl_query.specs.Values.{kind_alone, kind_of, operand_place, shift_fits, value_of}
use Rattle.gl_query.proofs.Fitting.{value_below}
use Rattle.gl_reference.specs.Fits.{HasWord}
use Rattle.gl_query.proofs.Real.{casts_are, alone_kind, place_is, kind_is}

pub word_kind : (columns : List Column) (place : Kind) (e : ExprShape) (row : Row) → HasWord columns place e row → IsKind (kind_of columns place e)
word_kind columns place e row h = kind_is e columns place h.of_row.kinds h.of_place (casts_are e columns place h.typed)

pub word_small : (columns : List Column) (place : Kind) (e : ExprShape) (row : Row) → HasWord columns place e row → value_of columns place e row < 2 ^ 64
word_small columns place e row h =
    let width = kind_width (kind_of columns place e) (word_kind columns place e row h) in
    below (value_of columns place e row) (2 ^ width_of (kind_of columns place e)) (value_below e columns place row h.typed h.of_row.fits)
    (pow-le-pow_right {n = 2} (omega arith) {i = width_of (kind_of columns place e)} {j = 64} width)
  where
    below : (x m : ℕ) → x < m → m ≤ 2 ^ 64 → x < 2 ^ 64
    below x m lt le = omega arith

pub in_cast : (columns : List Column) (place kind : Kind) (e : ExprShape) (row : Row) → HasWord columns place (shape.Cast kind e) row → HasWord columns (kind_alone e) e row
in_cast columns place kind e row h = record { of_row = h.of_row; of_place = alone_kind e; typed = h.typed.0 }

pub in_flip : (columns : List Column) (place : Kind) (e : ExprShape) (row : Row) → HasWord columns place (shape.Flip e) row → HasWord columns place e row
in_flip columns place e row h = record { of_row = h.of_row; of_place = h.of_place; typed = h.typed.0 }

-- a shift that is within its kind goes by fewer places than it has bits
pub near_left : (kind : Kind) (y : ℕ) → IsTrue (shifts_within ShiftLeft kind y) → y < width_of kind
near_left kind y h = ltb-true y (width_of kind) h

pub near_right : (kind : Kind) (y : ℕ) → IsTrue (shifts_within ShiftRight kind y) → y < width_of kind
near_right kind y h = ltb-true y (width_of kind) h

no_shift : (o : Op) (kind : Kind) (y : ℕ) → IsTrue (not (is_shift o)) → IsTrue (shifts_within o kind y)
no_shift o kind y h = or_left (not (is_shift o)) _ h

-- what stands on the right of an operator has a word that the operator takes
pub right_near : (columns : List Column) (at kind : Kind) (o : Op) (r : ExprShape) (row : Row) → IsTrue (shift_fits o kind r) → IsTrue (shifts_within o kind (value_of columns at r row))
right_near columns at kind o (shape.Column name) row h = no_shift o kind (value_of columns at (shape.Column name) row) h
right_near columns at kind o (shape.Number n) row h = h
right_near columns at kind o (shape.Minus n) row h = no_shift o kind (value_of columns at (shape.Minus n) row) h
right_near columns at kind o (shape.Letters text) row h = no_shift o kind (value_of columns at (shape.Letters text) row) h
right_near columns at kind o (shape.Not e) row h = no_shift o kind (value_of columns at (shape.Not e) row) h
right_near columns at kind o (shape.Flip e) row h = no_shift o kind (value_of columns at (shape.Flip e) row) h
right_near columns at kind o (shape.Cast to e) row h = no_shift o kind (value_of columns at (shape.Cast to e) row) h
right_near columns at kind o (shape.Binary p l r) row h = no_shift o kind (value_of columns at (shape.Binary p l r) row) h

pub in_left : (columns : List Column) (place : Kind) (o : Op) (l r : ExprShape) (row : Row) → HasWord columns place (shape.Binary o l r) row
    → HasWord columns (operand_place columns o place l r) l row
in_left columns place o l r row h =
    record {
      of_row = h.of_row;
      of_place = place_is columns o place l r h.of_row.kinds h.of_place (casts_are r columns (operand_place columns o place r l) h.typed.1);
      typed = h.typed.0;
    }

pub in_right : (columns : List Column) (place : Kind) (o : Op) (l r : ExprShape) (row : Row) → HasWord columns place (shape.Binary o l r) row
    → HasWord columns (operand_place columns o place r l) r row
in_right columns place o l r row h =
    record {
      of_row = h.of_row;
      of_place = place_is columns o place r l h.of_row.kinds h.of_place (casts_are l columns (operand_place columns o place l r) h.typed.0);
      typed = h.typed.1;
    }
