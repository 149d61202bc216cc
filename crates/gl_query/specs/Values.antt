-- The kind and the value of an expression over one row.
use Rattle.std.specs.Prelude.{◌≡◌, ℕ, pos, Bool, true, false, not, ◌&&◌, ◌||◌, List, length, Option, Some, None, is_none, unwrap_or, option_map, nat_le, nat_lt, slice_get, slice_index, bytes_eq, IsTrue, if◌then◌else◌}
use Rattle.std.specs.List.{list_all, position_or_len}
use Rattle.std.specs.Option.{option_or}
use Rattle.gl_values.specs.declared.kind.Kind.{Kind}
use Rattle.gl_values.specs.declared.kind.Kind.TheVariants.{Unsigned, Signed, Text}
use Rattle.gl_values.specs.declared.op.Op.{Op}
use Rattle.gl_values.specs.declared.op.Sort.{Sort}
use Rattle.gl_values.specs.declared.op.Sort.TheVariants.{Arithmetic, Comparison, Logic}
use Rattle.gl_values.specs.Kinds.{bytes_in, can_cast, has_negative, in_range, is_number, is_text, negative_word, width_of}
use Rattle.gl_values.specs.Operators.{cast_of, is_shift, operate, shifts_within, sort_of}
use Rattle.gl_bits.specs.Words.{not_of}
use Rattle.gl_schema.specs.declared.schema.Column.{Column}
use Rattle.gl_schema.specs.Schemas.{has_column, text_word}
use Rattle.gl_query.specs.Shapes.{ExprShape}
use Rattle.gl_query.specs.Shapes as shape

-- ---- columns by name

-- the number of the first column with a name; the number of columns where there is none
abbrev pub column_number : List Column → List ℕ → ℕ
column_number columns name = position_or_len (λ c. bytes_eq name c.name) columns

-- the kind of the column of a name
abbrev pub column_kind : List Column → List ℕ → Kind
column_kind columns name =
    unwrap_or (option_map (λ c. c.kind) (slice_get columns (column_number columns name))) (Unsigned 1)

-- ---- kinds

-- what calculates or works on bits has the kind of its left operand, or else of its right one; comparisons, AND and OR
-- give one bit
abbrev pub operator_kind : Sort → Option Kind → Option Kind → Option Kind
operator_kind Arithmetic left right = option_or left right
operator_kind Comparison left right = Some (Unsigned 1)
operator_kind Logic left right = Some (Unsigned 1)

-- the kind that an expression has of itself, whatever its place; none where it is loose
abbrev pub own_kind : List Column → ExprShape → Option Kind
own_kind columns (shape.Column name) = Some (column_kind columns name)
own_kind columns (shape.Number n) = None
own_kind columns (shape.Minus n) = None
own_kind columns (shape.Letters text) = None
own_kind columns (shape.Not e) = Some (Unsigned 1)
own_kind columns (shape.Flip e) = own_kind columns e
own_kind columns (shape.Cast kind e) = Some kind
own_kind columns (shape.Binary op l r) = operator_kind (sort_of op) (own_kind columns l) (own_kind columns r)

-- an expression is loose where it has no kind of its own and takes the one that its place gives
abbrev pub is_loose : List Column → ExprShape → Bool
is_loose columns e = is_none (own_kind columns e)

-- the kind of an expression in a place: its own, or else the one that the place gives
abbrev pub kind_of : List Column → Kind → ExprShape → Kind
kind_of columns place e = unwrap_or (own_kind columns e) place

-- the leftmost literal of what is loose is a text
abbrev pub begins_with_text : ExprShape → Bool
begins_with_text (shape.Column name) = false
begins_with_text (shape.Number n) = false
begins_with_text (shape.Minus n) = false
begins_with_text (shape.Letters text) = true
begins_with_text (shape.Not e) = false
begins_with_text (shape.Flip e) = begins_with_text e
begins_with_text (shape.Cast kind e) = false
begins_with_text (shape.Binary op l r) = begins_with_text l

-- a number behind a minus sign stands in what is loose
abbrev pub has_minus : ExprShape → Bool
has_minus (shape.Column name) = false
has_minus (shape.Number n) = false
has_minus (shape.Minus n) = true
has_minus (shape.Letters text) = false
has_minus (shape.Not e) = false
has_minus (shape.Flip e) = has_minus e
has_minus (shape.Cast kind e) = false
has_minus (shape.Binary op l r) = has_minus l || has_minus r

-- the kind that what is loose takes where its place gives none
abbrev pub kind_alone : ExprShape → Kind
kind_alone e = if begins_with_text e then Text 8 else if has_minus e then Signed 64 else Unsigned 64

-- the kind that a loose operand takes beside a loose one, under an operator in a place of this kind
abbrev pub loose_kind : Sort → Kind → ExprShape → Kind
loose_kind Arithmetic place e = place
loose_kind Comparison place e = kind_alone e
loose_kind Logic place e = Unsigned 1

-- the kind that an operand's place gives: the other operand's own, or else this one
abbrev pub operand_place : List Column → Op → Kind → ExprShape → ExprShape → Kind
operand_place columns op place e other = unwrap_or (own_kind columns other) (loose_kind (sort_of op) place e)

-- ---- which expressions have a kind

-- what calculates or works on bits needs one kind of numbers, comparisons one kind, and AND and OR one bit
abbrev pub CanApply : Sort → Kind → Kind → Type 0
CanApply Arithmetic left right = (left ≡ right) × IsTrue (is_number left)
CanApply Comparison left right = left ≡ right
CanApply Logic left right = (left ≡ Unsigned 1) × (right ≡ Unsigned 1)

-- on the right of a shift stands a number below the width alone, and on the right of another operator any expression
abbrev pub shift_fits : Op → Kind → ExprShape → Bool
shift_fits op kind (shape.Column name) = not (is_shift op)
shift_fits op kind (shape.Number n) = shifts_within op kind n
shift_fits op kind (shape.Minus n) = not (is_shift op)
shift_fits op kind (shape.Letters text) = not (is_shift op)
shift_fits op kind (shape.Not e) = not (is_shift op)
shift_fits op kind (shape.Flip e) = not (is_shift op)
shift_fits op kind (shape.Cast to e) = not (is_shift op)
shift_fits op kind (shape.Binary other l r) = not (is_shift op)

-- a number of this kind
abbrev pub IsNumberOf : Kind → ℕ → Type 0
IsNumberOf kind n = IsTrue (is_number kind) × IsTrue (in_range kind (pos n))

-- a number behind a minus sign of this kind
abbrev pub IsNegativeOf : Kind → ℕ → Type 0
IsNegativeOf kind n = IsTrue (is_number kind) × IsTrue (has_negative kind n)

-- at most as many bytes as the kind has
abbrev pub letters_fit : Kind → List ℕ → Bool
letters_fit kind text = nat_le (length text) (bytes_in kind) && list_all (λ b. nat_lt b 256) text

-- a text of this kind
abbrev pub IsLettersOf : Kind → List ℕ → Type 0
IsLettersOf kind text = IsTrue (is_text kind) × IsTrue (letters_fit kind text)

-- the columns of an expression are there, its literals fit, and its operators fit their operands
abbrev pub HasKind : List Column → Kind → ExprShape → Type 0
HasKind columns place (shape.Column name) = IsTrue (has_column columns name)
HasKind columns place (shape.Number n) = IsNumberOf place n
HasKind columns place (shape.Minus n) = IsNegativeOf place n
HasKind columns place (shape.Letters text) = IsLettersOf place text
HasKind columns place (shape.Not e) = HasKind columns (Unsigned 1) e × (kind_of columns (Unsigned 1) e ≡ Unsigned 1)
HasKind columns place (shape.Flip e) = HasKind columns place e × IsTrue (is_number (kind_of columns place e))
HasKind columns place (shape.Cast kind e) =
    HasKind columns (kind_alone e) e × IsTrue (can_cast (kind_of columns (kind_alone e) e) kind)
HasKind columns place (shape.Binary op l r) =
    HasKind columns (operand_place columns op place l r) l × HasKind columns (operand_place columns op place r l) r
    × CanApply (sort_of op) (kind_of columns (operand_place columns op place l r) l)
    (kind_of columns (operand_place columns op place r l) r)
    × IsTrue (shift_fits op (kind_of columns (operand_place columns op place l r) l) r)

-- ---- values

-- the word of an expression over a row, in a place that gives what is loose this kind
abbrev pub value_of : List Column → Kind → ExprShape → List ℕ → ℕ
value_of columns place (shape.Column name) row = slice_index row (column_number columns name)
value_of columns place (shape.Number n) row = n
value_of columns place (shape.Minus n) row = negative_word place n
value_of columns place (shape.Letters text) row = text_word (bytes_in place) text
value_of columns place (shape.Not e) row = not_of 1 (value_of columns (Unsigned 1) e row)
value_of columns place (shape.Flip e) row = not_of (width_of (kind_of columns place e)) (value_of columns place e row)
value_of columns place (shape.Cast kind e) row =
    cast_of (kind_of columns (kind_alone e) e) kind (value_of columns (kind_alone e) e row)
value_of columns place (shape.Binary op l r) row =
    operate op (kind_of columns (operand_place columns op place l r) l)
    (value_of columns (operand_place columns op place l r) l row)
    (value_of columns (operand_place columns op place r l) r row)
