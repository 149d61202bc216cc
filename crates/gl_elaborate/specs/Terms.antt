-- Expressions over numbered columns: names are looked up, each literal has the kind that its place gives, and
-- parameters are apart.
use Rattle.std.specs.Prelude.{ℕ, ◌+◌, ◌-◌, max, Bool, not, List, [], ◌∷◌, ◌≡◌, ◌<◌, IsTrue, length, slice_get, slice_index, nat_lt, if◌then◌else◌, option_map, unwrap_or}
use Rattle.gl_bits.specs.Words.{Word, IsWord, not_of}
use Rattle.gl_values.specs.Kinds.{bytes_in, can_cast, is_number, negative_word, width_of, IsKind}
use Rattle.gl_values.specs.Operators.{cast_of, is_shift, operate, result_kind, shifts_within, sort_of}
use Rattle.gl_values.specs.declared.kind.Kind.{Kind}
use Rattle.gl_values.specs.declared.kind.Kind.TheVariants.{Unsigned}
use Rattle.gl_values.specs.declared.op.Op.{Op}
use Rattle.gl_schema.specs.declared.schema.Column.{Column as NamedColumn}
use Rattle.gl_schema.specs.Schemas.{text_word}
use Rattle.gl_query.specs.Shapes.{ExprShape}
use Rattle.gl_query.specs.Shapes as shape
use Rattle.gl_query.specs.Values.{column_number, kind_alone, operand_place}
use Rattle.gl_algebra.specs.Columns.{bit_kind, kind_of_column, SortFits}
use Rattle.gl_algebra.specs.Values.{Sets}

-- an expression over columns and parameters by number; each literal is a word of its kind
pub data Term : Type 0 where
  Column : (number : ℕ) → Term
  Literal : (word : Word) (kind : Kind) → Term
  Parameter : (number : ℕ) (kind : Kind) → Term
  Not : (arg : Term) → Term
  Flip : (arg : Term) → Term
  Cast : (arg : Term) (kind : Kind) → Term
  Binary : (op : Op) (left right : Term) → Term

-- a literal of a kind
abbrev pub literal : Kind → ℕ → Term
literal kind bits = Literal (record { bits = bits; width = width_of kind }) kind

-- the term of an expression, in a place that gives what is loose this kind
abbrev pub term_of : List NamedColumn → Kind → ExprShape → Term
term_of columns place (shape.Column name) = Column (column_number columns name)
term_of columns place (shape.Number n) = literal place n
term_of columns place (shape.Minus n) = literal place (negative_word place n)
term_of columns place (shape.Letters text) = literal place (text_word (bytes_in place) text)
term_of columns place (shape.Not e) = Not (term_of columns (Unsigned 1) e)
term_of columns place (shape.Flip e) = Flip (term_of columns place e)
term_of columns place (shape.Cast kind e) = Cast (term_of columns (kind_alone e) e) kind
term_of columns place (shape.Binary op l r) =
    Binary op (term_of columns (operand_place columns op place l r) l)
    (term_of columns (operand_place columns op place r l) r)

-- the kind of a column by its number; one bit where there is none
abbrev pub kind_numbered : List NamedColumn → ℕ → Kind
kind_numbered columns number =
    unwrap_or (option_map (λ (c : NamedColumn). c.kind) (slice_get columns number)) (Unsigned 1)

-- of what an expression may name, the first `own` are columns; what stands behind them is a parameter, by its number
-- there
abbrev pub named : ℕ → List NamedColumn → ℕ → Term
named own reach number =
    if nat_lt number own then Column number else Parameter (number - own) (kind_numbered reach number)

-- a term over all that an expression may name, with its parameters apart from its columns
abbrev pub apart : ℕ → List NamedColumn → Term → Term
apart own reach (Column number) = named own reach number
apart own reach (Literal word kind) = Literal word kind
apart own reach (Parameter number kind) = Parameter number kind
apart own reach (Not t) = Not (apart own reach t)
apart own reach (Flip t) = Flip (apart own reach t)
apart own reach (Cast t kind) = Cast (apart own reach t) kind
apart own reach (Binary op l r) = Binary op (apart own reach l) (apart own reach r)

-- the term of an expression over these columns, which may name what is in its reach: them, and parameters behind them
abbrev pub term_over : (columns reach : List NamedColumn) → Kind → ExprShape → Term
term_over columns reach place e = apart (length columns) reach (term_of reach place e)

-- the kind of a term over columns of these kinds
abbrev pub term_kind : List Kind → Term → Kind
term_kind kinds (Column number) = kind_of_column kinds number
term_kind kinds (Literal word kind) = kind
term_kind kinds (Parameter number kind) = kind
term_kind kinds (Not t) = bit_kind
term_kind kinds (Flip t) = term_kind kinds t
term_kind kinds (Cast t kind) = kind
term_kind kinds (Binary op l r) = result_kind (sort_of op) (term_kind kinds l)

-- the value of a term over a row, where the parameters have these words
abbrev pub term_value : Sets → List Kind → List ℕ → Term → ℕ
term_value sets kinds row (Column number) = slice_index row number
term_value sets kinds row (Literal word kind) = word.bits
term_value sets kinds row (Parameter number kind) = sets number
term_value sets kinds row (Not t) = not_of 1 (term_value sets kinds row t)
term_value sets kinds row (Flip t) = not_of (width_of (term_kind kinds t)) (term_value sets kinds row t)
term_value sets kinds row (Cast t kind) = cast_of (term_kind kinds t) kind (term_value sets kinds row t)
term_value sets kinds row (Binary op l r) =
    operate op (term_kind kinds l) (term_value sets kinds row l) (term_value sets kinds row r)

-- on the right of a shift stands a literal below the width alone, and on the right of another operator any term
abbrev pub term_shifts : Op → Kind → Term → Bool
term_shifts op kind (Column number) = not (is_shift op)
term_shifts op kind (Literal word k) = shifts_within op kind word.bits
term_shifts op kind (Parameter number k) = not (is_shift op)
term_shifts op kind (Not t) = not (is_shift op)
term_shifts op kind (Flip t) = not (is_shift op)
term_shifts op kind (Cast t k) = not (is_shift op)
term_shifts op kind (Binary other l r) = not (is_shift op)

-- a term's columns are there, its literals are words of their kinds, its parameters have kinds, and its operators fit
-- their operands
abbrev pub IsTerm : List Kind → Term → Type 0
IsTerm kinds (Column number) = number < length kinds
IsTerm kinds (Literal word kind) = IsWord word × IsKind kind × (word.width ≡ width_of kind)
IsTerm kinds (Parameter number kind) = IsKind kind
IsTerm kinds (Not t) = IsTerm kinds t × (term_kind kinds t ≡ bit_kind)
IsTerm kinds (Flip t) = IsTerm kinds t × IsTrue (is_number (term_kind kinds t))
IsTerm kinds (Cast t kind) = IsTerm kinds t × IsTrue (can_cast (term_kind kinds t) kind)
IsTerm kinds (Binary op l r) =
    IsTerm kinds l × IsTerm kinds r × (term_kind kinds l ≡ term_kind kinds r)
    × SortFits (sort_of op) (term_kind kinds l) × IsTrue (term_shifts op (term_kind kinds l) r)

-- a column, literal or parameter has depth 0, every operation one more than its deepest operand
abbrev pub depth_of : Term → ℕ
depth_of (Column number) = 0
depth_of (Literal word kind) = 0
depth_of (Parameter number kind) = 0
depth_of (Not t) = 1 + depth_of t
depth_of (Flip t) = 1 + depth_of t
depth_of (Cast t kind) = 1 + depth_of t
depth_of (Binary op l r) = 1 + max (depth_of l) (depth_of r)

-- the depth of the deepest term; 0 where there is none
abbrev pub depth_of_all : List Term → ℕ
depth_of_all [] = 0
depth_of_all (t ∷ ts) = max (depth_of t) (depth_of_all ts)

-- the operations in a term
abbrev pub ops_in : Term → ℕ
ops_in (Column number) = 0
ops_in (Literal word kind) = 0
ops_in (Parameter number kind) = 0
ops_in (Not t) = 1 + ops_in t
ops_in (Flip t) = 1 + ops_in t
ops_in (Cast t kind) = 1 + ops_in t
ops_in (Binary op l r) = 1 + ops_in l + ops_in r

-- how many operations stand in all terms together
abbrev pub ops_in_all : List Term → ℕ
ops_in_all [] = 0
ops_in_all (t ∷ ts) = ops_in t + ops_in_all ts
