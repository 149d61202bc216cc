-- The term of an expression has its kind and its value.
use Rattle.std.proofs.Common.{◌≡◌, ℕ, zero, suc, List, [], ◌∷◌, slice_get, get_or, refl, sym, ap, ◌∙◌}
use Rattle.std.specs.Prelude.{unwrap_or, option_map}
use Rattle.gl_bits.specs.Words.{not_of}
use Rattle.gl_values.specs.Kinds.{width_of}
use Rattle.gl_values.specs.Operators.{cast_of, operate, result_kind, sort_of}
use Rattle.gl_values.specs.declared.kind.Kind.{Kind}
use Rattle.gl_values.specs.declared.kind.Kind.TheVariants.{Unsigned}
use Rattle.gl_schema.specs.declared.schema.Column.{Column as NamedColumn}
use Rattle.gl_schema.specs.Schemas.{kinds_of}
use Rattle.gl_query.specs.Shapes.{ExprShape}
use Rattle.gl_query.specs.Shapes as shape
use Rattle.gl_query.specs.Values.{column_kind, column_number, kind_alone, kind_of, operand_place, value_of}
use Rattle.gl_algebra.specs.Columns.{bit_kind, kind_of_column}
use Rattle.gl_algebra.specs.Values.{Sets}
use Rattle.gl_query.proofs.OwnKinds.{operator_gives}
use Rattle.gl_elaborate.specs.Terms.{term_of, term_kind, term_value}

pub kind_at : (columns : List NamedColumn) (n : ℕ) → get_or (kinds_of columns) n bit_kind ≡ unwrap_or (option_map (λ (c : NamedColumn). c.kind) (slice_get columns n)) (Unsigned 1)
kind_at [] n = refl
kind_at (c ∷ cs) zero = refl
kind_at (c ∷ cs) (suc n) = kind_at cs n

pub kind-column : (columns : List NamedColumn) (name : List ℕ) → kind_of_column (kinds_of columns) (column_number columns name) ≡ column_kind columns name
kind-column columns name = kind_at columns (column_number columns name)

pub term-kind : (columns : List NamedColumn) (place : Kind) (e : ExprShape) → term_kind (kinds_of columns) (term_of columns place e) ≡ kind_of columns place e
term-kind columns place (shape.Column name) = kind-column columns name
term-kind columns place (shape.Number n) = refl
term-kind columns place (shape.Minus n) = refl
term-kind columns place (shape.Letters text) = refl
term-kind columns place (shape.Not e) = refl
term-kind columns place (shape.Flip e) = term-kind columns place e
term-kind columns place (shape.Cast kind e) = refl
term-kind columns place (shape.Binary o l r) =
    ap (result_kind (sort_of o)) (term-kind columns (operand_place columns o place l r) l) ∙ sym (operator_gives columns place o l r)

pub term-value : (sets : Sets) (columns : List NamedColumn) (place : Kind) (e : ExprShape) (row : List ℕ)
    → term_value sets (kinds_of columns) row (term_of columns place e) ≡ value_of columns place e row
term-value sets columns place (shape.Column name) row = refl
term-value sets columns place (shape.Number n) row = refl
term-value sets columns place (shape.Minus n) row = refl
term-value sets columns place (shape.Letters text) row = refl
term-value sets columns place (shape.Not e) row = ap (not_of 1) (term-value sets columns (Unsigned 1) e row)
term-value sets columns place (shape.Flip e) row =
    λ i. not_of (width_of (term-kind columns place e i)) (term-value sets columns place e row i)
term-value sets columns place (shape.Cast kind e) row =
    λ i. cast_of (term-kind columns (kind_alone e) e i) kind (term-value sets columns (kind_alone e) e row i)
term-value sets columns place (shape.Binary o l r) row =
    λ i. operate o (term-kind columns (operand_place columns o place l r) l i)
    (term-value sets columns (operand_place columns o place l r) l row i) (term-value sets columns (operand_place columns o place r l) r row i)
