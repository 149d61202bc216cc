-- What an operator gives has the kind that its left operand leads to.
use Rattle.std.proofs.Common.{◌≡◌, List, Option, None, Some, refl}
use Rattle.std.specs.Prelude.{unwrap_or}
use Rattle.gl_values.specs.declared.kind.Kind.{Kind}
use Rattle.gl_values.specs.declared.op.Op.{Op}
use Rattle.gl_values.specs.declared.op.Sort.{Sort}
use Rattle.gl_values.specs.declared.op.Sort.TheVariants.{Arithmetic, Comparison, Logic}
use Rattle.gl_values.specs.Operators.{result_kind, sort_of}
use Rattle.gl_schema.specs.declared.schema.Column.{Column}
use Rattle.gl_query.specs.Shapes.{ExprShape}
use Rattle.gl_query.specs.Shapes as shape
use Rattle.gl_query.specs.Values.{kind_of, loose_kind, operand_place, operator_kind, own_kind}

pub operator_gives : (columns : List Column) (place : Kind) (op : Op) (l r : ExprShape)
    → kind_of columns place (shape.Binary op l r) ≡ result_kind (sort_of op) (kind_of columns (operand_place columns op place l r) l)
operator_gives columns place op l r = gives (sort_of op) (own_kind columns l) (own_kind columns r)
  where
    gives : (sort : Sort) (left right : Option Kind)
        → unwrap_or (operator_kind sort left right) place ≡ result_kind sort (unwrap_or left (unwrap_or right (loose_kind sort place l)))
    gives Arithmetic None None = refl
    gives Arithmetic None (Some kind) = refl
    gives Arithmetic (Some kind) right = refl
    gives Comparison left right = refl
    gives Logic left right = refl
