-- What is known of an expression before its place is.
-- A middle layer, proved equal to gl_query (`Faults`): no promise rests on it.
use Rattle.std.specs.Prelude.{◌≡◌, List, Option, Some, None, unwrap_or}
use Rattle.gl_values.specs.declared.kind.Kind.{Kind}
use Rattle.gl_values.specs.declared.kind.Kind.TheVariants.{Unsigned}
use Rattle.gl_values.specs.declared.op.Sort.{Sort}
use Rattle.gl_schema.specs.declared.schema.Column.{Column}
use Rattle.gl_query.specs.declared.fault.QueryFault.{QueryFault}
use Rattle.gl_query.specs.Alike.{expr_alike}
use Rattle.gl_query.specs.Faults.{expr_fault}
use Rattle.gl_query.specs.Shapes.{ExprShape}
use Rattle.gl_query.specs.Trees.{ExprTree}
use Rattle.gl_query.specs.Values.{kind_of, loose_kind, own_kind}
use Rattle.gl_query_check.specs.declared.expressions.Judged.{Judged}
use Rattle.gl_query_check.specs.declared.expressions.Judged.TheVariants.{Loose, Fixed}
use Rattle.gl_query_check.specs.declared.expressions.Placed.{Placed}

-- an expression has this kind of itself, and this first fault, if any, in each place
pub record IsFixed (columns : List Column) (e : ExprTree) (kind : Kind) (fault : Option QueryFault) : Type 0 where
  pub kind' : own_kind columns (expr_alike e) ≡ Some kind
  pub fault' : (place : Kind) → expr_fault columns place e ≡ fault

-- what code knows of an expression is so: it has no kind of its own, or this kind and this fault
abbrev pub Judges : List Column → ExprTree → Judged → Type 0
Judges columns e Loose = own_kind columns (expr_alike e) ≡ None
Judges columns e (Fixed kind fault) = IsFixed columns e kind fault

-- in this place it has this kind and this first fault
pub record IsPlaced (columns : List Column) (place : Kind) (e : ExprTree) (p : Placed) : Type 0 where
  pub kind' : p.kind ≡ kind_of columns place (expr_alike e)
  pub fault' : p.fault ≡ expr_fault columns place e

-- the kind that it has of itself
abbrev pub kind_judged : Judged → Option Kind
kind_judged Loose = None
kind_judged (Fixed kind fault) = Some kind

-- the place of an operand beside another one, where it does not come from the whole
abbrev pub place_beside : Sort → Option Kind → ExprShape → Kind
place_beside sort other e = unwrap_or other (loose_kind sort (Unsigned 1) e)
