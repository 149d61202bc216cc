-- When an evaluation runs out of nothing but memory: rows that fit their columns, and expressions that have a word over
-- them. A middle layer, proved equal to gl_query (`Results`): no promise rests on it.
use Rattle.std.specs.Prelude.{◌≡◌, ℕ, false, List, Result, IfErr}
use Rattle.std.specs.List.{AllByRecursion}
use Rattle.gl_values.specs.declared.kind.Kind.{Kind}
use Rattle.gl_values.specs.Kinds.{IsKind}
use Rattle.gl_values.specs.Results.{Row}
use Rattle.gl_schema.specs.declared.schema.Column.{Column}
use Rattle.gl_schema.specs.declared.schema.Schema.{Schema}
use Rattle.gl_schema.specs.Schemas.{IsRowOf, IsSchema}
use Rattle.gl_query.specs.declared.tree.Statement.{Statement}
use Rattle.gl_query.specs.Shapes.{AggItemShape, ExprShape, FrameItemShape, QueryShape}
use Rattle.gl_query.specs.Values.{HasKind, kind_alone}
use Rattle.gl_query.specs.Columns.{source_columns}
use Rattle.gl_query.specs.Accepted.{AreResultColumns, IsAccepted, IsAcceptedOver, IsAgg, IsFrame, body_scope}
use Rattle.gl_query.specs.Laws.{AreKinds, HoldsIn, scope_of}
use Rattle.gl_query.specs.Results.{Env, env_of, streams_of}
use Rattle.gl_reference.specs.Sources.{given_inputs}
use Rattle.gl_reference.specs.declared.rows.Fault.{Fault}
use Rattle.gl_reference.specs.declared.rows.Fault.TheVariants.{Memory}

-- nothing but memory runs out
abbrev pub IsOrMemory : {T : Type 0} → Result T Fault → Type 0
IsOrMemory result = IfErr result (λ fault. fault ≡ Memory)

-- a row of columns whose kinds are kinds
pub record IsRow (columns : List Column) (row : Row) : Type 0 where
  pub kinds : AreKinds columns
  pub fits : IsRowOf columns row

-- columns of allowed kinds, and rows whose words fit them
pub record AreRows (columns : List Column) (rows : List Row) : Type 0 where
  pub kinds : AreKinds columns
  pub fit : AllByRecursion (IsRowOf columns) rows

-- an expression has a word over a row, in a place
pub record HasWord (columns : List Column) (place : Kind) (e : ExprShape) (row : Row) : Type 0 where
  pub of_row : IsRow columns row
  pub of_place : IsKind place
  pub typed : HasKind columns place e

-- an expression of its own kind, and aggregates
abbrev pub HasKindAlone : List Column → ExprShape → Type 0
HasKindAlone columns e = HasKind columns (kind_alone e) e

-- every aggregate of a list is accepted over these columns
abbrev pub AreAggs : List Column → List AggItemShape → Type 0
AreAggs columns aggs = AllByRecursion (λ (i : AggItemShape). IsAgg columns i.agg) aggs

-- every frame of a list is accepted over these columns
abbrev pub AreFramesOf : List Column → List FrameItemShape → Type 0
AreFramesOf columns items = AllByRecursion (λ (i : FrameItemShape). IsFrame columns i.frame) items

-- sources with columns of a result, of kinds that are kinds, and rows that fit them
pub record AreSources (env : Env) : Type 0 where
  pub columns : (name : List ℕ) → AreResultColumns (source_columns (streams_of env) name)
  pub kinds : (name : List ℕ) → AreKinds (source_columns (streams_of env) name)
  pub rows : HoldsIn IsRowOf env

-- a body that is accepted over such columns, and over the parameters of an environment
pub record IsBody (env : Env) (var : List ℕ) (columns : List Column) (body : QueryShape) : Type 0 where
  pub result : AreResultColumns columns
  pub kinds : AreKinds columns
  pub accepted : IsAcceptedOver (body_scope (scope_of env false) var columns) body

-- an accepted statement over a schema, rows that fit the columns of their streams, and words that fit the parameters
pub record IsFit (schema : Schema) (statement : Statement) (tables : List (List Row)) (places times : List (List ℕ)) (ticks : ℕ)
    (words : Row) : Type 0 where
  pub of_schema : IsSchema schema
  pub accepted : IsAccepted schema statement
  pub rows : HoldsIn IsRowOf (env_of schema (given_inputs tables places times ticks words))
