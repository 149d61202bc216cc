-- Laws of elaboration.
use Rattle.std.specs.Prelude.{ℕ, ◌≡◌, ◌<◌, Bool, List, [], length, map, Some, slice_get, slice_index}
use Rattle.std.specs.List.{AllByRecursion, AllZip}
use Rattle.gl_values.specs.Kinds.{width_of}
use Rattle.gl_values.specs.Results.{Row}
use Rattle.gl_schema.specs.declared.schema.Column.{Column}
use Rattle.gl_schema.specs.declared.schema.Stream.{Stream}
use Rattle.gl_schema.specs.declared.schema.Schema.{Schema}
use Rattle.gl_schema.specs.Schemas.{IsRowOf}
use Rattle.gl_schema.specs.Beats as beats
use Rattle.gl_query.specs.declared.tree.Statement.{Statement}
use Rattle.gl_query.specs.Columns.{sources_of}
use Rattle.gl_query.specs.Shapes.{query_shape}
use Rattle.gl_query.specs.Results.{IsResult}
use Rattle.gl_query.specs.Checked.{IsChecked}
use Rattle.gl_query.specs.Windows.{has_time}
use Rattle.gl_query.specs.Laws.{IsLongAs}
use Rattle.gl_algebra.specs.declared.node.PlanNode.{PlanNode}
use Rattle.gl_algebra.specs.Fits.{IsPlan}
use Rattle.gl_algebra.specs.Known.{AreKnown}
use Rattle.gl_algebra.specs.Shapes.{shape_of}
use Rattle.gl_algebra.specs.FigureTable.{figures_of}
use Rattle.gl_algebra.specs.Views.{reads_time}
use Rattle.gl_algebra.specs.Results.{Inputs, IsPlanResult}
use Rattle.gl_elaborate.specs.Fitting.{PlacedFit}
use Rattle.gl_elaborate.specs.Plans.{Several, plan_of, plans_of, stream_node}
use Rattle.gl_elaborate.specs.Right.{shape_for}
use Rattle.gl_elaborate.specs.Figures.{query_figures}
use Rattle.gl_elaborate.specs.Whole.{query_ticks}
use Rattle.gl_root_gaps.specs.Roots.{tick_gaps_at}

-- what comes in is of a schema: each stream's rows are as long as its columns are many, and each parameter has a word
-- of its kind
pub record AreInputsOf (schema : Schema) (inputs : beats.Inputs) : Type 0 where
  pub rows : (number : ℕ) (s : Stream) → slice_get schema.streams number ≡ Some s
      → AllByRecursion (IsLongAs s.columns) (inputs.rows number)
  pub words : IsRowOf schema.parameters inputs.sets

-- what comes in to a query, as what the leaves of its plan give, beside the rows of a body
abbrev pub leaf_inputs : beats.Inputs → List Row → Inputs
leaf_inputs inputs body =
    record {
      streams = inputs.rows;
      places = inputs.places;
      times = inputs.times;
      ticks = inputs.ticks;
      sets = λ k. slice_index inputs.sets k;
      body = body;
      body_places = inputs.places 0;
    }

-- the widths of the words of a schema's parameters
abbrev pub parameter_widths : Schema → List ℕ
parameter_widths schema = map (λ (c : Column). width_of c.kind) schema.parameters

-- the plan of a statement over a schema: each node fits where it is added and names no parameter but the schema's, and
-- the root has the query's shape, its figures, and no result that is not one of the statement
pub record IsRightPlan (schema : Schema) (statement : Statement) : Type 0 where
  pub fit : PlacedFit (stream_node schema.streams) (sources_of schema) (query_shape statement.query) []
  pub plan : IsPlan (plan_of schema statement).nodes
  pub known : AreKnown (parameter_widths schema) (plan_of schema statement).nodes
  pub within : (plan_of schema statement).root < length (plan_of schema statement).nodes
  pub shape : shape_of (plan_of schema statement).nodes (plan_of schema statement).root
      ≡ shape_for (stream_node schema.streams) (sources_of schema) (query_shape statement.query)
  pub figures : figures_of (plan_of schema statement).nodes (plan_of schema statement).root
      ≡ query_figures (sources_of schema) (query_shape statement.query)
  pub results : (inputs : beats.Inputs) (body : List Row) (out : List Row) (spill : Bool)
      → AreInputsOf schema inputs
      → IsPlanResult (plan_of schema statement).nodes (plan_of schema statement).root (leaf_inputs inputs body) out spill
      → IsResult schema statement inputs out spill

-- the plan of every accepted statement is right for that statement
abbrev pub PlansAreRight : Type 0
PlansAreRight = (schema : Schema) (statement : Statement) → IsChecked schema statement → IsRightPlan schema statement

-- a node of a plan has a statement's shape, its figures, the gaps of its ticks, and no result that is not one of the
-- statement
pub record IsRightAt (nodes : List PlanNode) (schema : Schema) (statement : Statement) (root : ℕ) : Type 0 where
  pub within : root < length nodes
  pub shape : shape_of nodes root
      ≡ shape_for (stream_node schema.streams) (sources_of schema) (query_shape statement.query)
  pub figures : figures_of nodes root ≡ query_figures (sources_of schema) (query_shape statement.query)
  pub ticks : tick_gaps_at nodes root ≡ query_ticks (sources_of schema) (query_shape statement.query)
  pub results : (inputs : beats.Inputs) (body : List Row) (out : List Row) (spill : Bool)
      → AreInputsOf schema inputs
      → IsPlanResult nodes root (leaf_inputs inputs body) out spill
      → IsResult schema statement inputs out spill

-- of several statements each is right at its own root, as if it were alone, and no parameter but the schema's is named
pub record AreRightTogether (schema : Schema) (statements : List Statement) (all : Several) : Type 0 where
  pub plan : IsPlan all.nodes
  pub known : AreKnown (parameter_widths schema) all.nodes
  pub each : AllZip (IsRightAt all.nodes schema) statements all.roots

-- the joint plan of accepted statements is right for each of them
abbrev pub SeveralAreRight : Type 0
SeveralAreRight = (schema : Schema) (statements : List Statement) → AllByRecursion (IsChecked schema) statements
    → AreRightTogether schema statements (plans_of [] schema statements)

-- the plan of a statement has a window of time exactly where the statement has one
abbrev pub PlansTellTime : Type 0
PlansTellTime = (schema : Schema) (statement : Statement)
    → reads_time (plan_of schema statement).nodes ≡ has_time (query_shape statement.query)
