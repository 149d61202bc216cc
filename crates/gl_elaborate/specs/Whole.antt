-- The figures of a statement. Its query stands under no other, so where it is windows of tuples, these may have spare
-- copies of their body; whether the plan is light enough with them is all that is asked of the plan. Where it is
-- windows of time, or rows above them, their ticks may be farther apart than tuples.
use Rattle.std.specs.Prelude.{◌≡◌, List, [], Option, Some, None, if◌then◌else◌}
use Rattle.gl_schema.specs.declared.schema.Schema.{Schema}
use Rattle.gl_schema.specs.declared.schema.Stream.{Stream}
use Rattle.gl_query.specs.declared.tree.Measure.TheVariants.{Time, Tuples}
use Rattle.gl_query.specs.declared.tree.Statement.{Statement}
use Rattle.gl_query.specs.Checked.{IsChecked}
use Rattle.gl_query.specs.Columns.{columns_of, inside, sources_of}
use Rattle.gl_query.specs.Shapes.{QueryShape, query_shape}
use Rattle.gl_query.specs.Shapes as shape
use Rattle.gl_algebra.specs.declared.figures.Figures.{Figures}
use Rattle.gl_algebra.specs.declared.figures.Spare.{Spare}
use Rattle.gl_root_gaps.specs.declared.TickGaps.{TickGaps}
use Rattle.gl_algebra.specs.Added.{Placed}
use Rattle.gl_algebra.specs.Roots.{is_light_at, root_figures, spare_at}
use Rattle.gl_root_gaps.specs.Roots.{tick_gaps_at}
use Rattle.gl_algebra.specs.Spares.{spare_of, spare_over}
use Rattle.gl_root_gaps.specs.TickGaps.{tick_gaps_of}
use Rattle.gl_algebra.specs.Views.{copies_of_window}
use Rattle.gl_elaborate.specs.Figures.{query_figures}
use Rattle.gl_elaborate.specs.Plans.{placed, plan_of, stream_node}

-- the spare copies of a query, whatever they weigh: windows of tuples may have some
abbrev pub query_spare : List Stream → QueryShape → Option Spare
query_spare sources (shape.Each Tuples var source size advance body) =
    spare_of size advance (query_figures sources source)
    (query_figures (inside sources var (columns_of sources source)) body)
query_spare sources q = None

-- the figures of a query with these spare copies, if there are some
abbrev pub figures_with : List Stream → Option Spare → QueryShape → Figures
figures_with sources (Some it) (shape.Each Tuples var source size advance body) =
    spare_over (copies_of_window size advance) it.gap it.shift (query_figures sources source)
    (query_figures (inside sources var (columns_of sources source)) body)
figures_with sources spare q = query_figures sources q

-- spare copies, where a plan is light enough with them
abbrev pub if_light : Placed → Option Spare → Option Spare
if_light at None = None
if_light at (Some it) = if is_light_at at.nodes at.root it then Some it else None

-- the spare copies of a query that stands under no other, where its plan is light enough with them
abbrev pub whole_spare : Schema → QueryShape → Option Spare
whole_spare schema q =
    if_light (placed (stream_node schema.streams) (sources_of schema) q []) (query_spare (sources_of schema) q)

-- and its figures
abbrev pub whole_figures : Schema → QueryShape → Figures
whole_figures schema q = figures_with (sources_of schema) (whole_spare schema q) q

-- the gaps of its windows of time, where ticks are farther apart than tuples; a select of rows has those of its source
abbrev pub query_ticks : List Stream → QueryShape → Option TickGaps
query_ticks sources (shape.Each Time var source size advance body) =
    tick_gaps_of size advance (query_figures (inside sources var (columns_of sources source)) body)
query_ticks sources (shape.Rows pick filter source) = query_ticks sources source
query_ticks sources q = None

-- the spare copies and the figures of a statement that stands alone are those of its query
abbrev pub statement_spare : Schema → Statement → Option Spare
statement_spare schema statement = whole_spare schema (query_shape statement.query)

abbrev pub statement_figures : Schema → Statement → Figures
statement_figures schema statement = whole_figures schema (query_shape statement.query)

abbrev pub statement_ticks : Schema → Statement → Option TickGaps
statement_ticks schema statement = query_ticks (sources_of schema) (query_shape statement.query)

-- the root of a statement's plan has the statement's spare copies, its figures and the gaps of its ticks
pub record IsRightRoot (schema : Schema) (statement : Statement) : Type 0 where
  pub spare : spare_at (plan_of schema statement).nodes (plan_of schema statement).root
      ≡ statement_spare schema statement
  pub figures : root_figures (plan_of schema statement).nodes (plan_of schema statement).root
      ≡ statement_figures schema statement
  pub ticks : tick_gaps_at (plan_of schema statement).nodes (plan_of schema statement).root
      ≡ statement_ticks schema statement

abbrev pub RootsAreRight : Type 0
RootsAreRight = (schema : Schema) (statement : Statement) → IsChecked schema statement → IsRightRoot schema statement
