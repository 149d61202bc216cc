-- Which statements are built, and the figures that are printed for them.
use Rattle.std.specs.Prelude.{◌≡◌, ℕ, ◌+◌, ◌<◌, ◌≤◌, Option, Some}
use Rattle.gl_gaps.specs.declared.Gaps.{Gaps}
use Rattle.gl_schema.specs.declared.schema.Schema.{Schema}
use Rattle.gl_gaps.specs.Keeps.{gaps_with}
use Rattle.gl_query.specs.declared.tree.Statement.{Statement}
use Rattle.gl_query.specs.Accepted.{IsAccepted}
use Rattle.gl_query.specs.Checked.{IsChecked}
use Rattle.gl_query.specs.Columns.{sources_of}
use Rattle.gl_query.specs.Shapes.{query_shape}
use Rattle.gl_algebra.specs.Roots.{copies_with_spare}
use Rattle.gl_root_gaps.specs.Roots.{gap_with, ticks_with}
use Rattle.gl_algebra.specs.declared.figures.Spare.{Spare}
use Rattle.gl_root_gaps.specs.declared.TickGaps.{TickGaps}
use Rattle.gl_figures.specs.declared.Printed.{Printed}
use Rattle.gl_elaborate.specs.Figures.{query_figures}
use Rattle.gl_elaborate.specs.Plans.{plan_of}
use Rattle.gl_elaborate.specs.Whole.{statement_figures, statement_spare, statement_ticks}
use Rattle.gl_plan.specs.Planned.{IsWithinLimits}

-- the statement is accepted, and its plan is within the limits
pub record IsBuilt (schema : Schema) (statement : Statement) : Type 0 where
  pub accepted : IsAccepted schema statement
  pub within : IsWithinLimits (plan_of schema statement)

-- the cycles from the last beat to the end of the result, which comes one cycle behind the query's, and from one beat
-- to the next
abbrev pub latency_of : Schema → Statement → ℕ
latency_of schema statement = (statement_figures schema statement).le + 1

-- how many cycles a statement wants from one beat to the next, at least
abbrev pub gap_of : Schema → Statement → ℕ
gap_of schema statement = gap_with (statement_ticks schema statement) (statement_figures schema statement).gt

-- and from a tick to the next one and to the end, where they are others
abbrev pub ticks_of : Schema → Statement → Option ℕ
ticks_of schema statement = ticks_with (statement_ticks schema statement)

-- how far apart a statement wants its beats, and how far apart it is printed that they are to be
abbrev pub gaps_of : Schema → Statement → Gaps
gaps_of schema statement = gaps_with (gap_of schema statement) (ticks_of schema statement)

abbrev pub printed_gaps : Printed → Gaps
printed_gaps p = gaps_with p.gap p.ticks

-- the copies of bodies
abbrev pub copies_of : Schema → Statement → ℕ
copies_of schema statement = copies_with_spare (plan_of schema statement).nodes (plan_of schema statement).root

-- the gap of its query, form by form, without spare copies
abbrev pub own_gap_of : Schema → Statement → ℕ
own_gap_of schema statement = (query_figures (sources_of schema) (query_shape statement.query)).gt

-- with these gaps beats and ticks may come as close as its query's own gap says. Beats may come closer where the
-- statement has spare copies, and where its ticks are farther apart
pub record IsNoFarther (schema : Schema) (statement : Statement) (gaps : Gaps) : Type 0 where
  pub never_farther : gaps.of_beats ≤ own_gap_of schema statement
  pub ticks_neither : gaps.of_ticks ≤ own_gap_of schema statement
  pub with_spare : (it : Spare) → statement_spare schema statement ≡ Some it
      → gaps.of_beats < own_gap_of schema statement
  pub with_ticks : (it : TickGaps) → statement_ticks schema statement ≡ Some it
      → gaps.of_beats < own_gap_of schema statement

-- the gaps that are printed for a statement are no greater than its query's own
abbrev pub GapsAreNoFarther : Type 0
GapsAreNoFarther = (schema : Schema) (statement : Statement) → IsChecked schema statement
    → IsNoFarther schema statement (gaps_of schema statement)
