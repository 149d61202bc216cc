-- What aggregates cost is within what a plan counts for them.
use Rattle.std.specs.Prelude.{ℕ, All, List}
use Rattle.gl_values.specs.Kinds.{IsKind}
use Rattle.gl_algebra.specs.Columns.{AggFits}
use Rattle.gl_algebra.specs.declared.figures.Figures.{Figures}
use Rattle.gl_algebra.specs.declared.node.PlanAgg.{PlanAgg}
use Rattle.gl_algebra.specs.declared.node.PlanNode.TheVariants.{Aggregate}
use Rattle.gl_algebra.specs.Shapes.{Shape}
use Rattle.gl_wire.specs.Counted.{IsCountedAt}
use Rattle.gl_totals.specs.Costs.{cost_of_aggs}
use Rattle.gl_totals.specs.Totals.{total_widths}

-- aggregates cost no more than a plan counts for them
abbrev pub AggregatesAreCounted : Type 0
AggregatesAreCounted =
    (shapes : ℕ → Shape) (figures : ℕ → Figures) (child : ℕ) (aggs : List PlanAgg)
    → All IsKind (shapes child).kinds → All (AggFits (shapes child).kinds) aggs
    → IsCountedAt shapes figures (Aggregate child aggs) (total_widths (shapes child).kinds aggs)
    (cost_of_aggs (shapes child).kinds aggs)
