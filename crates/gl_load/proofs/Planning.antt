-- The plan of the load's query is within the limits, and the query takes a tuple in each cycle.
use Rattle.std.proofs.Common.{◌<◌, ◌≡◌, ◌≢◌, ℕ, zero, suc, Bool, true, false, List, [], length, refl, sym, subst, arith}
use Rattle.std.specs.Prelude.{◌==◌, ◌&&◌, is_some}
use Rattle.std.proofs.Math.Dec.{leb}
use Rattle.std.proofs.lemmas.Bool.{eqb-true, eqb-false, leb-true}
use Rattle.gl_bits.proofs.Bools.{and_left, and_right}
use Rattle.gl_bits.proofs.Options.{some_there}
use Rattle.gl_gaps.specs.Keeps.{even_gaps}
use Rattle.gl_query.specs.Columns.{sources_of}
use Rattle.gl_query.specs.Alike.{query_alike}
use Rattle.gl_algebra.specs.declared.node.PlanNode.{PlanNode}
use Rattle.gl_algebra.specs.Added.{Placed, added}
use Rattle.gl_algebra.specs.FigureTable.{AreSmall, figures_of}
use Rattle.gl_algebra.specs.Nodewise.{nodewise, value_to_depth}
use Rattle.gl_algebra.specs.Shapes.{shape_of}
use Rattle.gl_algebra.specs.Small.{are_small, small_of}
use Rattle.gl_algebra.proofs.SmallLemmas.{small-is}
use Rattle.gl_algebra.specs.Weights.{weight_of}
use Rattle.gl_algebra.specs.Roots.{of_further, spare_at, weight_with_output}
use Rattle.gl_compiler.proofs.Planning.{gaps_at}
use Rattle.gl_figures.specs.Answered.{AreSmallBefore}
use Rattle.gl_bits.specs.Limits.{most_weight}
use Rattle.gl_elaborate.specs.Levels.{level_of}
use Rattle.gl_elaborate.specs.Plans.{placed, stream_node}
use Rattle.gl_plan.specs.Planned.{IsWithinLimits}
use Rattle.gl_load.specs.Query.{load_schema}
use Rattle.gl_load.proofs.Constants.{load_tree}

abbrev pub load_plan : Placed
load_plan = placed (stream_node load_schema.streams) (sources_of load_schema) (query_alike load_tree.query) []

-- the figures of so many nodes are small
abbrev small_to : List PlanNode → ℕ → Bool
small_to nodes zero = true
small_to nodes (suc n) = is_some (small_of (figures_of nodes n)) && small_to nodes n

small_before : (nodes : List PlanNode) (n : ℕ) → small_to nodes n ≡ true → AreSmallBefore nodes n
small_before nodes zero h child lt = absurd (omega arith)
small_before nodes (suc n) h child lt = by (child == n) refl (small_before nodes n (and_right _ _ h) child)
  where
    by : (b : Bool) → (child == n) ≡ b → (child < n → AreSmall (figures_of nodes child)) → AreSmall (figures_of nodes child)
    by true e rest = let same : child ≡ n = eqb-true child n e in subst (λ (k : ℕ). AreSmall (figures_of nodes k)) (sym same) (let there = some_there (small_of (figures_of nodes n)) (and_left _ _ h) in (small-is (figures_of nodes n) there.0 there.1).1)
    by false e rest = rest (let other : child ≢ n = eqb-false child n e in omega (arith, lt, other))

plan_small : small_to load_plan.nodes (length load_plan.nodes) ≡ true
unfolding added level_of nodewise value_to_depth figures_of shape_of small_of are_small
plan_small = refl

plan_light : leb (weight_with_output load_plan.nodes load_plan.root) most_weight ≡ true
unfolding added level_of nodewise value_to_depth figures_of shape_of weight_of spare_at of_further
plan_light = refl

pub plan_within : IsWithinLimits load_plan
plan_within = record { small = small_before load_plan.nodes (length load_plan.nodes) plan_small; light = leb-true _ _ plan_light }

-- it takes a tuple in each cycle, and has no spare copies, since its windows do so without any
pub load_gaps : gaps_at load_schema (query_alike load_tree.query) ≡ even_gaps 1
load_gaps = refl
