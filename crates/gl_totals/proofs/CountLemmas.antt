-- The costs of aggregates against what a plan counts.
use Rattle.std.proofs.Common.{◌≡◌, ℕ, suc, ◌+◌, ◌*◌, ◌≤◌, List, [], ◌∷◌, length, map, ◌∙◌, arith}
use Rattle.std.specs.Prelude.{All, sum_by}
use Rattle.std.proofs.Math.Nat.{mul-le-mul_left, mul-le-mul_right}
use Rattle.std.proofs.lemmas.List.{length-map}
use Rattle.std.proofs.lemmas.List.Sums.{sum_by-cons}
use Rattle.gl_values.specs.Kinds.{IsKind, width_of}
use Rattle.gl_values.specs.declared.kind.Kind.{Kind}
use Rattle.gl_algebra.specs.declared.node.Operand.{Operand}
use Rattle.gl_algebra.specs.declared.node.PlanAgg.{PlanAgg}
use Rattle.gl_algebra.specs.declared.node.PlanAgg.TheVariants.{Avg, Count, Max, Min, Sum, Wsum}
use Rattle.gl_algebra.specs.Columns.{AggFits, OperandFits, kind_of_agg, kind_of_operand}
use Rattle.gl_algebra.specs.FigureTable.{delay_of_aggs}
use Rattle.gl_algebra.specs.Weights.{weight_of_agg}
use Rattle.gl_totals.specs.Costs.{state_of_agg}
use Rattle.gl_totals.specs.Totals.{total_widths}
use Rattle.gl_totals.specs.Counted.{AggregatesAreCounted}
use Rattle.gl_totals.proofs.KindLemmas.{operand_width}
use Rattle.gl_totals.proofs.TotalsBehind.{line_within}

module _ (kinds : List Kind) (all : All IsKind kinds) (m : ℕ) where
  stages : (operand : Operand) → OperandFits kinds operand → width_of (kind_of_operand kinds operand) * m ≤ 64 * m
  stages operand fits = mul-le-mul_right m (operand_width kinds operand all fits)

  agg_small : (agg : PlanAgg) → AggFits kinds agg → state_of_agg kinds agg + width_of (kind_of_agg kinds agg) * m ≤ 64 * (m + weight_of_agg kinds agg)
  agg_small Count fits = omega arith
  agg_small (Sum operand) fits = omega (arith, stages operand fits.0, operand_width kinds operand all fits.0)
  agg_small (Min operand) fits = omega (arith, stages operand fits, operand_width kinds operand all fits)
  agg_small (Max operand) fits = omega (arith, stages operand fits, operand_width kinds operand all fits)
  agg_small (Avg operand) fits =
      let width = width_of (kind_of_operand kinds operand) in
      let small : width ≤ 64 = operand_width kinds operand all fits.0 in
      let divider : (width + 32) * (width + 32 + 2 * 32 + 1) ≤ (width + 32) * 161 = mul-le-mul_left (width + 32) (omega arith) in
      omega (arith, stages operand fits.0, small, divider)
  agg_small (Wsum operand weights) fits = omega (arith, stages operand fits.0, operand_width kinds operand all fits.0)

  aggs_small : (aggs : List PlanAgg) → All (AggFits kinds) aggs
      → sum_by (λ agg. state_of_agg kinds agg + width_of (kind_of_agg kinds agg) * m) aggs ≤ 64 * sum_by (λ agg. m + weight_of_agg kinds agg) aggs
  aggs_small [] fit = omega arith
  aggs_small (agg ∷ aggs) fit =
      omega (
        arith,
        agg_small agg (fit 0 agg (omega arith)),
        aggs_small aggs (λ k d lt. fit (suc k) d (omega (arith, lt))),
        sum_by-cons (λ a. state_of_agg kinds a + width_of (kind_of_agg kinds a) * m) agg aggs,
        sum_by-cons (λ a. m + weight_of_agg kinds a) agg aggs,
      )

pub aggregates_are_counted : AggregatesAreCounted
aggregates_are_counted shapes figures child aggs all fit =
    let kinds = (shapes child).kinds in
    let many : length (total_widths kinds aggs) ≡ length aggs = length-map (map (kind_of_agg kinds) aggs) width_of ∙ length-map aggs (kind_of_agg kinds) in
    record {
      nodes = omega (arith, many);
      registers = omega (arith, many, aggs_small kinds all (delay_of_aggs kinds aggs) aggs fit, line_within kinds aggs (weight_of_agg kinds));
      memories = omega arith;
    }
