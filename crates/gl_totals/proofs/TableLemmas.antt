-- The costs of a table against its bounds.
use Rattle.std.proofs.Common.{◌≡◌, ℕ, suc, ◌+◌, ◌-◌, ◌*◌, ◌≤◌, List, [], ◌∷◌, length, arith}
use Rattle.std.specs.Prelude.{All, sum_by}
use Rattle.std.proofs.Math.Nat.{le-max_right, mul-le-mul_left, mul-le-mul_right}
use Rattle.std.proofs.lemmas.List.Sums.{sum_by-cons}
use Rattle.gl_values.specs.Kinds.{IsKind, width_of}
use Rattle.gl_values.specs.declared.kind.Kind.{Kind}
use Rattle.gl_algebra.specs.declared.node.Operand.{Operand}
use Rattle.gl_algebra.specs.declared.node.PlanAgg.{PlanAgg}
use Rattle.gl_algebra.specs.declared.node.PlanAgg.TheVariants.{Avg, Count, Max, Min, Sum, Wsum}
use Rattle.gl_algebra.specs.Columns.{AggFits, OperandFits, kind_of_agg, kind_of_operand}
use Rattle.gl_algebra.specs.FigureTable.{delay_of_agg, delay_of_aggs}
use Rattle.gl_totals.specs.Costs.{kept_of_agg, operand_of_agg, state_of_agg}
use Rattle.gl_totals.proofs.AggListNet.{delay_within}
use Rattle.gl_totals.proofs.KindLemmas.{operand_width}

-- each takes a cycle
pub delay_some : (kinds : List Kind) (aggs : List PlanAgg) → 1 ≤ delay_of_aggs kinds aggs
delay_some kinds [] = omega arith
delay_some kinds (agg ∷ aggs) = omega (arith, delay_some kinds aggs, le-max_right (delay_of_agg kinds agg) (delay_of_aggs kinds aggs))

module _ (kinds : List Kind) (all : All IsKind kinds) where
  -- what is kept of a slot's stream
  pub agg_kept : (agg : PlanAgg) → AggFits kinds agg → kept_of_agg kinds agg ≤ 128
  agg_kept Count fits = omega arith
  agg_kept (Sum operand) fits = omega (arith, operand_width kinds operand all fits.0)
  agg_kept (Min operand) fits = omega (arith, operand_width kinds operand all fits)
  agg_kept (Max operand) fits = omega (arith, operand_width kinds operand all fits)
  agg_kept (Avg operand) fits = omega (arith, operand_width kinds operand all fits.0)
  agg_kept (Wsum operand weights) fits = let few : length weights ≤ 64 = fits.2 in omega (arith, operand_width kinds operand all fits.0, few)

  pub aggs_kept : (aggs : List PlanAgg) → All (AggFits kinds) aggs → sum_by (kept_of_agg kinds) aggs ≤ 128 * length aggs
  aggs_kept [] fit = omega arith
  aggs_kept (agg ∷ aggs) fit =
      omega (arith, agg_kept agg (fit 0 agg (omega arith)), aggs_kept aggs (λ k d lt. fit (suc k) d (omega (arith, lt))), sum_by-cons (kept_of_agg kinds) agg aggs)

  module _ (m : ℕ) (some : 1 ≤ m) where
    stages : (operand : Operand) → OperandFits kinds operand → width_of (kind_of_operand kinds operand) * (m - 1) ≤ 64 * (m - 1)
    stages operand fits = mul-le-mul_right (m - 1) (operand_width kinds operand all fits)

    -- the registers of one aggregate, by the cycles that the slowest takes
    agg_held : (agg : PlanAgg) → AggFits kinds agg → delay_of_agg kinds agg ≤ m
        → state_of_agg kinds agg + width_of (kind_of_agg kinds agg) * (m - 1) + operand_of_agg kinds agg ≤ 240 * m
    agg_held Count fits late = omega (arith, some)
    agg_held (Sum operand) fits late = omega (arith, some, stages operand fits.0, operand_width kinds operand all fits.0)
    agg_held (Min operand) fits late = omega (arith, some, stages operand fits, operand_width kinds operand all fits)
    agg_held (Max operand) fits late = omega (arith, some, stages operand fits, operand_width kinds operand all fits)
    agg_held (Avg operand) fits late =
        let width = width_of (kind_of_operand kinds operand) in
        let small : width ≤ 64 = operand_width kinds operand all fits.0 in
        let divider : (width + 32) * (width + 32 + 2 * 32 + 1) ≤ (width + 32) * 161 = mul-le-mul_left (width + 32) (omega arith) in
        omega (arith, some, stages operand fits.0, small, divider, late)
    agg_held (Wsum operand weights) fits late =
        let few : length weights ≤ 64 = fits.2 in
        omega (arith, some, stages operand fits.0, operand_width kinds operand all fits.0, few)

    aggs_held : (aggs : List PlanAgg) → All (AggFits kinds) aggs → All (λ agg. delay_of_agg kinds agg ≤ m) aggs
        → sum_by (λ agg. state_of_agg kinds agg + width_of (kind_of_agg kinds agg) * (m - 1)) aggs + sum_by (operand_of_agg kinds) aggs ≤ 240 * (length aggs * m)
    aggs_held [] fit late = omega arith
    aggs_held (agg ∷ aggs) fit late =
        let parts : suc (length aggs) * m ≡ length aggs * m + m = omega arith in
        omega (
          arith,
          agg_held agg (fit 0 agg (omega arith)) (late 0 agg (omega arith)),
          aggs_held aggs (λ k d lt. fit (suc k) d (omega (arith, lt))) (λ k d lt. late (suc k) d (omega (arith, lt))),
          sum_by-cons (λ a. state_of_agg kinds a + width_of (kind_of_agg kinds a) * (m - 1)) agg aggs,
          sum_by-cons (operand_of_agg kinds) agg aggs,
          parts,
        )

  -- all registers: lines, aggregates, and what waits beside them
  pub table_registers : (aggs : List PlanAgg) (bits : ℕ) → All (AggFits kinds) aggs → 1 ≤ length aggs → bits ≤ 8
      → bits + 3 + (sum_by (λ agg. state_of_agg kinds agg + width_of (kind_of_agg kinds agg) * (delay_of_aggs kinds aggs - 1)) aggs + sum_by (operand_of_agg kinds) aggs)
      + (delay_of_aggs kinds aggs - 1) + bits * (delay_of_aggs kinds aggs - 1) ≤ 256 * (length aggs * delay_of_aggs kinds aggs)
  table_registers aggs bits fit some few =
      let m = delay_of_aggs kinds aggs in
      let least : 1 ≤ m = delay_some kinds aggs in
      let one : 1 * m ≤ length aggs * m = mul-le-mul_right m some in
      let slots : bits * (m - 1) ≤ 8 * (m - 1) = mul-le-mul_right (m - 1) few in
      omega (arith, aggs_held m least aggs fit (λ i d lt. delay_within kinds aggs i d lt), least, one, slots, few)

  -- and all words
  pub table_words : (aggs : List PlanAgg) (words : ℕ) → All (AggFits kinds) aggs → words * sum_by (kept_of_agg kinds) aggs ≤ 128 * (length aggs * words)
  table_words aggs words fit =
      let each : words * sum_by (kept_of_agg kinds) aggs ≤ words * (128 * length aggs) = mul-le-mul_left words (aggs_kept aggs fit) in
      omega (arith, each)
