-- What the totals of a node cost at most is within what a plan counts for it.
use Rattle.std.proofs.Common.{◌≡◌, ℕ, ◌+◌, ◌*◌, ◌≤◌, List, [], ◌∷◌, length, map, All, refl, arith}
use Rattle.std.specs.Prelude.{sum_by}
use Rattle.std.proofs.lemmas.List.Elements.{All-head, All-tail}
use Rattle.std.proofs.lemmas.List.{length-map}
use Rattle.std.proofs.lemmas.List.Sums.{sum_by-cons}
use Rattle.std.proofs.Math.Nat.{mul-le-mul_left, mul-le-mul_right}
use Rattle.gl_values.specs.Kinds.{IsKind, width_of}
use Rattle.gl_values.specs.declared.kind.Kind.{Kind}
use Rattle.gl_values.proofs.KindLemmas.{kind_width}
use Rattle.gl_algebra.specs.declared.node.Operand.{Operand}
use Rattle.gl_algebra.specs.declared.node.Operand.TheVariants.{Column, Literal, Parameter}
use Rattle.gl_algebra.specs.declared.node.PlanAgg.{PlanAgg}
use Rattle.gl_algebra.specs.declared.node.PlanAgg.TheVariants.{Count, Sum, Min, Max, Avg, Wsum}
use Rattle.gl_algebra.specs.Columns.{AggFits, OperandFits, bit_kind, kind_of_agg, kind_of_operand}
use Rattle.gl_algebra.specs.FigureTable.{delay_of_agg, delay_of_aggs}
use Rattle.gl_algebra.specs.Weights.{weight_of_agg}
use Rattle.gl_wire.specs.Counted.{IsCounted}
use Rattle.gl_totals.specs.Costs.{cost_of_aggs, state_of_agg}

module _ (kinds : List Kind) (are : All IsKind kinds) where
  operand_within : (operand : Operand) → OperandFits kinds operand → width_of (kind_of_operand kinds operand) ≤ 64
  operand_within (Column column) h = kind_width (kind_of_operand kinds (Column column)) (are column bit_kind h)
  operand_within (Literal word kind) h = kind_width kind h.1
  operand_within (Parameter number kind) h = kind_width kind h

  agg_within : (agg : PlanAgg) → AggFits kinds agg → width_of (kind_of_agg kinds agg) ≤ 64
  agg_within Count h = omega arith
  agg_within (Sum operand) h = operand_within operand h.0
  agg_within (Min operand) h = operand_within operand h
  agg_within (Max operand) h = operand_within operand h
  agg_within (Avg operand) h = operand_within operand h.0
  agg_within (Wsum operand weights) h = operand_within operand h.0

  delay_within_agg : (agg : PlanAgg) → AggFits kinds agg → delay_of_agg kinds agg ≤ 98
  delay_within_agg Count h = omega arith
  delay_within_agg (Sum operand) h = omega arith
  delay_within_agg (Min operand) h = omega arith
  delay_within_agg (Max operand) h = omega arith
  delay_within_agg (Avg operand) h = let w = operand_within operand h.0 in omega (arith, w)
  delay_within_agg (Wsum operand weights) h = omega arith

  -- an average of 64 bits is the slowest aggregate
  pub delays_within : (aggs : List PlanAgg) → All (AggFits kinds) aggs → delay_of_aggs kinds aggs ≤ 98
  delays_within [] h = omega arith
  delays_within (agg ∷ aggs) h =
      omega (arith, delay_within_agg agg (All-head (AggFits kinds) agg aggs h), delays_within aggs (All-tail (AggFits kinds) agg aggs h))

  pub delay_some : (aggs : List PlanAgg) → 1 ≤ delay_of_aggs kinds aggs
  delay_some [] = omega arith
  delay_some (agg ∷ aggs) = omega (arith, delay_some aggs)

  -- the divider of an average: a stage for each digit
  divider_within : (w : ℕ) → w ≤ 64 → (w + 32) + 32 + ((w + 32) + 32 + 1 + (w + 32) * ((w + 32) + 2 * 32 + 1)) ≤ 64 * (16 * (w + 34))
  divider_within w h =
      let m = mul-le-mul_left (w + 32) (let z : (w + 32) + 2 * 32 + 1 ≤ 161 = omega (arith, h) in z) in
      omega (arith, m, h)

  state_within : (agg : PlanAgg) → AggFits kinds agg → state_of_agg kinds agg ≤ 64 * weight_of_agg kinds agg
  state_within Count h = omega arith
  state_within (Sum operand) h = let w = operand_within operand h.0 in omega (arith, w)
  state_within (Min operand) h = let w = operand_within operand h in omega (arith, w)
  state_within (Max operand) h = let w = operand_within operand h in omega (arith, w)
  state_within (Avg operand) h = divider_within (width_of (kind_of_operand kinds operand)) (operand_within operand h.0)
  state_within (Wsum operand weights) h = let w = operand_within operand h.0 in omega (arith, w)

  -- one aggregate, `m` cycles after the end
  agg_counted : (m : ℕ) (agg : PlanAgg) → AggFits kinds agg
      → state_of_agg kinds agg + width_of (kind_of_agg kinds agg) * m ≤ 64 * (m + weight_of_agg kinds agg)
  agg_counted m agg h =
      let p = mul-le-mul_right m (agg_within agg h) in
      omega (arith, state_within agg h, p)

  each_counted : (m : ℕ) (aggs : List PlanAgg) → All (AggFits kinds) aggs
      → sum_by (λ agg. state_of_agg kinds agg + width_of (kind_of_agg kinds agg) * m) aggs + 64 * (m * length aggs)
      ≤ 64 * sum_by (λ agg. 2 * m + weight_of_agg kinds agg) aggs
  each_counted m [] h = omega arith
  each_counted m (agg ∷ aggs) h =
      let rest = each_counted m aggs (All-tail (AggFits kinds) agg aggs h) in
      let e : m * length (agg ∷ aggs) ≡ m + m * length aggs = omega arith in
      let bits = sum_by-cons (λ a. state_of_agg kinds a + width_of (kind_of_agg kinds a) * m) agg aggs in
      let weights = sum_by-cons (λ a. 2 * m + weight_of_agg kinds a) agg aggs in
      omega (arith, agg_counted m agg (All-head (AggFits kinds) agg aggs h), rest, e, bits, weights)

  -- the slowest aggregate delays no more than this, if there is none by one cycle
  delay_within : (aggs : List PlanAgg) (m : ℕ) → delay_of_aggs kinds aggs ≡ m → m ≤ 1 + 64 * (m * length aggs)
  delay_within [] m e = omega (arith, e)
  delay_within (agg ∷ aggs) m e = let n : m * length (agg ∷ aggs) ≡ m + m * length aggs = omega arith in omega (arith, n)

  pub aggs_counted : (aggs : List PlanAgg) → All (AggFits kinds) aggs
      → (let own = 4 * (length (map (kind_of_agg kinds) aggs) + 2) + sum_by (λ agg. 2 * delay_of_aggs kinds aggs + weight_of_agg kinds agg) aggs in
      IsCounted (cost_of_aggs kinds aggs) own own 0)
  aggs_counted aggs h =
      let m = delay_of_aggs kinds aggs in
      let n : length (map (kind_of_agg kinds) aggs) ≡ length aggs = length-map aggs (kind_of_agg kinds) in
      let each = each_counted m aggs h in
      record {
        nodes = omega (arith, n);
        registers = omega (arith, each, delay_within aggs m refl);
        memories = omega arith;
      }
