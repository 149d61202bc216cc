-- Items over the columns that are asked for alone name the parameters that they named.
use Rattle.std.proofs.Common.{ℕ, List, map}
use Rattle.std.specs.Prelude.{All}
use Rattle.std.proofs.lemmas.List.Elements.{All-from_recursion, recursion_from_All}
use Rattle.gl_bits.proofs.AllLists.{all_mapped, all_weaker}
use Rattle.gl_algebra.specs.Known.{FrameAggKnown, FrameKnown, OperandKnown}
use Rattle.gl_algebra.specs.declared.node.Operand.{Operand}
use Rattle.gl_algebra.specs.declared.node.Operand.TheVariants.{Column, Literal, Parameter}
use Rattle.gl_algebra.specs.declared.node.PlanFrame.{PlanFrame}
use Rattle.gl_algebra.specs.declared.node.PlanFrame.TheVariants.{Own, Lag, Over}
use Rattle.gl_algebra.specs.declared.node.PlanFrameAgg.{PlanFrameAgg}
use Rattle.gl_algebra.specs.declared.node.PlanFrameAgg.TheVariants.{Count, Sum, Min, Max, Avg, LastValue}
use Rattle.gl_frames_asked.specs.Among.{renumber, renumber_agg, renumber_operand}

module _ (words asked : List ℕ) where
  operand_known : (operand : Operand) → OperandKnown words operand → OperandKnown words (renumber_operand asked operand)
  operand_known (Column column) known = tt
  operand_known (Literal word kind) known = tt
  operand_known (Parameter number kind) known = known

  agg_known : (agg : PlanFrameAgg) → FrameAggKnown words agg → FrameAggKnown words (renumber_agg asked agg)
  agg_known Count known = tt
  agg_known (Sum operand) known = operand_known operand known
  agg_known (Min operand) known = operand_known operand known
  agg_known (Max operand) known = operand_known operand known
  agg_known (Avg operand) known = operand_known operand known
  agg_known (LastValue operand) known = operand_known operand known

  item_known : (item : PlanFrame) → FrameKnown words item → FrameKnown words (renumber asked item)
  item_known (Own operand) known = operand_known operand known
  item_known (Lag operand back) known = operand_known operand known
  item_known (Over agg filter back) known = agg_known agg known

  pub items_known : (items : List PlanFrame) → All (FrameKnown words) items → All (FrameKnown words) (map (renumber asked) items)
  items_known items known =
      All-from_recursion (FrameKnown words) (map (renumber asked) items)
      (all_mapped (FrameKnown words) (renumber asked) items
      (all_weaker (FrameKnown words) (λ item. FrameKnown words (renumber asked item)) item_known items (recursion_from_All (FrameKnown words) items known)))
