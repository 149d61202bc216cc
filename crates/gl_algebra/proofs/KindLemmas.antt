-- The columns of a plan's nodes have kinds of columns.
use Rattle.std.proofs.Common.{ℕ, List, All, map, sym, subst, lit<, lit≤}
use Rattle.std.proofs.lemmas.List.Elements.{All-append, All-cons, All-map, All-weaker}
use Rattle.gl_values.specs.Kinds.{IsKind}
use Rattle.gl_values.specs.Operators.{sort_of}
use Rattle.gl_values.specs.declared.kind.Kind.{Kind}
use Rattle.gl_values.proofs.KindLemmas.{bit_is_kind, cast_kind, result_is}
use Rattle.gl_algebra.specs.declared.node.ColOp.{ColOp}
use Rattle.gl_algebra.specs.declared.node.ColOp.TheVariants.{Not, Flip, Cast, Binary}
use Rattle.gl_algebra.specs.declared.node.Operand.{Operand}
use Rattle.gl_algebra.specs.declared.node.Operand.TheVariants.{Column, Literal, Parameter}
use Rattle.gl_algebra.specs.declared.node.PlanAgg.{PlanAgg}
use Rattle.gl_algebra.specs.declared.node.PlanAgg.TheVariants.{Count, Sum, Min, Max, Avg, Wsum}
use Rattle.gl_algebra.specs.declared.node.PlanFrame.{PlanFrame}
use Rattle.gl_algebra.specs.declared.node.PlanFrame.TheVariants.{Own, Lag, Over}
use Rattle.gl_algebra.specs.declared.node.PlanFrameAgg.{PlanFrameAgg}
use Rattle.gl_algebra.specs.declared.node.PlanFrameAgg.TheVariants as over
use Rattle.gl_algebra.specs.declared.node.PlanNode.{PlanNode}
use Rattle.gl_algebra.specs.declared.node.PlanNode.TheVariants.{Stream, Body, Compute, Select, Project, Frames, Aggregate, Union, Merge, Beside, Window, TimeWindow, Group, Partition}
use Rattle.gl_algebra.specs.Columns.{bit_kind, kind_of_column, kind_of_operand, kind_of_op, kind_of_agg, kind_of_frame, kind_of_frame_agg, OperandFits, OpFits, AggFits, FrameAggFits, FrameFits}
use Rattle.gl_algebra.specs.Fits.{Suits}
use Rattle.gl_algebra.specs.Laws.{ColumnsHaveKinds}
use Rattle.gl_algebra.specs.Nodewise.{named_by}
use Rattle.gl_algebra.specs.Shapes.{Shape, shape_of, shape_from, kinds_of}
use Rattle.gl_algebra.proofs.PlanLemmas.{by_nodes}
use Rattle.gl_algebra.proofs.TableLemmas.{nodes_follow_tables}

module _ (kinds : List Kind) (are : All IsKind kinds) where
  operand_is : (operand : Operand) → OperandFits kinds operand → IsKind (kind_of_operand kinds operand)
  operand_is (Column column) fits = are column bit_kind fits
  operand_is (Literal word kind) fits = fits.1
  operand_is (Parameter number kind) fits = fits

  op_is : (op : ColOp) → OpFits kinds op → IsKind (kind_of_op kinds op)
  op_is (Not operand) fits = bit_is_kind
  op_is (Flip operand) fits = operand_is operand fits.0
  op_is (Cast operand kind) fits = cast_kind (kind_of_operand kinds operand) kind fits.1
  op_is (Binary operator left right) fits = result_is (sort_of operator) (kind_of_operand kinds left) (operand_is left fits.0)

  agg_is : (agg : PlanAgg) → AggFits kinds agg → IsKind (kind_of_agg kinds agg)
  agg_is Count fits = (lit≤ tt, lit≤ tt)
  agg_is (Sum operand) fits = operand_is operand fits.0
  agg_is (Min operand) fits = operand_is operand fits
  agg_is (Max operand) fits = operand_is operand fits
  agg_is (Avg operand) fits = operand_is operand fits.0
  agg_is (Wsum operand weights) fits = operand_is operand fits.0

  frame_agg_is : (agg : PlanFrameAgg) → FrameAggFits kinds agg → IsKind (kind_of_frame_agg kinds agg)
  frame_agg_is over.Count fits = (lit≤ tt, lit≤ tt)
  frame_agg_is (over.Sum operand) fits = operand_is operand fits.0
  frame_agg_is (over.Min operand) fits = operand_is operand fits
  frame_agg_is (over.Max operand) fits = operand_is operand fits
  frame_agg_is (over.Avg operand) fits = operand_is operand fits.0
  frame_agg_is (over.LastValue operand) fits = operand_is operand fits

  frame_is : (item : PlanFrame) → FrameFits kinds item → IsKind (kind_of_frame kinds item)
  frame_is (Own operand) fits = operand_is operand fits
  frame_is (Lag operand back) fits = operand_is operand fits.0
  frame_is (Over agg filter back) fits = frame_agg_is agg fits.0

  mapped_are : {A : Type 0} (kind_of : A → Kind) (Fits : A → Type 0) → ((x : A) → Fits x → IsKind (kind_of x))
      → (xs : List A) → All Fits xs → All IsKind (map kind_of xs)
  mapped_are kind_of Fits is xs fit = All-map IsKind kind_of xs (All-weaker Fits (λ x. IsKind (kind_of x)) is xs fit)

row_is : (s : ℕ → Shape) (node : PlanNode) → Suits s node → All (λ child. All IsKind (s child).kinds) (named_by node)
    → All IsKind (shape_from s node).kinds
row_is s (Stream number kinds) suits are = suits
row_is s (Body kinds) suits are = suits
row_is s (Compute child ops) suits are =
    let own = are 0 0 (lit< tt) in
    All-append IsKind (s child).kinds (map (kind_of_op (s child).kinds) ops) own
    (mapped_are (s child).kinds own (kind_of_op (s child).kinds) (OpFits (s child).kinds) (op_is (s child).kinds own) ops suits)
row_is s (Select child column) suits are = are 0 0 (lit< tt)
row_is s (Project child items) suits are =
    let own = are 0 0 (lit< tt) in
    mapped_are (s child).kinds own (kind_of_operand (s child).kinds) (OperandFits (s child).kinds) (operand_is (s child).kinds own) items suits
row_is s (Frames child by items) suits are =
    let own = are 0 0 (lit< tt) in
    mapped_are (s child).kinds own (kind_of_frame (s child).kinds) (FrameFits (s child).kinds) (frame_is (s child).kinds own) items suits.0
row_is s (Aggregate child aggs) suits are =
    let own = are 0 0 (lit< tt) in
    mapped_are (s child).kinds own (kind_of_agg (s child).kinds) (AggFits (s child).kinds) (agg_is (s child).kinds own) aggs suits
row_is s (Union left right) suits are = are 0 0 (lit< tt)
row_is s (Merge left right) suits are = are 0 0 (lit< tt)
row_is s (Beside left right) suits are =
    All-append IsKind (s left).kinds (s right).kinds (are 0 0 (lit< tt)) (are 1 0 (lit< tt))
row_is s (Window source body size advance) suits are = are 1 0 (lit< tt)
row_is s (TimeWindow source body size advance) suits are = are 1 0 (lit< tt)
row_is s (Group source body key groups) suits are =
    All-cons IsKind (kind_of_column (s source).kinds key) (s body).kinds
    (are 0 0 (lit< tt) key bit_kind suits.1) (are 1 0 (lit< tt))
row_is s (Partition source body key groups size advance) suits are =
    All-cons IsKind (kind_of_column (s source).kinds key) (s body).kinds
    (are 0 0 (lit< tt) key bit_kind suits.1) (are 1 0 (lit< tt))

pub columns_have_kinds : ColumnsHaveKinds
columns_have_kinds nodes number plan within =
    by_nodes nodes plan (λ n. All IsKind (kinds_of nodes n))
    (λ n node is fits before.
    subst (λ (x : Shape). All IsKind x.kinds) (sym (nodes_follow_tables nodes n node plan is).shape)
    (row_is (shape_of nodes) node fits.suits (λ k d h. before _ (fits.before k d h))))
    number within
