-- The delays of a query's last nodes, and the nodes of its as-of join.
use Rattle.std.proofs.Common.{ℕ, Bool, List, length, Option, refl}
use Rattle.gl_schema.specs.declared.schema.Stream.{Stream}
use Rattle.gl_query.specs.Shapes.{ExprShape, AggItemShape, FrameItemShape, QueryShape, SlotsShape}
use Rattle.gl_query.specs.Shapes as shape
use Rattle.gl_bits.proofs.Bools.{and_parts}
use Rattle.gl_query.specs.Columns.{arrives, columns_of, reach_of}
use Rattle.gl_query.specs.Accepted.{IsAcceptedOver}
use Rattle.gl_query.proofs.Real.{reach_kinds}
use Rattle.gl_algebra.specs.declared.node.PlanNode.{PlanNode}
use Rattle.gl_algebra.specs.Fits.{IsPlan}
use Rattle.gl_elaborate.specs.Plans.{filter_of, frames_terms, levelled, placed, selected}
use Rattle.gl_elaborate.specs.Right.{shape_for}
use Rattle.gl_elaborate.proofs.ReadLemmas.{IsReader, means_for}
use Rattle.gl_elaborate.proofs.JoinStands.{IsJoin}
use Rattle.gl_elaborate.proofs.RightLemmas.{behind_columns}
use Rattle.gl_elaborate.proofs.TotalsLemmas.{HasDelay, totals-stand}
use Rattle.gl_elaborate.proofs.FramesLemmas.{HasFrameDelay, frames-stand}
use Rattle.gl_query.specs.Laws.{ResultsAreLong}
use Rattle.gl_elaborate.proofs.QueryLemmas.{columns-are, join-of, right}

pub total-delay : ResultsAreLong → (aggs : List AggItemShape) (source : QueryShape) (read : List ℕ → PlanNode) (sources : List Stream) (timed : Bool) (nodes : List PlanNode)
    → IsReader read sources timed → IsAcceptedOver (record { sources = sources; timed = timed }) (shape.Total aggs source) → IsPlan nodes
    → HasDelay (columns_of sources source) (reach_of sources (columns_of sources source)) aggs (placed read sources source nodes)
total-delay lengths aggs source read sources timed nodes reader a plan =
    let columns = columns_of sources source in
    let below = right lengths source read sources timed nodes reader a.0 plan in
    let are = columns-are source read sources timed reader a.0 in
    let all = reach_kinds (record { sources = sources; timed = timed }) reader.scope columns are.kinds in
    (totals-stand columns (behind_columns sources) all nodes (placed read sources source nodes) (shape_for read sources source) (means_for read sources timed source) refl
    aggs a.1.typed below.1).1

pub frames-delay : ResultsAreLong → (items : List FrameItemShape) (condition : Option ExprShape) (slots : Option SlotsShape) (source : QueryShape) (read : List ℕ → PlanNode)
    (sources : List Stream) (timed : Bool) (nodes : List PlanNode) → IsReader read sources timed
    → IsAcceptedOver (record { sources = sources; timed = timed }) (shape.Frames items condition slots source) → IsPlan nodes
    → let columns = columns_of sources source in
    let reach = reach_of sources columns in
    let over = levelled (length columns) (placed read sources source nodes) (frames_terms columns reach items) (filter_of columns reach condition) in
    HasFrameDelay columns reach items slots (selected over.at over.filter) over.items
frames-delay lengths items condition slots source read sources timed nodes reader a plan =
    let columns = columns_of sources source in
    let below = right lengths source read sources timed nodes reader a.0 plan in
    let are = columns-are source read sources timed reader a.0 in
    let all = reach_kinds (record { sources = sources; timed = timed }) reader.scope columns are.kinds in
    (frames-stand columns (behind_columns sources) are.kinds all nodes (placed read sources source nodes) (shape_for read sources source) (means_for read sources timed source) refl
    items a.1.typed slots a.1.parted condition a.1.filters below.1).1

pub join-right : ResultsAreLong → (l r : QueryShape) (slots : SlotsShape) (read : List ℕ → PlanNode) (sources : List Stream) (timed : Bool) (nodes : List PlanNode)
    → IsReader read sources timed → IsAcceptedOver (record { sources = sources; timed = timed }) (shape.AsOf l r slots) → IsPlan nodes
    → (let left = placed read sources l nodes in
    IsJoin (columns_of sources l) (columns_of sources r) slots nodes left (placed read sources r left.nodes) (shape_for read sources (shape.AsOf l r slots)))
join-right lengths l r slots read sources timed nodes reader a plan =
    let first = right lengths l read sources timed nodes reader a.0 plan in
    let second = right lengths r read sources timed (placed read sources l nodes).nodes reader a.1 first.1.over.plan in
    join-of lengths l r slots read sources timed nodes reader a (and_parts (arrives l) (arrives r) a.2) first.1 second.1
