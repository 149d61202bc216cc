-- The plan of an accepted query fits, has the query's shape, and each of its results is one of the query.
use Rattle.std.proofs.Common.{◌≡◌, ℕ, Bool, true, false, ◌&&◌, List, [], ◌∷◌, ◌++◌, slice_index, refl, sym, ap, subst, ◌∙◌, map}
use Rattle.std.specs.Prelude.{IsTrue}
use Rattle.std.proofs.lemmas.List.{map-append}
use Rattle.gl_values.specs.Lists.{Group, groups, has_further}
use Rattle.gl_values.specs.Partitions.{parts}
use Rattle.gl_values.specs.Results.{Row, AreBeside, AreJoined, IsOfBoth, IsOfGroup, IsOfParts}
use Rattle.gl_values.specs.declared.kind.Kind.{Kind}
use Rattle.gl_schema.specs.declared.schema.Stream.{Stream}
use Rattle.gl_schema.specs.Schemas.{kinds_of}
use Rattle.gl_query.specs.Shapes.{QueryShape, SlotsShape}
use Rattle.gl_query.specs.Shapes as shape
use Rattle.gl_query.specs.Values.{column_number}
use Rattle.gl_bits.proofs.Bools.{and_parts}
use Rattle.gl_query.specs.Columns.{arrives, columns_of, frame_column, source_columns, is_closing, pace_of, picked_columns, reach_of}
use Rattle.gl_query.specs.Columns as query
use Rattle.gl_query.specs.Accepted.{IsAcceptedOver}
use Rattle.gl_query.specs.Windows.{parts_of}
use Rattle.gl_query.specs.Results.{IsResultIn, only, picked, kept, ticks_in, times_in, total_row, widened, words_in}
use Rattle.gl_query.proofs.Holding.{all_parts}
use Rattle.gl_query.proofs.Real.{AreReal, real, reach_kinds}
use Rattle.gl_algebra.specs.declared.node.PlanNode.{PlanNode}
use Rattle.gl_algebra.specs.declared.node.PlanNode.TheVariants as node
use Rattle.gl_algebra.specs.Fits.{IsPlan}
use Rattle.gl_algebra.specs.Shapes.{Pace, unsteady, shape_of}
use Rattle.gl_algebra.specs.Added.{Placed, added}
use Rattle.gl_algebra.specs.Results.{given, IsPlanArrival, IsPlanResult}
use Rattle.gl_elaborate.proofs.TermLemmas.{kind-column}
use Rattle.gl_elaborate.proofs.AcceptedLemmas.{column-fits}
use Rattle.gl_elaborate.specs.Plans.{frames_over, key_over, placed, rows_over, totals_over, window_node}
use Rattle.gl_elaborate.specs.Fitting.{PlacedFit}
use Rattle.gl_elaborate.specs.Right.{plan_pace, leaves_of, shape_for}
use Rattle.gl_elaborate.proofs.LongLemmas.{AreLong, in-groups, in-parts, results-long}
use Rattle.gl_elaborate.proofs.ReadLemmas.{IsReader, means_for, all-kinds, read-arrives, read-shape, read-fits, read-means, body-reader, body-sees, body-leaves, sees-words}
use Rattle.gl_elaborate.proofs.StandsLemmas.{Stands, weaker}
use Rattle.gl_elaborate.specs.Joins.{as_of_over}
use Rattle.gl_elaborate.proofs.JoinStands.{IsJoin, join-stands}
use Rattle.gl_elaborate.proofs.RightLemmas.{ComeOf, joined-arrives, joined-means, rows-pace, frames-pace, some-pace, over-stream, same-parts, framed-means, picked-arrives, framed-arrives, merged-arrives, behind_columns, seen_over}
use Rattle.gl_elaborate.proofs.RowsLemmas.{IsPicked, rows-stand}
use Rattle.gl_elaborate.proofs.TotalsLemmas.{IsTotalled, totals-stand}
use Rattle.gl_elaborate.proofs.KeyedLemmas.{AreFramed}
use Rattle.gl_elaborate.proofs.FramesLemmas.{frames-stand}
use Rattle.gl_elaborate.proofs.TwoLemmas.{behind, left-comes, left_still, merge-stands, union-stands, beside-stands, window-stands, group-stands, partition-stands}
use Rattle.gl_query.specs.Laws.{IsLongAs, ResultsAreLong}

-- ---- queries

pub columns-are : (q : QueryShape) (read : List ℕ → PlanNode) (sources : List Stream) (timed : Bool) → IsReader read sources timed
    → IsAcceptedOver (record { sources = sources; timed = timed }) q → AreReal (columns_of sources q)
columns-are q read sources timed reader a = real q (record { sources = sources; timed = timed }) reader.scope a

module _ (read : List ℕ → PlanNode) (sources : List Stream) (timed : Bool) where
  -- where each row of a query comes of one row that came, what comes of its node is what comes of the query
  abbrev pub HasArrivals : QueryShape → Placed → Type 0
  HasArrivals q at = IsTrue (arrives q) → ComeOf read sources timed q (λ inputs. IsPlanArrival at.nodes at.root inputs)

  abbrev pub IsRight : QueryShape → List PlanNode → Type 0
  IsRight q nodes = PlacedFit read sources q nodes × Stands nodes (placed read sources q nodes) (shape_for read sources q) (means_for read sources timed q)
      × HasArrivals q (placed read sources q nodes)

-- the nodes of an as-of join over both sides' nodes
pub join-of : ResultsAreLong → (l r : QueryShape) (slots : SlotsShape) (read : List ℕ → PlanNode) (sources : List Stream) (timed : Bool) (nodes : List PlanNode) → IsReader read sources timed
    → IsAcceptedOver (record { sources = sources; timed = timed }) (shape.AsOf l r slots) → IsTrue (arrives l) × IsTrue (arrives r)
    → Stands nodes (placed read sources l nodes) (shape_for read sources l) (means_for read sources timed l)
    → (let left = placed read sources l nodes in Stands left.nodes (placed read sources r left.nodes) (shape_for read sources r) (means_for read sources timed r))
    → (let left = placed read sources l nodes in
    IsJoin (columns_of sources l) (columns_of sources r) slots nodes left (placed read sources r left.nodes) (shape_for read sources (shape.AsOf l r slots)))
join-of lengths l r slots read sources timed nodes reader a come s t =
    let left = placed read sources l nodes in
    join-stands (columns_of sources l) (columns_of sources r) slots (columns-are l read sources timed reader a.0).kinds (columns-are r read sources timed reader a.1).kinds a.3
    nodes left (placed read sources r left.nodes) (shape_for read sources l) (shape_for read sources r) (means_for read sources timed l) (means_for read sources timed r)
    refl refl come.0 come.1 s t

-- the plan of an accepted query
pub right : ResultsAreLong → (q : QueryShape) (read : List ℕ → PlanNode) (sources : List Stream) (timed : Bool) (nodes : List PlanNode) → IsReader read sources timed
    → IsAcceptedOver (record { sources = sources; timed = timed }) q → IsPlan nodes → IsRight read sources timed q nodes
right lengths (shape.Read name) read sources timed nodes reader a plan =
    let leaf = reader.leaf name a in
    let fits = read-fits (read name) (kinds_of (source_columns sources name)) nodes leaf (all-kinds (source_columns sources name) (reader.scope.kinds name)) in
    let new = behind nodes (read name) plan fits in (
      fits,
      record {
        over = new.over;
        is = new.shape ∙ read-shape (read name) (kinds_of (source_columns sources name)) (shape_of nodes) leaf;
        means = λ inputs out spill r env sees.
            let given = read-means (read name) (kinds_of (source_columns sources name)) (shape_of nodes) (IsPlanArrival nodes) (IsPlanResult nodes) inputs out spill leaf
            (new.result inputs out spill r) in
            record { rows = given.0 ∙ sees.reads name a; kept = given.1 };
      },
      λ t inputs out spill r env sees.
          let given = read-arrives (read name) (kinds_of (source_columns sources name)) (shape_of nodes) (IsPlanArrival nodes) inputs out spill leaf
          (new.comes inputs out spill r) in
          record { rows = given.0 ∙ sees.places name a; kept = given.1 },
    )
right lengths (shape.Rows pick condition source) read sources timed nodes reader a plan =
    let columns = columns_of sources source in
    let behind_them = behind_columns sources in
    let reach = reach_of sources columns in
    let below = right lengths source read sources timed nodes reader a.0 plan in
    let are = columns-are source read sources timed reader a.0 in
    let all = reach_kinds (record { sources = sources; timed = timed }) reader.scope columns are.kinds in
    let done = rows-stand columns behind_them all nodes (placed read sources source nodes) (shape_for read sources source) (means_for read sources timed source) refl
    pick condition a.1 below.1 in
    let from = placed read sources source nodes in
    let at = rows_over columns reach pick condition from in
    let paced = subst (λ (p : Pace). Stands nodes at (record (shape_for read sources source) { kinds = kinds_of (picked_columns columns reach pick); pace = p })
    (λ inputs. IsPicked columns behind_them pick condition inputs.sets (means_for read sources timed source inputs))) (rows-pace read condition (pace_of source)) done.1 in (
      (below.0, done.0),
      weaker nodes at (shape_for read sources (shape.Rows pick condition source)) (λ inputs. IsPicked columns behind_them pick condition inputs.sets (means_for read sources timed source inputs))
          (means_for read sources timed (shape.Rows pick condition source)) paced
          (λ inputs out spill r env sees.
          let result = r.of_source env sees in
          record {
            rows = r.rows;
            of_source = result;
            changed = subst (λ (s : List Stream). out ≡ map (picked (seen_over env s source) pick) (kept (seen_over env s source) condition r.rows))
                (sym sees.streams)
                (r.made (words_in env) (sees-words read sources timed env inputs sees)
                (results-long lengths source sources timed env r.rows spill a.0 sees.streams sees.are_long result));
          }),
      λ t inputs out spill r.
          picked-arrives lengths pick condition source read sources timed a.0 (λ i. IsPlanArrival from.nodes from.root i) (below.2 t) inputs out spill (done.2 inputs out spill r),
    )
right lengths (shape.Total aggs source) read sources timed nodes reader a plan =
    let columns = columns_of sources source in
    let behind_them = behind_columns sources in
    let reach = reach_of sources columns in
    let below = right lengths source read sources timed nodes reader a.0 plan in
    let are = columns-are source read sources timed reader a.0 in
    let all = reach_kinds (record { sources = sources; timed = timed }) reader.scope columns are.kinds in
    let done = totals-stand columns behind_them all nodes (placed read sources source nodes) (shape_for read sources source) (means_for read sources timed source) refl
    aggs a.1.typed below.1 in
    let at = totals_over columns reach aggs (placed read sources source nodes) in (
      (below.0, done.0),
      weaker nodes at (shape_for read sources (shape.Total aggs source)) (λ inputs. IsTotalled columns behind_them aggs inputs.sets (means_for read sources timed source inputs))
          (means_for read sources timed (shape.Total aggs source)) done.2
          (λ inputs out spill r env sees.
          let result = r.of_source env sees in
          record {
            rows = r.rows;
            of_source = result;
            changed = subst (λ (s : List Stream). out ≡ total_row (reach_of s (columns_of s source)) aggs (widened (words_in env) r.rows) ∷ [])
                (sym sees.streams)
                (r.made (words_in env) (sees-words read sources timed env inputs sees)
                (results-long lengths source sources timed env r.rows spill a.0 sees.streams sees.are_long result));
          }),
      λ t. absurd (cc),
    )
right lengths (shape.Frames items condition slots source) read sources timed nodes reader a plan =
    let columns = columns_of sources source in
    let behind_them = behind_columns sources in
    let reach = reach_of sources columns in
    let below = right lengths source read sources timed nodes reader a.0 plan in
    let are = columns-are source read sources timed reader a.0 in
    let all = reach_kinds (record { sources = sources; timed = timed }) reader.scope columns are.kinds in
    let done = frames-stand columns behind_them are.kinds all nodes (placed read sources source nodes) (shape_for read sources source) (means_for read sources timed source) refl
    items a.1.typed slots a.1.parted condition a.1.filters below.1 in
    let from = placed read sources source nodes in
    let at = frames_over columns reach items condition (key_over columns slots) from in
    let paced = subst (λ (p : Pace). Stands nodes at (record (shape_for read sources source) { kinds = kinds_of (map (frame_column reach) items); pace = p })
    (λ inputs. AreFramed columns behind_them items condition slots inputs.sets (means_for read sources timed source inputs))) (frames-pace read columns slots condition (pace_of source)) done.2 in (
      (below.0, done.0),
      weaker nodes at (shape_for read sources (shape.Frames items condition slots source))
          (λ inputs. AreFramed columns behind_them items condition slots inputs.sets (means_for read sources timed source inputs))
          (means_for read sources timed (shape.Frames items condition slots source)) paced
          (framed-means lengths items condition slots source read sources timed a.0),
      λ t inputs out spill r.
          framed-arrives lengths items condition slots source read sources timed a.0 (λ i. IsPlanArrival from.nodes from.root i) (below.2 t) inputs out spill (done.3 inputs out spill r),
    )
right lengths (shape.Each measure var source size advance body) read sources timed nodes reader a plan =
    let columns = columns_of sources source in
    let inner : List ℕ → PlanNode = λ name. node.Body (kinds_of columns) in
    let below = right lengths source read sources timed nodes reader a.0 plan in
    let are = columns-are source read sources timed reader a.0 in
    let from = placed read sources source nodes in
    let inside = right lengths body inner (query.inside sources var columns) false from.nodes (body-reader sources timed reader.scope var columns are) a.2 below.1.over.plan in
    let at = placed inner (query.inside sources var columns) body from.nodes in
    let timely = over-stream measure source read sources timed nodes at size advance reader a.0 a.4 plan inside.1.over in
    let two = window-stands nodes from at (shape_for read sources source) (shape_for inner (query.inside sources var columns) body)
    (means_for read sources timed source) (means_for inner (query.inside sources var columns) false body) below.1 inside.1 measure size advance a.1 timely a.3 (body-leaves (node.Body (kinds_of columns)) body) in
    let s = left_still nodes from at (shape_for read sources source) (shape_for inner (query.inside sources var columns) body)
    (means_for read sources timed source) (means_for inner (query.inside sources var columns) false body) below.1 inside.1 in (
      (below.0, inside.0, two.fits),
      weaker nodes (added at.nodes (window_node measure from.root at.root size advance)) (shape_for read sources (shape.Each measure var source size advance body)) _
          (means_for read sources timed (shape.Each measure var source size advance body)) two.stands
          (λ inputs out spill r env sees.
          let result = s.means inputs r.rows r.source_spill r.of_source env sees in
          let long = results-long lengths source sources timed env r.rows r.source_spill a.0 sees.streams sees.are_long result in
          let parts = same-parts measure source read sources timed env inputs size advance r.rows a.0 a.4 sees in
          subst (λ (ss : List Stream). IsOfParts (IsResultIn source env) (parts_of measure size advance (times_in env source) (ticks_in env source))
          (λ rows. IsResultIn body (only env var (columns_of ss source) rows)) (λ rows. false) out spill) (sym sees.streams)
          (record {
            rows = r.rows;
            source_spill = r.source_spill;
            parts_spill = r.parts_spill;
            of_source = result;
            of_parts = joined-means (AreLong columns) _ (λ rows. IsResultIn body (only env var columns rows))
                (λ rows o sp h is. inside.1.means (given inputs rows) o sp is (only env var columns rows) (body-sees read sources timed env var columns inputs rows sees h))
                (parts_of measure size advance (times_in env source) (ticks_in env source) r.rows) out r.parts_spill
                (all_parts (IsLongAs columns) measure size advance (times_in env source) (ticks_in env source) r.rows long)
                (subst (λ (ps : List (List Row)). AreJoined (λ slice. IsPlanResult at.nodes at.root (given inputs slice)) ps out r.parts_spill) parts r.of_parts);
            any = r.any;
          })),
      λ t. absurd (cc),
    )
right lengths (shape.PerGroup var source key count body) read sources timed nodes reader a plan =
    let columns = columns_of sources source in
    let inner : List ℕ → PlanNode = λ name. node.Body (kinds_of columns) in
    let below = right lengths source read sources timed nodes reader a.0 plan in
    let are = columns-are source read sources timed reader a.0 in
    let from = placed read sources source nodes in
    let inside = right lengths body inner (query.inside sources var columns) false from.nodes (body-reader sources timed reader.scope var columns are) a.2 below.1.over.plan in
    let at = placed inner (query.inside sources var columns) body from.nodes in
    let number = column_number columns key in
    let two = group-stands nodes from at (shape_for read sources source) (shape_for inner (query.inside sources var columns) body)
    (means_for read sources timed source) (means_for inner (query.inside sources var columns) false body) below.1 inside.1 number count (column-fits columns are.kinds key a.1.known)
    a.1.some_groups a.1.most_groups a.3 (body-leaves (node.Body (kinds_of columns)) body) in
    let s = left_still nodes from at (shape_for read sources source) (shape_for inner (query.inside sources var columns) body)
    (means_for read sources timed source) (means_for inner (query.inside sources var columns) false body) below.1 inside.1 in
    let stands = subst (λ (k : Kind). Stands nodes (added at.nodes (node.Group from.root at.root number count))
    (record (shape_for read sources source) { kinds = k ∷ kinds_of (columns_of (query.inside sources var columns) body); closing = true; pace = unsteady; arrives = false })
    (λ inputs. IsOfParts (IsPlanResult at.nodes from.root inputs) (groups count (λ row. slice_index row number))
    (IsOfGroup (λ rows. IsPlanResult at.nodes at.root (given inputs rows))) (has_further count (λ row. slice_index row number))))
    (kind-column columns key) two.stands in (
      (below.0, inside.0, two.fits),
      weaker nodes (added at.nodes (node.Group from.root at.root number count)) (shape_for read sources (shape.PerGroup var source key count body)) _
          (means_for read sources timed (shape.PerGroup var source key count body)) stands
          (λ inputs out spill r env sees.
          let result = s.means inputs r.rows r.source_spill r.of_source env sees in
          let long = results-long lengths source sources timed env r.rows r.source_spill a.0 sees.streams sees.are_long result in
          subst (λ (ss : List Stream). IsOfParts (IsResultIn source env) (groups count (λ row. slice_index row (column_number (columns_of ss source) key)))
          (IsOfGroup (λ rows. IsResultIn body (only env var (columns_of ss source) rows)))
          (has_further count (λ row. slice_index row (column_number (columns_of ss source) key))) out spill) (sym sees.streams)
          (record {
            rows = r.rows;
            source_spill = r.source_spill;
            parts_spill = r.parts_spill;
            of_source = result;
            of_parts = joined-means (λ (g : Group Row). AreLong columns g.rows) _ (IsOfGroup (λ rows. IsResultIn body (only env var columns rows)))
                (λ (g : Group Row) o sp h is. record {
                  rows = is.rows;
                  of_source = inside.1.means (given inputs g.rows) is.rows sp is.of_source (only env var columns g.rows) (body-sees read sources timed env var columns inputs g.rows sees h);
                  changed = is.changed;
                })
                (groups count (λ row. slice_index row number) r.rows) out r.parts_spill
                (in-groups (IsLongAs columns) count (λ row. slice_index row number) r.rows long) r.of_parts;
            any = r.any;
          })),
      λ t. absurd (cc),
    )
right lengths (shape.Partition var source key count size advance body) read sources timed nodes reader a plan =
    let columns = columns_of sources source in
    let inner : List ℕ → PlanNode = λ name. node.Body (kinds_of columns) in
    let below = right lengths source read sources timed nodes reader a.0 plan in
    let are = columns-are source read sources timed reader a.0 in
    let from = placed read sources source nodes in
    let inside = right lengths body inner (query.inside sources var columns) false from.nodes (body-reader sources timed reader.scope var columns are) a.2 below.1.over.plan in
    let at = placed inner (query.inside sources var columns) body from.nodes in
    let number = column_number columns key in
    let two = partition-stands nodes from at (shape_for read sources source) (shape_for inner (query.inside sources var columns) body)
    (means_for read sources timed source) (means_for inner (query.inside sources var columns) false body) below.1 inside.1 number count size advance (column-fits columns are.kinds key a.1.grouping.known)
    a.1.grouping.some_groups a.1.grouping.most_groups a.1.window a.1.windows a.3 (body-leaves (node.Body (kinds_of columns)) body) in
    let s = left_still nodes from at (shape_for read sources source) (shape_for inner (query.inside sources var columns) body)
    (means_for read sources timed source) (means_for inner (query.inside sources var columns) false body) below.1 inside.1 in
    let stands = subst (λ (k : Kind). Stands nodes (added at.nodes (node.Partition from.root at.root number count size advance))
    (record (shape_for read sources source) { kinds = k ∷ kinds_of (columns_of (query.inside sources var columns) body); pace = unsteady; arrives = false })
    (λ inputs. IsOfParts (IsPlanResult at.nodes from.root inputs) (parts count (λ row. slice_index row number) size advance)
    (IsOfGroup (λ rows. IsPlanResult at.nodes at.root (given inputs rows))) (has_further count (λ row. slice_index row number))))
    (kind-column columns key) two.stands in (
      (below.0, inside.0, two.fits),
      weaker nodes (added at.nodes (node.Partition from.root at.root number count size advance)) (shape_for read sources (shape.Partition var source key count size advance body)) _
          (means_for read sources timed (shape.Partition var source key count size advance body)) stands
          (λ inputs out spill r env sees.
          let result = s.means inputs r.rows r.source_spill r.of_source env sees in
          let long = results-long lengths source sources timed env r.rows r.source_spill a.0 sees.streams sees.are_long result in
          subst (λ (ss : List Stream). IsOfParts (IsResultIn source env) (parts count (λ row. slice_index row (column_number (columns_of ss source) key)) size advance)
          (IsOfGroup (λ rows. IsResultIn body (only env var (columns_of ss source) rows)))
          (has_further count (λ row. slice_index row (column_number (columns_of ss source) key))) out spill) (sym sees.streams)
          (record {
            rows = r.rows;
            source_spill = r.source_spill;
            parts_spill = r.parts_spill;
            of_source = result;
            of_parts = joined-means (λ (g : Group Row). AreLong columns g.rows) _ (IsOfGroup (λ rows. IsResultIn body (only env var columns rows)))
                (λ (g : Group Row) o sp h is. record {
                  rows = is.rows;
                  of_source = inside.1.means (given inputs g.rows) is.rows sp is.of_source (only env var columns g.rows) (body-sees read sources timed env var columns inputs g.rows sees h);
                  changed = is.changed;
                })
                (parts count (λ row. slice_index row number) size advance r.rows) out r.parts_spill
                (in-parts (IsLongAs columns) count (λ row. slice_index row number) size advance r.rows long) r.of_parts;
            any = r.any;
          })),
      λ t. absurd (cc),
    )
right lengths (shape.Union l r) read sources timed nodes reader a plan =
    let first = right lengths l read sources timed nodes reader a.0 plan in
    let left = placed read sources l nodes in
    let second = right lengths r read sources timed left.nodes reader a.1 first.1.over.plan in
    let both = placed read sources r left.nodes in
    let two = union-stands nodes left both (shape_for read sources l) (shape_for read sources r) (means_for read sources timed l) (means_for read sources timed r) first.1 second.1 a.2 in
    let s = left_still nodes left both (shape_for read sources l) (shape_for read sources r) (means_for read sources timed l) (means_for read sources timed r) first.1 second.1 in (
      (first.0, second.0, two.fits),
      weaker nodes (added both.nodes (node.Union left.root both.root)) (shape_for read sources (shape.Union l r)) _ (means_for read sources timed (shape.Union l r)) two.stands
          (λ inputs out spill x env sees. record {
            left = x.left;
            right = x.right;
            left_spill = x.left_spill;
            right_spill = x.right_spill;
            of_left = s.means inputs x.left x.left_spill x.of_left env sees;
            of_right = second.1.means inputs x.right x.right_spill x.of_right env sees;
            join = x.join;
            either = x.either;
          }),
      λ t. absurd (cc),
    )
right lengths (shape.ByArrival l r) read sources timed nodes reader a plan =
    let first = right lengths l read sources timed nodes reader a.0 plan in
    let left = placed read sources l nodes in
    let second = right lengths r read sources timed left.nodes reader a.1 first.1.over.plan in
    let both = placed read sources r left.nodes in
    let come = and_parts (arrives l) (arrives r) a.2 in
    let two = merge-stands nodes left both (shape_for read sources l) (shape_for read sources r) (means_for read sources timed l) (means_for read sources timed r) first.1 second.1 a.3 come.0 come.1 in
    let back = left-comes nodes left both (shape_for read sources l) (shape_for read sources r) (means_for read sources timed l) (means_for read sources timed r) first.1 second.1 in
    let new = behind both.nodes (node.Merge left.root both.root) second.1.over.plan two.fits in
    let made = merged-arrives l r read sources timed (λ i. IsPlanArrival both.nodes left.root i) (λ i. IsPlanArrival both.nodes both.root i)
    (λ inputs out spill x. first.2 come.0 inputs out spill (back inputs out spill x)) (second.2 come.1) in (
      (first.0, second.0, two.fits),
      weaker nodes (added both.nodes (node.Merge left.root both.root)) (shape_for read sources (shape.ByArrival l r)) _ (means_for read sources timed (shape.ByArrival l r)) two.stands
          (λ inputs out spill x env sees. record { rows = x.rows; of_source = made inputs x.rows spill x.of_source env sees; without = x.without }),
      λ t inputs out spill x. made inputs out spill (new.comes inputs out spill x),
    )
right lengths (shape.AsOf l r slots) read sources timed nodes reader a plan =
    let first = right lengths l read sources timed nodes reader a.0 plan in
    let left = placed read sources l nodes in
    let second = right lengths r read sources timed left.nodes reader a.1 first.1.over.plan in
    let both = placed read sources r left.nodes in
    let come = and_parts (arrives l) (arrives r) a.2 in
    let done = join-of lengths l r slots read sources timed nodes reader a come first.1 second.1 in
    let of_query = joined-arrives lengths l r slots read sources timed a.0 a.1 (λ i. IsPlanArrival left.nodes left.root i) (λ i. IsPlanArrival both.nodes both.root i) (first.2 come.0) (second.2 come.1) in (
      (first.0, second.0, done.fit),
      weaker nodes (as_of_over (columns_of sources l) (columns_of sources r) slots left.root both) (shape_for read sources (shape.AsOf l r slots)) _
          (means_for read sources timed (shape.AsOf l r slots)) done.stands
          (λ inputs out spill x env sees. record { rows = x.rows; of_source = of_query inputs x.rows spill x.of_source env sees; without = x.without }),
      λ t inputs out spill x. of_query inputs out spill (done.comes inputs out spill x),
    )
right lengths (shape.Concat l r) read sources timed nodes reader a plan =
    let first = right lengths l read sources timed nodes reader a.0 plan in
    let left = placed read sources l nodes in
    let second = right lengths r read sources timed left.nodes reader a.1 first.1.over.plan in
    let both = placed read sources r left.nodes in
    let two = beside-stands nodes left both (shape_for read sources l) (shape_for read sources r) (means_for read sources timed l) (means_for read sources timed r) first.1 second.1
    (ap (plan_pace read) a.2.same) (some-pace read sources timed reader (pace_of l) a.2.paced) in
    let s = left_still nodes left both (shape_for read sources l) (shape_for read sources r) (means_for read sources timed l) (means_for read sources timed r) first.1 second.1 in
    let stands = subst (λ (k : List Kind). Stands nodes (added both.nodes (node.Beside left.root both.root))
    (record { kinds = k; closing = is_closing l && is_closing r; pace = plan_pace read (pace_of l); arrives = false; leaves = leaves_of read l ++ leaves_of read r })
    (λ inputs. IsOfBoth (IsPlanResult both.nodes left.root inputs) (IsPlanResult both.nodes both.root inputs) AreBeside))
    (sym (map-append (λ c. c.kind) (columns_of sources l) (columns_of sources r))) two.stands in (
      (first.0, second.0, two.fits),
      weaker nodes (added both.nodes (node.Beside left.root both.root)) (shape_for read sources (shape.Concat l r)) _ (means_for read sources timed (shape.Concat l r)) stands
          (λ inputs out spill x env sees. record {
            left = x.left;
            right = x.right;
            left_spill = x.left_spill;
            right_spill = x.right_spill;
            of_left = s.means inputs x.left x.left_spill x.of_left env sees;
            of_right = second.1.means inputs x.right x.right_spill x.of_right env sees;
            join = x.join;
            either = x.either;
          }),
      λ t. absurd (cc),
    )
