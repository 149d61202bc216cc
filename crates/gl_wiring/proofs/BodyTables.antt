-- The totals of a direct body behind a lane.
use Rattle.std.proofs.Common.{◌≡◌, ℕ, List, [], ◌∷◌, Some, false, map, refl, sym, ap, ◌∙◌, subst, arith}
use Rattle.std.specs.Prelude.{filter_map, slice_get}
use Rattle.gl_values.specs.declared.kind.Kind.{Kind}
use Rattle.gl_algebra.specs.declared.node.PlanAgg.{PlanAgg}
use Rattle.gl_algebra.specs.declared.node.PlanNode.{PlanNode}
use Rattle.gl_algebra.specs.declared.node.PlanNode.TheVariants.{Aggregate}
use Rattle.gl_algebra.specs.Columns.{kind_of_agg}
use Rattle.gl_algebra.specs.FigureTable.{aggregate_figures, delay_of_aggs}
use Rattle.gl_algebra.specs.Fits.{IsPlan}
use Rattle.gl_algebra.specs.Shapes.{Shape, kinds_of}
use Rattle.gl_net.specs.Net.{Net, Run, IsRun}
use Rattle.gl_net.proofs.Determined.{keeps_then}
use Rattle.gl_totals.specs.Costs.{cost_of_table}
use Rattle.gl_totals.specs.Tables.{IsTable}
use Rattle.gl_totals.specs.Totals.{total_row, total_widths}
use Rattle.gl_totals.specs.declared.table.Table.{Table}
use Rattle.gl_wire.specs.declared.wire.Wire.{Wire}
use Rattle.gl_wire.specs.Costs.{CostsAtMost}
use Rattle.gl_wire.specs.Shapes.{AtEnds}
use Rattle.gl_wire.specs.Wire.{Carried, carried, widths}
use Rattle.gl_wire.specs.Bodies.{alone}
use Rattle.gl_wire_lanes.specs.declared.table.TableOut.{TableOut}
use Rattle.gl_wire_lanes.specs.Shares.{share, slot_of}
use Rattle.gl_wiring.specs.declared.rows.LaneRows.{LaneRows}
use Rattle.gl_wiring.specs.declared.rows.Place.{Place}
use Rattle.gl_wiring.specs.Below.{LawsBelow}
use Rattle.gl_wiring.specs.Lanes.{AreRows, IsBodyTable, IsDirectBehind}
use Rattle.gl_wiring.specs.Leaves.{widths_of}
use Rattle.gl_wiring.proofs.LaneRowLemmas.{rows_begin}

module _ (laws : LawsBelow) (nodes : List PlanNode) (body child : ℕ) (aggs : List PlanAgg) (plan : IsPlan nodes) (at : slice_get nodes body ≡ Some (Aggregate child aggs))
    (old mid new : Net) (lane : Wire) (place : Place) (below : LaneRows) (h : AreRows nodes child old mid lane place below) (table : Table)
    (kinds_are : table.kinds.now ≡ kinds_of nodes child) (aggs_are : table.aggs.now ≡ aggs) (out : TableOut)
    (t : IsTable mid new table below.rows.wire below.place.slot below.place.first out) where
  abbrev kinds : List Kind
  kinds = kinds_of nodes child

  cost_is : CostsAtMost mid new (cost_of_table place.slot.width kinds aggs)
  cost_is =
      subst (λ (w : ℕ). CostsAtMost mid new (cost_of_table w kinds aggs)) h.same_width
      (subst (λ (l : List PlanAgg). CostsAtMost mid new (cost_of_table below.place.slot.width kinds l)) aggs_are
      (subst (λ (l : List Kind). CostsAtMost mid new (cost_of_table below.place.slot.width l table.aggs.now)) kinds_are t.cost))

  columns_are : widths out.wire.columns ≡ total_widths kinds aggs
  columns_are = t.same_widths ∙ ap (λ (l : List Kind). total_widths l table.aggs.now) kinds_are ∙ ap (total_widths kinds) aggs_are

  is_behind : (run : Run) → IsRun new run → IsDirectBehind run h.depth (delay_of_aggs kinds aggs) (h.step run.held) (total_row run.held kinds aggs) lane place out
  is_behind run r =
      let at_mid = t.keeps.runs run r in
      record {
        mid = carried run below.rows.wire;
        slot_mid = slot_of run below.place.slot;
        rows = h.steady run at_mid;
        slots = h.slots run at_mid;
        table = λ begins k.
            let a : Carried = share (slot_of run below.place.slot) k (carried run below.rows.wire) in
            let b : Carried = share (slot_of run out.slot) k (carried run out.wire) in
            subst (λ (l : List PlanAgg). AtEnds (delay_of_aggs kinds l) (total_row run.held kinds l) a b) aggs_are
            (subst (λ (l : List Kind). AtEnds (delay_of_aggs l table.aggs.now) (total_row run.held l table.aggs.now) a b) kinds_are
            (t.shares run r (rows_begin laws nodes child old mid lane place below h run at_mid begins) k));
      }

  pub table_put : IsBodyTable nodes body old new lane place out
  table_put =
      let follows = laws.nodes_follow_tables nodes body (Aggregate child aggs) plan at in
      let own : kinds_of nodes body ≡ map (kind_of_agg kinds) aggs = ap (λ (x : Shape). x.kinds) follows.shape in
      record {
        child = child;
        aggs = aggs;
        at = at;
        keeps = keeps_then old mid new h.keeps t.keeps;
        cost = record {
          nodes = omega (arith, h.cost.nodes, cost_is.nodes);
          registers = omega (arith, h.cost.registers, cost_is.registers);
          memories = omega (arith, h.cost.memories, cost_is.memories);
        };
        wire = t.wire;
        same_widths = columns_are ∙ ap widths_of (sym own);
        slot_bus = t.slot_bus;
        slot_width = t.slot_width ∙ h.same_width;
        depth = h.depth;
        step = h.step;
        total = λ sets. total_row sets kinds aggs;
        figures = follows.figures ∙ ap (aggregate_figures (delay_of_aggs kinds aggs)) h.figures;
        means = λ sets rows. (follows.results (alone sets rows) (total_row sets kinds aggs (filter_map (h.step sets) rows) ∷ []) false).1
            (record { rows = filter_map (h.step sets) rows; of_source = h.means sets rows; changed = refl });
        behind = is_behind;
      }
