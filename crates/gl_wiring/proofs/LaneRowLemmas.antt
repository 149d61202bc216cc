-- The operators of rows of a direct body, on a lane.
use Rattle.std.proofs.Common.{◌≡◌, ℕ, zero, suc, ◌+◌, ◌*◌, ◌<◌, ◌≤◌, List, [], ◌∷◌, ◌++◌, map, length, Option, Some, None, Bool, true, false, slice_get, All, refl, sym, ap, ◌∙◌, subst, arith}
use Rattle.std.specs.Prelude.{filter_map, if◌then◌else◌, option_and_then}
use Rattle.std.specs.List.{sum}
use Rattle.std.proofs.lemmas.List.{length-map}
use Rattle.std.proofs.lemmas.Option.{slice_get_within}
use Rattle.gl_values.specs.Kinds.{IsKind, width_of}
use Rattle.gl_values.specs.Results.{Row}
use Rattle.gl_values.specs.declared.kind.Kind.{Kind}
use Rattle.gl_algebra.specs.declared.node.ColOp.{ColOp}
use Rattle.gl_algebra.specs.declared.node.Operand.{Operand}
use Rattle.gl_algebra.specs.declared.node.PlanNode.{PlanNode}
use Rattle.gl_algebra.specs.declared.node.PlanNode.TheVariants.{Body, Compute, Select, Project}
use Rattle.gl_algebra.specs.Columns.{kind_of_op, kind_of_operand}
use Rattle.gl_algebra.specs.Cost.{lean_of}
use Rattle.gl_algebra.specs.FigureTable.{delayed, figures_of, input_figures, settled}
use Rattle.gl_algebra.specs.Fits.{IsPlan}
use Rattle.gl_algebra.specs.Values.{Sets}
use Rattle.gl_algebra.specs.Results.{computed, projected}
use Rattle.gl_algebra.specs.Shapes.{Shape, kinds_of, shape_of}
use Rattle.gl_algebra.specs.Weights.{weight_of}
use Rattle.gl_net.specs.declared.node.Bit.{Bit}
use Rattle.gl_net.specs.declared.node.Bus.{Bus}
use Rattle.gl_net.specs.Net.{Net, Run, IsRun, IsBit, IsBus}
use Rattle.gl_net.proofs.Determined.{keeps_then}
use Rattle.gl_net.proofs.Growth.{same_keeps}
use Rattle.gl_rows.specs.Costs.{computed_widths, cost_of_items, cost_of_rows, projected_widths}
use Rattle.gl_wire.specs.declared.emitted.Emitted.{Emitted}
use Rattle.gl_wire.specs.declared.wire.Wire.{Wire}
use Rattle.gl_wire.specs.Blocks.{IsBehind}
use Rattle.gl_wire.specs.Costs.{Cost}
use Rattle.gl_wire.specs.Faults.{no_faults}
use Rattle.gl_wire.specs.Shapes.{Steady, keep_where}
use Rattle.gl_wire.specs.Stages.{IsLaterBus, IsLaterLine}
use Rattle.gl_wire.specs.Wire.{carried, line_at, row_at, tuple_at}
use Rattle.gl_wire.proofs.ColumnLemmas.{bit_kept, bus_kept}
use Rattle.gl_wire.proofs.StageLemmas.{line_first, no_line, tuple_by}
use Rattle.gl_wire.specs.Bodies.{OfBody, alone}
use Rattle.gl_wire_lanes.specs.Lanes.{Begins}
use Rattle.gl_wire_lanes.specs.Shares.{lane_of}
use Rattle.gl_wiring.specs.declared.rows.LaneRows.{LaneRows}
use Rattle.gl_wiring.specs.declared.rows.Place.{Place}
use Rattle.gl_wiring.specs.Below.{LawsBelow}
use Rattle.gl_wiring.specs.Lanes.{AreRows, HasRows, IsPlaceLater}
use Rattle.gl_wiring.specs.Leaves.{HaveLeaves, widths_of}
use Rattle.gl_wiring.proofs.CostLemmas.{bits_within}
use Rattle.gl_wiring.proofs.LeafLemmas.{leaf_wire}
use Rattle.gl_wiring.proofs.RowLemmas.{kept_rows, mapped_all}
use Rattle.gl_wiring.proofs.StepLemmas.{filter_none, filter_then, steady_none, steady_then}

pub rows_there : (nodes : List PlanNode) (id : ℕ) (old new : Net) (lane : Wire) (place : Place) (r : LaneRows) → AreRows nodes id old new lane place r → HasRows nodes id new r
rows_there nodes id old new lane place r h = h.has

pub place_later : (old mid new : Net) (place : Place) (slot : Bus) (first : Bit) → IsLaterBus old mid place.slot slot → IsLaterLine mid new place.first first
    → IsPlaceLater old new place (record { slot = slot; first = first })
place_later old mid new place slot first s f = record {
  keeps = keeps_then old mid new s.keeps f.keeps;
  cost = record {
    nodes = omega (arith, s.cost.nodes, f.cost.nodes);
    registers = omega (arith, s.cost.registers, f.cost.registers);
    memories = omega (arith, s.cost.memories, f.cost.memories);
  };
  slot_bus = bus_kept mid new slot f.keeps s.bus;
  same_width = s.same_width;
  first_line = f.bit;
  slots = λ run r. s.value run (f.keeps.runs run r);
  firsts = f.line;
}

-- a body's input is the lane itself
pub body_rows : LawsBelow → (nodes : List PlanNode) (id : ℕ) (net : Net) (lane : Wire) (place : Place) (kinds : List Kind) (e : Emitted) → IsPlan nodes
    → slice_get nodes id ≡ Some (Body kinds) → HaveLeaves net (lane ∷ []) (shape_of nodes id).leaves → IsBus net place.slot → place.slot.width ≤ 8 → IsBit net place.first
    → slice_get (lane ∷ []) 0 ≡ Some e.wire → e.faults ≡ no_faults → AreRows nodes id net net lane place (record { rows = e; place = place })
body_rows laws nodes id net lane place kinds e plan at leaved slot few first there none =
    let follows = laws.nodes_follow_tables nodes id (Body kinds) plan at in
    let leaf = leaf_wire net (lane ∷ []) (Body kinds) e.wire (rw follows.shape at leaved).0 there in
    let same : lane ≡ e.wire = cc in
    record {
      keeps = same_keeps net;
      cost = record { nodes = omega arith; registers = omega arith; memories = omega arith };
      has = record { wire = leaf.0; same_widths = leaf.1 ∙ ap (λ (x : Shape). widths_of x.kinds) (sym follows.shape); slot_bus = slot; few = few; first_line = first };
      same_width = refl;
      no_lines = none;
      depth = 0;
      step = λ sets row. Some row;
      figures = follows.figures;
      means = λ sets rows. (follows.results (alone sets rows) (filter_map (λ row. Some row) rows) false).1 (record { rows = filter_none rows; kept = refl });
      steady = λ run r. subst (λ (w : Wire). Steady 0 (λ row. Some row) (carried run lane) (carried run w)) same (steady_none (carried run lane));
      slots = λ run r t. let z : suc t + 0 ≡ suc t = omega arith in ap (λ i. run.at i place.slot.node) z;
      no_first = λ run r t l. absurd (omega (arith, l));
      firsts = λ run r t. let z : t + 0 ≡ t = omega arith in ap (line_at run place.first) z;
    }

-- a block behind operators of rows is within what the node counts, with a place beside it
pub record IsRoom (nodes : List PlanNode) (id child : ℕ) (most : Cost) : Type 0 where
  pub nodes' : weight_of nodes child + (most.nodes + 2) ≤ weight_of nodes id
  pub registers : 64 * lean_of nodes child + (most.registers + 9) ≤ 64 * lean_of nodes id
  pub memories : most.memories ≡ 0

later_input : (d : ℕ) → settled (delayed 1 (delayed d input_figures)) ≡ delayed (d + 1) input_figures
later_input d = ap (λ (n : ℕ). record input_figures { a = n; lt = n; le = n }) (let e : 0 + d + 1 ≡ 0 + (d + 1) = omega arith in e)

-- a step on each row, a cycle later
module _ (nodes : List PlanNode) (id child : ℕ) (old mid net new : Net) (lane : Wire) (place : Place) (below : LaneRows) (h : AreRows nodes child old mid lane place below)
    (later : Place) (e : Emitted) (t : Sets → Row → Option Row) (columns : List ℕ) (most : Cost) (s : IsPlaceLater mid net below.place later)
    (b : IsBehind net new (λ sets. Steady 1 (t sets)) columns most below.rows e) (same : columns ≡ widths_of (kinds_of nodes id)) (room : IsRoom nodes id child most)
    (figures : figures_of nodes id ≡ settled (delayed 1 (figures_of nodes child))) (means : (sets : Sets) (rows : List Row) → OfBody sets nodes id rows (filter_map (t sets) (filter_map (h.step sets) rows)) false) where
  no_first_later : (run : Run) → IsRun new run → (c : ℕ) → c < h.depth + 1 → line_at run later.first c ≡ false
  no_first_later run r zero l = line_first run later.first
  no_first_later run r (suc c) l =
      let at_net = b.keeps.runs run r in s.firsts run at_net c ∙ h.no_first run (s.keeps.runs run at_net) c (omega (arith, l))

  pub rows_later : AreRows nodes id old new lane place (record { rows = e; place = later })
  rows_later = record {
    keeps = keeps_then old mid new h.keeps (keeps_then mid net new s.keeps b.keeps);
    cost = record {
      nodes = omega (arith, h.cost.nodes, s.cost.nodes, b.cost.nodes, room.nodes');
      registers = omega (arith, h.cost.registers, s.cost.registers, b.cost.registers, room.registers, h.has.few);
      memories = omega (arith, h.cost.memories, s.cost.memories, b.cost.memories, room.memories);
    };
    has = record {
      wire = b.wire;
      same_widths = b.same_widths ∙ same;
      slot_bus = bus_kept net new later.slot b.keeps s.slot_bus;
      few = omega (arith, s.same_width, h.has.few);
      first_line = bit_kept net new later.first b.keeps s.first_line;
    };
    same_width = s.same_width ∙ h.same_width;
    no_lines = b.faults ∙ h.no_lines;
    depth = h.depth + 1;
    step = λ sets row. option_and_then (t sets) (h.step sets row);
    figures = figures ∙ ap (λ f. settled (delayed 1 f)) h.figures ∙ later_input h.depth;
    means = λ sets rows. subst (λ ys. OfBody sets nodes id rows ys false) (sym (filter_then (h.step sets) (t sets) rows)) (means sets rows);
    steady = λ run r.
        let at_net = b.keeps.runs run r in
        steady_then h.depth 1 (h.step run.held) (t run.held) (carried run lane) (carried run below.rows.wire) (carried run e.wire) (h.steady run (s.keeps.runs run at_net)) (b.shape run r);
    slots = λ run r c.
        let at_net = b.keeps.runs run r in
        let z : suc c + (h.depth + 1) ≡ suc (suc (c + h.depth)) = omega arith in
        let y : suc (c + h.depth) ≡ suc c + h.depth = omega arith in
        ap (λ i. run.at i later.slot.node) z ∙ s.slots run at_net (c + h.depth) ∙ ap (λ i. run.at i below.place.slot.node) y
        ∙ h.slots run (s.keeps.runs run at_net) c;
    no_first = no_first_later;
    firsts = λ run r c.
        let at_net = b.keeps.runs run r in
        let z : c + (h.depth + 1) ≡ suc (c + h.depth) = omega arith in
        ap (line_at run later.first) z ∙ s.firsts run at_net (c + h.depth) ∙ h.firsts run (s.keeps.runs run at_net) c;
  }

-- a step on each row, at once
module _ (nodes : List PlanNode) (id child : ℕ) (old mid new : Net) (lane : Wire) (place : Place) (below : LaneRows) (h : AreRows nodes child old mid lane place below)
    (e : Emitted) (t : Sets → Row → Option Row) (columns : List ℕ) (most : Cost) (b : IsBehind mid new (λ sets. Steady 0 (t sets)) columns most below.rows e)
    (same : columns ≡ widths_of (kinds_of nodes id)) (room_nodes : weight_of nodes child + most.nodes ≤ weight_of nodes id)
    (room_registers : 64 * lean_of nodes child + most.registers ≤ 64 * lean_of nodes id) (no_memory : most.memories ≡ 0)
    (figures : figures_of nodes id ≡ settled (figures_of nodes child)) (means : (sets : Sets) (rows : List Row) → OfBody sets nodes id rows (filter_map (t sets) (filter_map (h.step sets) rows)) false) where
  pub rows_now : AreRows nodes id old new lane place (record { rows = e; place = below.place })
  rows_now = record {
    keeps = keeps_then old mid new h.keeps b.keeps;
    cost = record {
      nodes = omega (arith, h.cost.nodes, b.cost.nodes, room_nodes);
      registers = omega (arith, h.cost.registers, b.cost.registers, room_registers);
      memories = omega (arith, h.cost.memories, b.cost.memories, no_memory);
    };
    has = record {
      wire = b.wire;
      same_widths = b.same_widths ∙ same;
      slot_bus = bus_kept mid new below.place.slot b.keeps h.has.slot_bus;
      few = h.has.few;
      first_line = bit_kept mid new below.place.first b.keeps h.has.first_line;
    };
    same_width = h.same_width;
    no_lines = b.faults ∙ h.no_lines;
    depth = h.depth;
    step = λ sets row. option_and_then (t sets) (h.step sets row);
    figures = figures ∙ ap settled h.figures;
    means = λ sets rows. subst (λ ys. OfBody sets nodes id rows ys false) (sym (filter_then (h.step sets) (t sets) rows)) (means sets rows);
    steady = λ run r.
        let z : h.depth + 0 ≡ h.depth = omega arith in
        subst (λ n. Steady n (λ row. option_and_then (t run.held) (h.step run.held row)) (carried run lane) (carried run e.wire)) z
        (steady_then h.depth 0 (h.step run.held) (t run.held) (carried run lane) (carried run below.rows.wire) (carried run e.wire) (h.steady run (b.keeps.runs run r)) (b.shape run r));
    slots = λ run r. h.slots run (b.keeps.runs run r);
    no_first = λ run r. h.no_first run (b.keeps.runs run r);
    firsts = λ run r. h.firsts run (b.keeps.runs run r);
  }

-- ---- each operator

module _ (laws : LawsBelow) (nodes : List PlanNode) (id : ℕ) (old mid net new : Net) (lane : Wire) (place later : Place) (below : LaneRows) (e : Emitted) (plan : IsPlan nodes) where
  own_kinds : (node : PlanNode) → slice_get nodes id ≡ Some node → All IsKind (kinds_of nodes id)
  own_kinds node at = laws.columns_have_kinds nodes id plan (slice_get_within nodes id node at)

  pub compute_rows : (child : ℕ) (ops : List ColOp) → slice_get nodes id ≡ Some (Compute child ops) → AreRows nodes child old mid lane place below
      → IsPlaceLater mid net below.place later
      → (let kinds = kinds_of nodes child in IsBehind net new (λ sets. Steady 1 (λ row. Some (computed sets kinds ops row))) (computed_widths kinds ops)
      (cost_of_rows (computed_widths kinds ops) (length ops)) below.rows e)
      → AreRows nodes id old new lane place (record { rows = e; place = later })
  compute_rows child ops at h s b =
      let follows = laws.nodes_follow_tables nodes id (Compute child ops) plan at in
      let kinds = kinds_of nodes child in
      let all = kinds ++ map (kind_of_op kinds) ops in
      let own : kinds_of nodes id ≡ all = ap (λ (x : Shape). x.kinds) follows.shape in
      let n : length (widths_of all) ≡ length all = length-map all width_of in
      let bits : sum (widths_of all) ≤ 64 * length all = bits_within all (subst (All IsKind) own (own_kinds (Compute child ops) at)) in
      let weight : weight_of nodes id ≡ weight_of nodes child + 4 * (length all + 2 + length ops) = follows.weight in
      let lean : lean_of nodes id ≡ lean_of nodes child + 4 * (length all + 2 + length ops) = follows.lean in
      rows_later nodes id child old mid net new lane place below h later e (λ sets row. Some (computed sets kinds ops row)) (widths_of all) _ s b (ap widths_of (sym own))
      (record { nodes' = omega (arith, weight, n); registers = omega (arith, lean, bits); memories = refl })
      follows.figures
      (λ sets rows. (follows.results (alone sets rows) (filter_map (λ row. Some (computed sets kinds ops row)) (filter_map (h.step sets) rows)) false).1
      (record { rows = filter_map (h.step sets) rows; of_source = h.means sets rows; changed = mapped_all (computed sets kinds ops) (filter_map (h.step sets) rows) }))

  pub select_rows : (child column : ℕ) → slice_get nodes id ≡ Some (Select child column) → AreRows nodes child old mid lane place below
      → IsPlaceLater mid net below.place later
      → IsBehind net new (λ sets. Steady 1 (keep_where column)) (widths_of (kinds_of nodes child)) (cost_of_rows (widths_of (kinds_of nodes child)) 0) below.rows e
      → AreRows nodes id old new lane place (record { rows = e; place = later })
  select_rows child column at h s b =
      let follows = laws.nodes_follow_tables nodes id (Select child column) plan at in
      let kinds = kinds_of nodes child in
      let own : kinds_of nodes id ≡ kinds = ap (λ (x : Shape). x.kinds) follows.shape in
      let n : length (widths_of kinds) ≡ length kinds = length-map kinds width_of in
      let bits : sum (widths_of kinds) ≤ 64 * length kinds = bits_within kinds (subst (All IsKind) own (own_kinds (Select child column) at)) in
      let weight : weight_of nodes id ≡ weight_of nodes child + 4 * (length kinds + 2) = follows.weight in
      let lean : lean_of nodes id ≡ lean_of nodes child + 4 * (length kinds + 2) = follows.lean in
      rows_later nodes id child old mid net new lane place below h later e (λ sets. keep_where column) (widths_of kinds) _ s b (ap widths_of (sym own))
      (record { nodes' = omega (arith, weight, n); registers = omega (arith, lean, bits); memories = refl })
      follows.figures
      (λ sets rows. (follows.results (alone sets rows) (filter_map (keep_where column) (filter_map (h.step sets) rows)) false).1
      (record { rows = filter_map (h.step sets) rows; of_source = h.means sets rows; changed = kept_rows column (filter_map (h.step sets) rows) }))

  pub project_rows : (child : ℕ) (items : List Operand) → slice_get nodes id ≡ Some (Project child items) → AreRows nodes child old mid lane place below
      → (let kinds = kinds_of nodes child in IsBehind mid new (λ sets. Steady 0 (λ row. Some (projected sets items row))) (projected_widths kinds items)
      (cost_of_items (projected_widths kinds items)) below.rows e)
      → AreRows nodes id old new lane place (record { rows = e; place = below.place })
  project_rows child items at h b =
      let follows = laws.nodes_follow_tables nodes id (Project child items) plan at in
      let kinds = kinds_of nodes child in
      let all = map (kind_of_operand kinds) items in
      let own : kinds_of nodes id ≡ all = ap (λ (x : Shape). x.kinds) follows.shape in
      let n : length (widths_of all) ≡ length all = length-map all width_of in
      let weight : weight_of nodes id ≡ weight_of nodes child + 4 * (length all + 2) = follows.weight in
      let lean : lean_of nodes id ≡ lean_of nodes child + 4 * (length all + 2) = follows.lean in
      rows_now nodes id child old mid new lane place below h e (λ sets row. Some (projected sets items row)) (widths_of all) _ b (ap widths_of (sym own))
      (omega (arith, weight, n)) (omega (arith, lean)) refl
      follows.figures
      (λ sets rows. (follows.results (alone sets rows) (filter_map (λ row. Some (projected sets items row)) (filter_map (h.step sets) rows)) false).1
      (record { rows = filter_map (h.step sets) rows; of_source = h.means sets rows; changed = mapped_all (projected sets items) (filter_map (h.step sets) rows) }))

-- ---- where a lane tells where streams begin, what is behind the operators does too

module _ (laws : LawsBelow) (nodes : List PlanNode) (id : ℕ) (old new : Net) (lane : Wire) (place : Place) (r : LaneRows) (h : AreRows nodes id old new lane place r) (run : Run) (is : IsRun new run) where
  came : (c : ℕ) → line_at run r.rows.wire.valid (c + h.depth) ≡ true → line_at run lane.valid c ≡ true
  came c p = by (line_at run lane.valid c) (tuple_by run lane.valid lane.columns c)
    where
      by : (b : Bool) → tuple_at run lane.valid lane.columns c ≡ (if b then Some (row_at run c lane.columns) else None) → b ≡ true
      by true e = refl
      by false e =
          absurd (let z = no_line run r.rows.wire.valid r.rows.wire.columns (c + h.depth) ((h.steady run is).tuples c ∙ ap (option_and_then (h.step run.held)) e) in cc (z, p))

  pub rows_begin : Begins (lane_of run lane place.slot place.first) → Begins (lane_of run r.rows.wire r.place.slot r.place.first)
  rows_begin b = laws.begins_behind h.depth _ _ b (record {
    no_row = λ c l. no_line run r.rows.wire.valid r.rows.wire.columns c ((h.steady run is).before c l);
    no_end = (h.steady run is).no_end;
    no_first = h.no_first run is;
    rows = came;
    ends = (h.steady run is).ends;
    firsts = h.firsts run is;
    slots = h.slots run is;
  })
