-- The netlist of several results: outputs one after the other, the names of its ports, what it costs, and that its runs are right.
use Rattle.std.proofs.Common.{◌≡◌, ℕ, Bool, false, ◌+◌, ◌*◌, ◌<◌, ◌≤◌, max, List, [], ◌∷◌, ◌++◌, length, map, Option, Some, None, refl, sym, ap, subst, ◌∙◌, append_assoc, arith}
use Rattle.std.specs.Prelude.{if◌then◌else◌, is_some, slice_get, unwrap_or}
use Rattle.std.specs.List.{AllByRecursion, flat_map, list_any, sum, sum_by}
use Rattle.std.proofs.lemmas.List.{append-nil, map-append}
use Rattle.std.proofs.lemmas.List.Sums.{sum_by-append}
use Rattle.gl_algebra.specs.FigureTable.{figures_of}
use Rattle.gl_algebra.specs.Fits.{IsPlan}
use Rattle.gl_algebra.specs.Shapes.{kinds_of, shape_of}
use Rattle.gl_algebra.specs.Small.{AreFigures}
use Rattle.gl_algebra.specs.Views.{reads_time}
use Rattle.gl_algebra.specs.declared.figures.Figures.{Figures}
use Rattle.gl_algebra.specs.declared.node.PlanNode.{PlanNode}
use Rattle.gl_algebra.specs.Roots.{output_part}
use Rattle.gl_bits.proofs.AllLists.{all_of_mapped, length_map}
use Rattle.gl_bits.proofs.Bools.{by_cases, neither_left, neither_right}
use Rattle.gl_bits.proofs.Options.{some_same}
use Rattle.gl_values.specs.Kinds.{width_of}
use Rattle.gl_net.specs.Finished.{HasReset}
use Rattle.gl_net.specs.Net.{Net, memory_bits_of, register_bits_of, size_of}
use Rattle.gl_net.specs.PortValues.{PortShape, port_shapes}
use Rattle.gl_net.specs.declared.node.Bit.{Bit}
use Rattle.gl_net.specs.declared.node.Direction.TheVariants.{Out}
use Rattle.gl_root_gaps.specs.declared.TickGaps.{TickGaps}
use Rattle.gl_root_gaps.specs.Roots.{gap_with, tick_gaps_at, ticks_with}
use Rattle.gl_root_gaps.specs.Together.{farthest_ticks, gap_alone, gap_together, ticks_alone}
use Rattle.gl_figures.specs.Reach.{keys_of_reached, lean_of_reached, store_of_reached, weight_of_reached}
use Rattle.gl_schema.specs.Ports.{rst, eos, out_valid, out_eos, fault_group, fault_queue}
use Rattle.gl_gaps.specs.declared.Gaps.{Gaps}
use Rattle.gl_schema.specs.declared.schema.Schema.{Schema}
use Rattle.gl_wire.specs.Costs.{CostsAtMost}
use Rattle.gl_wire.specs.Faults.{IsLine}
use Rattle.gl_wire.specs.Wire.{widths}
use Rattle.gl_wire.specs.declared.emitted.Emitted.{Emitted}
use Rattle.gl_wire.specs.declared.wire.Wire.{Wire}
use Rattle.gl_wiring.specs.Below.{LawsBelow}
use Rattle.gl_wiring.specs.Emitted.{CostsNothing, Extends, Puts, names_of}
use Rattle.gl_wiring.specs.EmittedPorts.{input, streams_inputs}
use Rattle.gl_wiring.specs.Leaves.{widths_of}
use Rattle.gl_wiring.specs.Many.{CanWireRoot, IsRightFor, gaps_together, ids_of, many_ports, naming_at, result_names, root_outputs}
use Rattle.gl_wiring.specs.ManyNet.{AreShownBy, CanShow, IsShown, outputs_cost}
use Rattle.gl_wiring.specs.Naming.{Naming}
use Rattle.gl_wiring.specs.Output.{IsOutput, input_ports, late_inputs, output_cost, result_outputs}
use Rattle.gl_wiring.specs.PlanNet.{HasParameters, IsEmpty, IsRootNet}
use Rattle.gl_wiring.specs.PortNames.{module_names, result_ports, results_ports, streams_ports}
use Rattle.gl_wiring.specs.Put.{HasColumns}
use Rattle.gl_wiring.specs.Roots.{alone_figures}
use Rattle.gl_wiring.specs.Reached.{AreReached, CanPutAll, once_cost}
use Rattle.gl_wiring.specs.StreamWires.{AreStreamWires, IsTickLine}
use Rattle.gl_wiring.specs.Tables.{HasCircuit}
use Rattle.gl_wiring.specs.declared.many.Root.{Root}
use Rattle.gl_wiring.proofs.AloneLemmas.{serves_alone}
use Rattle.gl_wiring.proofs.CostLemmas.{bits_within}
use Rattle.gl_wiring.proofs.Inputs.{extends_then}
use Rattle.gl_wiring.proofs.ManyNames.{AreNamed}
use Rattle.gl_wiring.proofs.OutputLemmas.{shown_stay}
use Rattle.gl_wiring.proofs.Outputs.{AreApart}
use Rattle.gl_wiring.proofs.PlanLemmas.{result_named, root_group_kept, root_runs_right}
use Rattle.gl_wiring.proofs.Shapes.{late_named, names_in, puts_then, shape_names, streams_names}
use Rattle.gl_wiring.proofs.MarkedLemmas.{all_by}
use Rattle.gl_wiring.proofs.StreamLemmas.{bit_stays, leaves_have, line_there, lines_have}
use Rattle.gl_wiring.proofs.TableLemmas.{gives_columns, taken_gives, taken_once}

-- ---- in a netlist that grows

one_line_stays : (old new : Net) (line : Option Bit) → Extends old new → IsLine old line → IsLine new line
one_line_stays old new None x h = tt
one_line_stays old new (Some b) x h = bit_stays old new b x h

columns_stay : (nodes : List PlanNode) (id : ℕ) (old new : Net) (e : Emitted) → Extends old new → HasColumns nodes id old e → HasColumns nodes id new e
columns_stay nodes id old new e x h = record {
  wire = record {
    valid = bit_stays old new e.wire.valid x h.wire.valid;
    eos = bit_stays old new e.wire.eos x h.wire.eos;
    columns = record { each = λ k b at. x.buses b (h.wire.columns.each k b at) };
  };
  same_widths = h.same_widths;
  lines = record {
    passed = one_line_stays old new e.faults.passed x h.lines.passed;
    further = one_line_stays old new e.faults.further x h.lines.further;
  };
}

pub can_stay : (nodes : List PlanNode) (old new : Net) (table : List (Option Emitted)) (roots : List Root) → Extends old new
    → AllByRecursion (CanShow nodes old table) roots → AllByRecursion (CanShow nodes new table) roots
can_stay nodes old new table [] x all = tt
can_stay nodes old new table (r ∷ rs) x all = (
  record { e = all.0.e; there = all.0.there; columns = columns_stay nodes r.id old new all.0.e x all.0.columns; as_many = all.0.as_many },
  can_stay nodes old new table rs x all.1,
)

output_stays : (naming : Naming) (old new : Net) (names : List (List ℕ)) (e : Emitted) → Extends old new → IsOutput naming old names e → IsOutput naming new names e
output_stays naming old new names e x h = record {
  wire = h.wire;
  group = h.group;
  queue = h.queue;
  shows = record {
    valid = x.ports Out (naming out_valid) h.wire.valid.node h.shows.valid;
    columns = shown_stay naming old new names h.wire.columns x h.shows.columns;
    end = x.ports Out (naming out_eos) h.wire.eos.node h.shows.end;
    group' = x.ports Out (naming fault_group) h.group.node h.shows.group';
    queue' = x.ports Out (naming fault_queue) h.queue.node h.shows.queue';
  };
  delayed = λ run r. h.delayed run (x.runs run r);
  group_line = λ run r. h.group_line run (x.runs run r);
  queue_line = λ run r. h.queue_line run (x.runs run r);
}

is_shown : (old new : Net) (table : List (Option Emitted)) (r : Root) (e : Emitted) → slice_get table r.id ≡ Some (Some e) → Extends old new
    → IsOutput (naming_at r) old r.names.columns e → IsShown new table r
is_shown old new table r e there x h = record { e = e; there = there; output = output_stays (naming_at r) old new r.names.columns e x h }

-- ---- costs

add_up : (old mid new own rest all : ℕ) → mid ≤ old + own → new ≤ mid + rest → all ≡ own + rest → new ≤ old + all
add_up old mid new own rest all h k e = omega (arith, h, k, e)

add_bits : (old mid new own rest all : ℕ) → mid ≤ old + 64 * own → new ≤ mid + 64 * rest → all ≡ own + rest → new ≤ old + 64 * all
add_bits old mid new own rest all h k e = omega (arith, h, k, e)

-- one output
one_cost : LawsBelow → (nodes : List PlanNode) (id : ℕ) (old new : Net) (columns : List ℕ) → IsPlan nodes → id < length nodes → columns ≡ widths_of (kinds_of nodes id)
    → CostsAtMost old new (output_cost columns) → CostsAtMost old new (outputs_cost nodes (id ∷ []))
one_cost laws nodes id old new columns plan within same own =
    let kinds = kinds_of nodes id in
    let long : length columns ≡ length kinds = ap length same ∙ length_map width_of kinds in
    let bits : sum (widths_of kinds) ≤ 64 * length kinds = bits_within kinds (laws.columns_have_kinds nodes id plan within) in
    let wide : sum columns ≡ sum (widths_of kinds) = ap sum same in
    record {
      nodes = omega (arith, own.nodes, long);
      registers = omega (arith, own.registers, long, bits, wide);
      memories = omega (arith, own.memories);
    }

-- the outputs of roots, and those of others behind them
costs_of : (nodes : List PlanNode) (id : ℕ) (ids : List ℕ) (old mid new : Net) → CostsAtMost old mid (outputs_cost nodes (id ∷ []))
    → CostsAtMost mid new (outputs_cost nodes ids) → CostsAtMost old new (outputs_cost nodes (id ∷ ids))
costs_of nodes id ids old mid new own rest =
    let part = output_part nodes in
    let all : sum_by part (id ∷ ids) ≡ sum_by part (id ∷ []) + sum_by part ids = sum_by-append part (id ∷ []) ids in
    record {
      nodes = add_up (size_of old) (size_of mid) (size_of new) (sum_by part (id ∷ [])) (sum_by part ids) (sum_by part (id ∷ ids)) own.nodes rest.nodes all;
      registers = add_bits (register_bits_of old) (register_bits_of mid) (register_bits_of new) (sum_by part (id ∷ [])) (sum_by part ids) (sum_by part (id ∷ ids))
          own.registers rest.registers all;
      memories = omega (arith, own.memories, rest.memories);
    }

pub record AreWithin (nodes : List PlanNode) (ids : List ℕ) (net : Net) : Type 0 where
  pub size : size_of net ≤ weight_of_reached nodes ids + sum_by (output_part nodes) ids
  pub registers : register_bits_of net ≤ 64 * (lean_of_reached nodes ids + sum_by (output_part nodes) ids) + keys_of_reached nodes ids
  pub memories : memory_bits_of net ≤ store_of_reached nodes ids

total_size : (n0 n1 n2 n3 own out : ℕ) → n0 ≡ 0 → n1 ≡ n0 → n2 ≤ n1 + own → n3 ≤ n2 + out → n3 ≤ own + out
total_size n0 n1 n2 n3 own out a b c d = omega (arith, a, b, c, d)

total_bits : (n0 n1 n2 n3 lean keys out : ℕ) → n0 ≡ 0 → n1 ≡ n0 → n2 ≤ n1 + (64 * lean + keys) → n3 ≤ n2 + 64 * out → n3 ≤ 64 * (lean + out) + keys
total_bits n0 n1 n2 n3 lean keys out a b c d = omega (arith, a, b, c, d)

total_store : (n0 n1 n2 n3 own : ℕ) → n0 ≡ 0 → n1 ≡ n0 → n2 ≤ n1 + own → n3 ≤ n2 + 0 → n3 ≤ own
total_store n0 n1 n2 n3 own a b c d = omega (arith, a, b, c, d)

pub are_within : (nodes : List PlanNode) (ids : List ℕ) (n0 n1 n2 n3 : Net) → IsEmpty n0 → CostsNothing n0 n1 → CostsAtMost n1 n2 (once_cost nodes ids)
    → CostsAtMost n2 n3 (outputs_cost nodes ids) → AreWithin nodes ids n3
are_within nodes ids n0 n1 n2 n3 empty none put out = record {
  size = total_size (size_of n0) (size_of n1) (size_of n2) (size_of n3) (weight_of_reached nodes ids) (sum_by (output_part nodes) ids)
      empty.size none.nodes put.nodes out.nodes;
  registers = total_bits (register_bits_of n0) (register_bits_of n1) (register_bits_of n2) (register_bits_of n3) (lean_of_reached nodes ids)
      (keys_of_reached nodes ids) (sum_by (output_part nodes) ids) empty.registers none.registers put.registers out.registers;
  memories = total_store (memory_bits_of n0) (memory_bits_of n1) (memory_bits_of n2) (memory_bits_of n3) (store_of_reached nodes ids)
      empty.memories none.memories put.memories out.memories;
}

-- ---- outputs one after the other

pub one_shown : LawsBelow → (nodes : List PlanNode) (table : List (Option Emitted)) (old new : Net) (r : Root) (e : Emitted) → IsPlan nodes → r.id < length nodes
    → CanShow nodes old table r → slice_get table r.id ≡ Some (Some e) → Extends old new → Puts old new (result_outputs (naming_at r) (widths e.wire.columns) r.names.columns)
    → CostsAtMost old new (output_cost (widths e.wire.columns)) → IsOutput (naming_at r) new r.names.columns e → AreShownBy nodes table old new (r ∷ [])
one_shown laws nodes table old new r e plan within can there x ports cost output =
    let same : can.e ≡ e = some_same can.e e (some_same (Some can.e) (Some e) (sym can.there ∙ there)) in
    let wide : widths e.wire.columns ≡ widths_of (kinds_of nodes r.id) = ap (λ (d : Emitted). widths d.wire.columns) (sym same) ∙ can.columns.same_widths in
    let own : Puts old new (root_outputs nodes r) = subst (λ (ws : List ℕ). Puts old new (result_outputs (naming_at r) ws r.names.columns)) wide ports in
    record {
      extends = x;
      ports = subst (λ (shapes : List PortShape). Puts old new shapes) (sym (append-nil (root_outputs nodes r))) own;
      cost = one_cost laws nodes r.id old new (widths e.wire.columns) plan within wide cost;
      shown = (record { e = e; there = there; output = output }, tt);
    }

pub then_shown : (nodes : List PlanNode) (table : List (Option Emitted)) (old mid new : Net) (r : Root) (rs : List Root) → AreShownBy nodes table old mid (r ∷ [])
    → AreShownBy nodes table mid new rs → AreShownBy nodes table old new (r ∷ rs)
then_shown nodes table old mid new r rs one rest =
    let own = root_outputs nodes r in
    let others = flat_map (root_outputs nodes) rs in
    let s = one.shown.0 in
    record {
      extends = extends_then old mid new one.extends rest.extends;
      ports = puts_then old mid new own others (subst (λ (shapes : List PortShape). Puts old mid shapes) (append-nil own) one.ports) rest.ports;
      cost = costs_of nodes r.id (ids_of rs) old mid new one.cost rest.cost;
      shown = (is_shown mid new table r s.e s.there rest.extends s.output, rest.shown);
    }

-- ---- names

outputs_in : (schema : Schema) (nodes : List PlanNode) (roots : List Root) → AllByRecursion (CanWireRoot schema nodes) roots
    → names_in (flat_map (root_outputs nodes) roots) ≡ results_ports (result_names roots)
outputs_in schema nodes [] all = refl
outputs_in schema nodes (r ∷ rs) all =
    let kinds = kinds_of nodes r.id in
    let own = root_outputs nodes r in
    let rest = flat_map (root_outputs nodes) rs in
    let long : length r.names.columns ≡ length (widths_of kinds) = all.0.named.many' ∙ sym (length_map width_of kinds) in
    map-append (λ (s : PortShape). s.name) own rest
    ∙ ap (λ (x : List (List ℕ)). x ++ names_in rest) (result_named (naming_at r) (widths_of kinds) r.names.columns long)
    ∙ ap (λ (x : List (List ℕ)). map (naming_at r) (result_ports r.names.columns) ++ x) (outputs_in schema nodes rs all.1)

-- the names of a module's ports, by those of its outputs
ports_in : (ticks : Bool) (s : Schema) (shapes : List PortShape) → names_in (input_ports ticks s ++ shapes) ≡ module_names ticks s (names_in shapes)
ports_in ticks s shapes =
    let streams = streams_inputs s.streams in
    let late = late_inputs ticks s.parameters in
    let later = late ++ shapes in
    ap (λ (x : List PortShape). names_in (input rst 1 ∷ x)) (append_assoc streams (input eos 1 ∷ late) shapes)
    ∙ ap (λ (x : List (List ℕ)). rst ∷ x) (map-append (λ (p : PortShape). p.name) streams (input eos 1 ∷ later)
    ∙ ap (λ (x : List (List ℕ)). x ++ eos ∷ names_in later) (streams_names s.streams)
    ∙ ap (λ (x : List (List ℕ)). streams_ports s.streams ++ eos ∷ x) (late_named ticks s.parameters shapes))

pub many_are : (ticks : Bool) (net : Net) (s : Schema) (nodes : List PlanNode) (roots : List Root) → AllByRecursion (CanWireRoot s nodes) roots
    → port_shapes net ≡ many_ports ticks s nodes roots → names_of net ≡ module_names ticks s (results_ports (result_names roots))
unfolding port_shapes
many_are ticks net s nodes roots all h =
    sym (shape_names net net.ports) ∙ ap names_in h ∙ ports_in ticks s (flat_map (root_outputs nodes) roots)
    ∙ ap (module_names ticks s) (outputs_in s nodes roots all)

pub all_named : (schema : Schema) (nodes : List PlanNode) (roots : List Root) → AllByRecursion (CanWireRoot schema nodes) roots → AreNamed (result_names roots)
all_named schema nodes [] all = tt
all_named schema nodes (r ∷ rs) all =
    let named = all.0.named in
    (record { many' = refl; into = named.into; columns = named.columns; distinct = named.distinct }, all_named schema nodes rs all.1)

-- ---- each root

pub all_inside : (schema : Schema) (nodes : List PlanNode) (roots : List Root) → AllByRecursion (CanWireRoot schema nodes) roots
    → AllByRecursion (λ (r : Root). r.id < length nodes) roots
all_inside schema nodes [] all = tt
all_inside schema nodes (r ∷ rs) all = (all.0.within, all_inside schema nodes rs all.1)

-- each can be put behind the wires of the streams, with the line of ticks
pub can_put : (schema : Schema) (nodes : List PlanNode) (figures : List Figures) (net : Net) (tick : Option Bit) (leaves : List Wire) → AreFigures nodes figures
    → AreStreamWires net schema.streams leaves → IsTickLine net (reads_time nodes) tick → (roots : List Root) → AllByRecursion (CanWireRoot schema nodes) roots
    → CanPutAll nodes figures (ids_of roots) net tick leaves
can_put schema nodes figures net tick leaves figured wires line [] all = tt
can_put schema nodes figures net tick leaves figured wires line (r ∷ rs) all = (
  record {
    within = all.0.within;
    figured = figured;
    leaved = leaves_have net schema.streams leaves (shape_of nodes r.id).leaves wires all.0.leaves;
    ticked = line_there net (reads_time nodes) tick line;
    timed = lines_have net (reads_time nodes) tick line (shape_of nodes r.id).leaves;
  },
  can_put schema nodes figures net tick leaves figured wires line rs all.1,
)

pub all_have : (nodes : List PlanNode) (old new : Net) (tick : Option Bit) (leaves : List Wire) (table : List (Option Emitted)) (roots : List Root)
    → AreReached nodes (ids_of roots) old new tick leaves table → AllByRecursion (λ (r : Root). HasCircuit nodes new tick leaves table r.id) roots
all_have nodes old new tick leaves table roots reached =
    all_of_mapped (HasCircuit nodes new tick leaves table) (λ (r : Root). r.id) roots (all_by (HasCircuit nodes new tick leaves table) (ids_of roots) reached.gives)

-- an output can stand behind each circuit of a table
pub all_can : (schema : Schema) (nodes : List PlanNode) (net : Net) (tick : Option Bit) (leaves : List Wire) (table : List (Option Emitted)) (roots : List Root)
    → AllByRecursion (CanWireRoot schema nodes) roots → AllByRecursion (λ (r : Root). HasCircuit nodes net tick leaves table r.id) roots
    → AllByRecursion (CanShow nodes net table) roots
all_can schema nodes net tick leaves table [] all have = tt
all_can schema nodes net tick leaves table (r ∷ rs) all have = (
  record { e = have.0.circuit; there = have.0.there; columns = gives_columns have.0.gives; as_many = all.0.named.many' },
  all_can schema nodes net tick leaves table rs all.1 have.1,
)

module _ (laws : LawsBelow) (schema : Schema) (nodes : List PlanNode) (plan : IsPlan nodes) (tick : Option Bit) (leaves : List Wire) (table : List (Option Emitted)) (mid net : Net)
    (x : Extends mid net) (wires : AreStreamWires net schema.streams leaves) (line : IsTickLine net (reads_time nodes) tick) (reset : HasReset net)
    (parameters : HasParameters net schema) where
  one_net : (r : Root) → r.id < length nodes → HasCircuit nodes mid tick leaves table r.id → IsShown net table r
      → IsRootNet schema nodes r.id (alone_figures nodes r.id) (ticks_alone nodes r.id) (naming_at r) r.names.columns net
  one_net r within has shown = record {
    plan = plan;
    within = within;
    leaves = leaves;
    tick = tick;
    e = shown.e;
    wires = wires;
    line = line;
    parameters = parameters;
    serves = λ run is. serves_alone laws nodes r.id mid tick leaves shown.e plan within (taken_gives has shown.there) (taken_once has shown.there) run (x.runs run is);
    output = shown.output;
    reset = reset;
  }

  pub all_nets : (roots : List Root) → AllByRecursion (λ (r : Root). r.id < length nodes) roots
      → AllByRecursion (λ (r : Root). HasCircuit nodes mid tick leaves table r.id) roots → AllByRecursion (IsShown net table) roots
      → AllByRecursion (λ (r : Root). IsRootNet schema nodes r.id (alone_figures nodes r.id) (ticks_alone nodes r.id) (naming_at r) r.names.columns net) roots
  all_nets [] within has shown = tt
  all_nets (r ∷ rs) within has shown = (one_net r within.0 has.0 shown.0, all_nets rs within.1 has.1 shown.1)

-- ---- right runs

max_left : (a b c : ℕ) → max a b ≤ c → a ≤ c
max_left a b c h = omega (arith, h)

max_right : (a b c : ℕ) → max a b ≤ c → b ≤ c
max_right a b c h = omega (arith, h)

-- the gaps of the netlist are those of each root, or more
pub all_close : (nodes : List PlanNode) (roots : List Root) (gap ticks : ℕ) → gap_together nodes (ids_of roots) ≤ gap → farthest_ticks nodes (ids_of roots) ≤ ticks
    → AllByRecursion (λ (r : Root). (gap_alone nodes r.id ≤ gap) × (ticks_alone nodes r.id ≤ ticks)) roots
all_close nodes [] gap ticks h k = tt
all_close nodes (r ∷ rs) gap ticks h k =
    let gaps = gap_together nodes (ids_of rs) in
    let far = farthest_ticks nodes (ids_of rs) in (
      (max_left (gap_alone nodes r.id) gaps gap h, max_left (ticks_alone nodes r.id) far ticks k),
      all_close nodes rs gap ticks (max_right (gap_alone nodes r.id) gaps gap h) (max_right (ticks_alone nodes r.id) far ticks k),
    )

-- where no root has ticks that are farther apart, the farthest are beats like any other
even_alone : (nodes : List PlanNode) (id : ℕ) (o : Option TickGaps) → tick_gaps_at nodes id ≡ o → is_some o ≡ false → ticks_alone nodes id ≡ gap_alone nodes id
even_alone nodes id None h e = ap (λ (o : Option TickGaps). unwrap_or (ticks_with o) (gap_with o (figures_of nodes id).gt)) h ∙ sym (ap (λ (o : Option TickGaps). gap_with o (figures_of nodes id).gt) h)
even_alone nodes id (Some it) h e = absurd (cc (e))

even_together : (nodes : List PlanNode) (ids : List ℕ) → list_any (λ id. is_some (tick_gaps_at nodes id)) ids ≡ false → farthest_ticks nodes ids ≡ gap_together nodes ids
even_together nodes [] h = refl
even_together nodes (id ∷ ids) h =
    let own = even_alone nodes id (tick_gaps_at nodes id) refl (neither_left (is_some (tick_gaps_at nodes id)) (list_any (λ x. is_some (tick_gaps_at nodes x)) ids) h) in
    let rest = even_together nodes ids (neither_right (is_some (tick_gaps_at nodes id)) (list_any (λ x. is_some (tick_gaps_at nodes x)) ids) h) in
    (λ i. max (own i) (rest i))

-- so ticks that keep the gaps of all are far enough apart for each
pub far_together : (nodes : List PlanNode) (ids : List ℕ) → farthest_ticks nodes ids ≤ (gaps_together nodes ids).of_ticks
far_together nodes ids =
    by_cases (list_any (λ id. is_some (tick_gaps_at nodes id)) ids)
    (λ e. let same = ap (λ (b : Bool). unwrap_or (if b then Some (farthest_ticks nodes ids) else None) (gap_together nodes ids)) e in omega (arith, same))
    (λ e.
    let same = ap (λ (b : Bool). unwrap_or (if b then Some (farthest_ticks nodes ids) else None) (gap_together nodes ids)) e in
    let even = even_together nodes ids e in
    omega (arith, same, even))

pub all_right : LawsBelow → (schema : Schema) (nodes : List PlanNode) (gaps : Gaps) (net : Net) → AreApart net → (roots : List Root)
    → AllByRecursion (λ (r : Root). IsRootNet schema nodes r.id (alone_figures nodes r.id) (ticks_alone nodes r.id) (naming_at r) r.names.columns net) roots
    → AllByRecursion (λ (r : Root). (gap_alone nodes r.id ≤ gaps.of_beats) × (ticks_alone nodes r.id ≤ gaps.of_ticks)) roots → AllByRecursion (IsRightFor schema nodes gaps net) roots
all_right laws schema nodes gaps net apart [] all close = tt
all_right laws schema nodes gaps net apart (r ∷ rs) all close =
    let f = alone_figures nodes r.id in
    let far = ticks_alone nodes r.id in (
      record {
        right = root_runs_right laws schema nodes r.id f far (naming_at r) r.names.columns net all.0 apart gaps close.0.0 close.0.1;
        group = root_group_kept laws schema nodes r.id f far (naming_at r) r.names.columns net all.0 apart gaps close.0.0 close.0.1;
      },
      all_right laws schema nodes gaps net apart rs all.1 close.1,
    )
