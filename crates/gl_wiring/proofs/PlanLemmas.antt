-- The netlist of a plan: the names of its ports, what it costs, and that its runs are right.
use Rattle.std.proofs.Common.{◌≡◌, ℕ, suc, Bool, ◌+◌, ◌*◌, ◌<◌, ◌≤◌, List, [], ◌∷◌, ◌++◌, length, map, Some, None, refl, sym, ap, subst, ◌∙◌, append_assoc, arith}
use Rattle.std.specs.Prelude.{slice_get, slice_index}
use Rattle.std.specs.List.{sum}
use Rattle.std.proofs.lemmas.List.{map-append}
use Rattle.gl_algebra.specs.Fits.{IsPlan}
use Rattle.gl_algebra.specs.Results.{IsPlanResult}
use Rattle.gl_algebra.specs.Shapes.{kinds_of}
use Rattle.gl_algebra.specs.Views.{reads_time}
use Rattle.gl_algebra.specs.declared.figures.Figures.{Figures}
use Rattle.gl_algebra.specs.declared.node.PlanNode.{PlanNode}
use Rattle.gl_algebra.specs.Roots.{most_memory, most_registers, weight_with_output}
use Rattle.gl_bits.proofs.AllLists.{length_map}
use Rattle.gl_bits.proofs.Options.{some_same}
use Rattle.gl_values.specs.Kinds.{width_of}
use Rattle.gl_net.specs.Net.{Net, Run, IsHeld, IsRun, IsTrace, memory_bits_of, register_bits_of, size_of}
use Rattle.gl_net.specs.PortValues.{PortShape, input_values, port_shapes}
use Rattle.gl_wiring.specs.Below.{LawsBelow}
use Rattle.gl_wiring.specs.Leaves.{widths_of}
use Rattle.gl_wiring.specs.Roots.{root_cost}
use Rattle.gl_wiring.proofs.CostLemmas.{bits_within}
use Rattle.gl_schema.specs.Beats.{Beats, AreBeats, inputs_of, last_cycle}
use Rattle.gl_gaps.specs.Keeps.{KeepsGaps}
use Rattle.gl_schema.specs.Ports.{IsStimulus, rst, eos, out_valid, out_column, out_eos, fault_group, fault_queue}
use Rattle.gl_schema.specs.Right.{IsRight}
use Rattle.gl_gaps.specs.declared.Gaps.{Gaps}
use Rattle.gl_schema.specs.declared.schema.Column.{Column}
use Rattle.gl_schema.specs.declared.schema.Schema.{Schema}
use Rattle.gl_wire.specs.Costs.{CostsAtMost}
use Rattle.gl_wire.specs.Wire.{carried, line_at}
use Rattle.gl_wire.specs.declared.wire.Wire.{Wire}
use Rattle.gl_wire.proofs.StageLemmas.{line_first, tuple_by}
use Rattle.gl_wiring.specs.Bringing.{Brings}
use Rattle.gl_wiring.specs.Emitted.{CostsNothing, names_of}
use Rattle.gl_wiring.specs.EmittedPorts.{input, output, streams_inputs}
use Rattle.gl_wiring.specs.Naming.{Naming, plain, seen_as}
use Rattle.gl_wiring.specs.Output.{column_outputs, early_inputs, input_ports, late_inputs, output_cost, output_ports, plan_ports, result_outputs}
use Rattle.gl_wiring.specs.PlanNet.{IsEmpty, IsRootNet}
use Rattle.gl_wiring.specs.PortNames.{late_ports, port_names, result_ports, streams_ports}
use Rattle.gl_wiring.specs.Root.{ShowsRight}
use Rattle.gl_wiring.specs.Wired.{KeepsGroup, OverBeats, plan_inputs, plan_means}
use Rattle.gl_wiring.proofs.BringLemmas.{brings, no_input, ticks_come}
use Rattle.gl_wiring.proofs.HeldRuns.{is_held_run, trace_held, with_held}
use Rattle.gl_wiring.proofs.Outputs.{AreApart}
use Rattle.gl_wiring.proofs.Resetting.{is_reset}
use Rattle.gl_wiring.proofs.Shapes.{late_named, names_in, shape_names, streams_names}
use Rattle.gl_wiring.proofs.ShownLemmas.{shown_group, shown_right}
use Rattle.gl_wiring.proofs.StreamLemmas.{no_stream, wire_at}
use Rattle.gl_wiring.proofs.TopLemmas.{plan_right}

-- ---- names

outputs_named : (naming : Naming) (ws : List ℕ) (ns : List (List ℕ)) → length ns ≡ length ws
    → names_in (column_outputs naming ws ns) ≡ map naming (map out_column ns)
outputs_named naming [] [] e = refl
outputs_named naming [] (n ∷ ns) e = absurd (omega arith)
outputs_named naming (w ∷ ws) [] e = absurd (omega arith)
outputs_named naming (w ∷ ws) (n ∷ ns) e =
    ap (λ (x : List (List ℕ)). naming (out_column n) ∷ x) (outputs_named naming ws ns (omega arith))

pub result_named : (naming : Naming) (ws : List ℕ) (ns : List (List ℕ)) → length ns ≡ length ws
    → names_in (result_outputs naming ws ns) ≡ map naming (result_ports ns)
result_named naming ws ns e =
    let tail = output (naming out_eos) 1 ∷ output (naming fault_group) 1 ∷ output (naming fault_queue) 1 ∷ [] in
    let named = naming out_eos ∷ naming fault_group ∷ naming fault_queue ∷ [] in
    ap (λ (x : List (List ℕ)). naming out_valid ∷ x) (map-append (λ (s : PortShape). s.name) (column_outputs naming ws ns) tail
    ∙ ap (λ (x : List (List ℕ)). x ++ named) (outputs_named naming ws ns e)
    ∙ sym (map-append naming (map out_column ns) (out_eos ∷ fault_group ∷ fault_queue ∷ [])))

same_names : (ns : List (List ℕ)) → map plain ns ≡ ns
same_names [] = refl
same_names (n ∷ ns) = ap (λ (x : List (List ℕ)). n ∷ x) (same_names ns)

-- with the inputs behind the end in front
later_named : (ticks : Bool) (ps : List Column) (ws : List ℕ) (ns : List (List ℕ)) → length ns ≡ length ws
    → names_in (late_inputs ticks ps ++ output_ports ws ns) ≡ late_ports ticks ps ++ result_ports ns
later_named ticks ps ws ns e =
    late_named ticks ps (output_ports ws ns)
    ∙ ap (λ (x : List (List ℕ)). late_ports ticks ps ++ x) (result_named plain ws ns e ∙ same_names (result_ports ns))

-- the names of the ports of a plan's netlist
pub plan_named : (ticks : Bool) (s : Schema) (ws : List ℕ) (ns : List (List ℕ)) → length ns ≡ length ws
    → names_in (input_ports ticks s ++ output_ports ws ns) ≡ port_names ticks s ns
plan_named ticks s ws ns e =
    let result = output_ports ws ns in
    let late = late_inputs ticks s.parameters in
    let later = late ++ result in
    let streams = streams_inputs s.streams in
    ap (λ (x : List PortShape). names_in (input rst 1 ∷ x)) (append_assoc streams (input eos 1 ∷ late) result)
    ∙ ap (λ (x : List (List ℕ)). rst ∷ x) (map-append (λ (p : PortShape). p.name) streams (input eos 1 ∷ later)
    ∙ ap (λ (x : List (List ℕ)). x ++ eos ∷ names_in later) (streams_names s.streams)
    ∙ ap (λ (x : List (List ℕ)). streams_ports s.streams ++ eos ∷ x) (later_named ticks s.parameters ws ns e))

pub plan_names : (ticks : Bool) (net : Net) (s : Schema) (nodes : List PlanNode) (root : ℕ) (ns : List (List ℕ)) → length ns ≡ length (kinds_of nodes root)
    → port_shapes net ≡ plan_ports ticks s (kinds_of nodes root) ns → names_of net ≡ port_names ticks s ns
unfolding port_shapes
plan_names ticks net s nodes root ns e h =
    sym (shape_names net net.ports) ∙ ap names_in h
    ∙ plan_named ticks s (widths_of (kinds_of nodes root)) ns (e ∙ sym (length_map width_of (kinds_of nodes root)))

-- the tick and the parameters stand behind the other inputs
pub inputs_joined : (ticks : Bool) (s : Schema) → early_inputs s ++ late_inputs ticks s.parameters ≡ input_ports ticks s
inputs_joined ticks s = ap (λ (x : List PortShape). input rst 1 ∷ x) (append_assoc (streams_inputs s.streams) (input eos 1 ∷ []) (late_inputs ticks s.parameters))

-- ---- costs

pub record IsWithin (nodes : List PlanNode) (root : ℕ) (net : Net) : Type 0 where
  pub size : size_of net ≤ weight_with_output nodes root
  pub registers : register_bits_of net ≤ most_registers nodes root
  pub memories : memory_bits_of net ≤ most_memory nodes root

-- the circuit of the root and an output are within what the plan counts with its output
pub costs_within : LawsBelow → (nodes : List PlanNode) (root : ℕ) (n0 n1 n2 n3 : Net) (columns : List ℕ) → IsPlan nodes → root < length nodes
    → IsEmpty n0 → CostsNothing n0 n1 → CostsAtMost n1 n2 (root_cost nodes root) → CostsAtMost n2 n3 (output_cost columns)
    → columns ≡ widths_of (kinds_of nodes root) → IsWithin nodes root n3
costs_within laws nodes root n0 n1 n2 n3 columns plan within empty none put out same =
    let kinds = kinds_of nodes root in
    let long : length columns ≡ length kinds = ap length same ∙ length_map width_of kinds in
    let bits : sum (widths_of kinds) ≤ 64 * length kinds = bits_within kinds (laws.columns_have_kinds nodes root plan within) in
    let wide : sum columns ≡ sum (widths_of kinds) = ap sum same in
    record {
      size = omega (arith, empty.size, none.nodes, put.nodes, out.nodes, long);
      registers = omega (arith, empty.registers, none.registers, put.registers, out.registers, bits, wide);
      memories = omega (arith, empty.memories, none.memories, put.memories, out.memories);
    }

-- ---- right runs

module _ (laws : LawsBelow) (schema : Schema) (nodes : List PlanNode) (root : ℕ) (f : Figures) (ticks : ℕ) (naming : Naming) (names : List (List ℕ)) (net : Net)
    (is : IsRootNet schema nodes root f ticks naming names net) (apart : AreApart net) (gaps : Gaps) (close : f.gt ≤ gaps.of_beats) (near : ticks ≤ gaps.of_ticks) where
  module _ (run : Run) (beats : Beats) (trace : IsTrace net run) (are : AreBeats schema beats) (keeps : KeepsGaps gaps beats)
      (stimulus : IsStimulus schema beats (input_values net run)) (words : run.held ≡ (λ (k : ℕ). slice_index beats.sets k)) (held : IsHeld net run) where
    runs : IsRun net run
    runs = record { trace = trace; reset = is_reset schema beats net run apart is.reset trace stimulus; held = held }

    leaf_brings : (k : ℕ) (w : Wire) → slice_get is.leaves k ≡ Some w → Brings k beats.list (carried run w)
    leaf_brings k w e =
        let r = wire_at net schema.streams is.leaves k w is.wires e in
        let same : r.wire ≡ w = some_same r.wire w (sym r.at ∙ e) in
        subst (λ (x : Wire). Brings k beats.list (carried run x)) same
        (brings schema k r.stream r.there beats are net run apart r.wire r.is stimulus)

    shows : ShowsRight f (IsPlanResult nodes root (plan_inputs (inputs_of beats))) (suc (last_cycle beats))
        (carried run is.output.wire) (line_at run is.output.group) (line_at run is.output.queue)
    shows = plan_right laws run is.leaves beats are.order leaf_brings
        (λ k e. no_input schema beats.list k are.each (no_stream net schema.streams is.leaves k is.wires e)) words
        nodes root is.tick is.plan is.within (ticks_come schema beats net run apart stimulus (reads_time nodes) is.tick is.line)
        f ticks gaps is.e (carried run is.output.wire) (line_at run is.output.group) (line_at run is.output.queue)
        close near (is.serves run runs) keeps (is.output.delayed run runs) (is.output.group_line run runs) (is.output.queue_line run runs)

    first : (carried run is.output.wire).tuple 0 ≡ None
    first = tuple_by run is.output.wire.valid is.output.wire.columns 0 ∙ rw (line_first run is.output.wire.valid) refl

  -- a trace over beats, with the words that they set as those that it holds
  module _ (run : Run) (beats : Beats) (trace : IsTrace net run) (stimulus : IsStimulus schema beats (input_values net run)) where
    abbrev set : Run
    set = with_held run (λ (k : ℕ). slice_index beats.sets k)

    set_trace : IsTrace net set
    set_trace = trace_held run (λ (k : ℕ). slice_index beats.sets k) net trace

    set_held : IsHeld net set
    set_held = is_held_run schema beats net run stimulus apart is.parameters

  pub root_runs_right : OverBeats schema gaps (λ all port. IsRight (plan_means nodes root) (f.le + 1) all (map out_column names) (seen_as naming port)) net
  root_runs_right run beats trace are keeps stimulus =
      let over = set run beats trace stimulus in
      let traced = set_trace run beats trace stimulus in
      let held = set_held run beats trace stimulus in
      shown_right naming net over names is.output.wire is.output.group is.output.queue apart is.output.shows f nodes root beats
      (first over beats traced are keeps stimulus refl held) (shows over beats traced are keeps stimulus refl held)

  pub root_group_kept : OverBeats schema gaps (λ all port. KeepsGroup (map out_column names) (seen_as naming port)) net
  root_group_kept run beats trace are keeps stimulus =
      let over = set run beats trace stimulus in
      let traced = set_trace run beats trace stimulus in
      let held = set_held run beats trace stimulus in
      shown_group naming net over names is.output.wire is.output.group is.output.queue apart is.output.shows f nodes root beats
      (first over beats traced are keeps stimulus refl held) (shows over beats traced are keeps stimulus refl held)
