use Rattle.std.proofs.Common.{◌≡◌, ◌∙◌, ℕ, Bool, List, [], sym, subst, ap}
use Rattle.gl_algebra.specs.Shapes.{kinds_of, shape_of}
use Rattle.gl_algebra.specs.Views.{reads_time}
use Rattle.gl_algebra.specs.Known.{AreKnown}
use Rattle.gl_net.specs.PortValues.{PortShape, port_shapes}
use Rattle.std.specs.List.{AllByRecursion}
use Rattle.gl_schema.specs.Schemas.{IsColumn}
use Rattle.gl_schema.specs.declared.schema.Column.{Column}
use Rattle.gl_wiring.specs.Leaves.{widths_of}
use Rattle.gl_wire.specs.Wire.{widths}
use Rattle.gl_wiring.specs.EmittedPorts.{column_widths}
use Rattle.gl_wiring.specs.Emitted.{CostsNothing, Extends, Puts}
use Rattle.gl_wiring.specs.Naming.{plain}
use Rattle.gl_wiring.specs.Output.{IsOutput, early_inputs, input_ports, late_inputs, output_ports, plan_ports}
use Rattle.gl_wiring.specs.StreamWires.{AreStreamWires, IsTickLine}
use Rattle.gl_wiring.proofs.HeldRuns.{no_early, no_result, none_held, parameters_of}
use Rattle.gl_wiring.proofs.Inputs.{extends_then}
use Rattle.gl_wiring.proofs.OutputLemmas.{keeps_extends, keeps_puts, nothing_then}
use Rattle.gl_wiring.proofs.PlanLemmas.{IsWithin, costs_within, inputs_joined}
use Rattle.gl_wiring.proofs.Shapes.{all_put, puts_then}
use Rattle.gl_wiring.proofs.StreamLemmas.{leaves_have, line_stays, line_there, lines_have, reset_stays, wires_stay}
use Rattle.gl_wiring.proofs.plan.put_plan.Goals as goal

pub put_last_inputs-requires : goal.put_last_inputs-requires
put_last_inputs-requires c = record {
  columns = subst (AllByRecursion IsColumn) (sym c.as_slice-parameters.ensures) c.requires.can.schema'.declared.each;
  none =
      let early = early_inputs c.args.schema.now in
      none_held c.put_leaves.new.net early (all_put c.args.net.now c.put_leaves.new.net early c.requires.empty.ports c.in_ok-leaves.ensures.ports) (no_early c.args.schema.now);
}

pub put_root-requires-clause-can : goal.put_root-requires-clause-can
put_root-requires-clause-can c =
    let can = c.requires.can in
    let n1 = c.put_leaves.new.net in
    let n2 = c.put_last_inputs.new.net in
    let ss = c.args.schema.now.streams in
    let of = (shape_of c.args.bare.plan.now c.args.root.now.id).leaves in
    let wires : AreStreamWires n1 ss c.deref.result.now = subst (AreStreamWires n1 ss) (sym c.deref.ensures.value) c.in_ok-leaves.ensures.wires in
    let line : IsTickLine n2 (reads_time c.args.bare.plan.now) c.in_ok-last.last.tick =
    subst (λ (b : Bool). IsTickLine n2 b c.in_ok-last.last.tick) c.reads_time.ensures c.in_ok-last.ensures.line in
    record {
      within = can.within;
      figured = can.figured;
      leaved = leaves_have n2 ss c.deref.result.now of (wires_stay n1 n2 ss c.deref.result.now c.in_ok-last.ensures.extends wires) can.leaves;
      ticked = line_there n2 (reads_time c.args.bare.plan.now) c.in_ok-last.last.tick line;
      timed = lines_have n2 (reads_time c.args.bare.plan.now) c.in_ok-last.last.tick line of;
    }

pub put_root-requires-clause-words : goal.put_root-requires-clause-words
put_root-requires-clause-words c =
    let last = c.in_ok-last.ensures in
    let wide : widths c.in_ok-last.last.words ≡ column_widths c.args.schema.now.parameters = last.widths ∙ ap column_widths c.as_slice-parameters.ensures in
    rw c.as_slice-words.ensures (record { held = last.held; known = subst (λ (ws : List ℕ). AreKnown ws c.args.bare.plan.now) (sym wide) c.requires.can.known })

pub returns-clause-extends : goal.returns-clause-extends
returns-clause-extends c =
    let n0 = c.args.net.now in
    let n1 = c.put_leaves.new.net in
    let n2 = c.put_last_inputs.new.net in
    let n3 = c.put_root.new.net in
    let n4 = c.put_result.new.net in
    extends_then n0 n1 n4 c.in_ok-leaves.ensures.extends
    (extends_then n1 n2 n4 c.in_ok-last.ensures.extends
    (extends_then n2 n3 n4 (keeps_extends n2 n3 c.in_ok-e.ensures.keeps) c.in_ok-put_result.ensures.extends))

pub returns-clause-plan : goal.returns-clause-plan
returns-clause-plan c =
    let n0 = c.args.net.now in
    let n1 = c.put_leaves.new.net in
    let n2 = c.put_last_inputs.new.net in
    let n3 = c.put_root.new.net in
    let n4 = c.put_result.new.net in
    let can = c.requires.can in
    let plan = c.args.bare.planned in
    let nodes = c.args.bare.plan.now in
    let root = c.args.root.now.id in
    let schema = c.args.schema.now in
    let ss = schema.streams in
    let names = c.args.root.now.names.columns in
    let ls = c.deref.result.now in
    let tick = c.in_ok-last.last.tick in
    let ticks = reads_time nodes in
    let e = c.in_ok-e.e in
    let put = c.in_ok-e.ensures in
    let out = c.in_ok-put_result.ensures in
    let ws = widths e.wire.columns in
    let y : Extends n2 n4 = extends_then n2 n3 n4 (keeps_extends n2 n3 put.keeps) out.extends in
    let x : Extends n1 n4 = extends_then n1 n2 n4 c.in_ok-last.ensures.extends y in
    let wires : AreStreamWires n1 ss ls = subst (AreStreamWires n1 ss) (sym c.deref.ensures.value) c.in_ok-leaves.ensures.wires in
    let line : IsTickLine n2 ticks tick = subst (λ (b : Bool). IsTickLine n2 b tick) c.reads_time.ensures c.in_ok-last.ensures.line in
    let nothing : CostsNothing n0 n2 = nothing_then n0 n1 n2 c.in_ok-leaves.ensures.cost c.in_ok-last.ensures.cost in
    let cost : IsWithin nodes root n4 =
    costs_within c.laws_below.ensures nodes root n0 n2 n3 n4 ws plan can.within c.requires.empty nothing put.cost out.cost put.columns.same_widths in
    let shown : Puts n3 n4 (output_ports (widths_of (kinds_of nodes root)) names) =
    subst (λ (z : List ℕ). Puts n3 n4 (output_ports z names)) put.columns.same_widths
    (subst (λ (z : List (List ℕ)). Puts n3 n4 (output_ports ws z)) c.as_slice-names.ensures out.ports) in
    let own : Puts n1 n2 (late_inputs ticks schema.parameters) =
    subst (λ (b : Bool). Puts n1 n2 (late_inputs b schema.parameters)) c.reads_time.ensures
    (subst (λ (ps : List Column). Puts n1 n2 (late_inputs c.reads_time.result ps)) c.as_slice-parameters.ensures c.in_ok-last.ensures.ports) in
    let inputs : Puts n0 n2 (input_ports ticks schema) =
    subst (λ (z : List PortShape). Puts n0 n2 z) (inputs_joined ticks schema)
    (puts_then n0 n1 n2 (early_inputs schema) (late_inputs ticks schema.parameters) c.in_ok-leaves.ensures.ports own) in
    let outputs = output_ports (widths_of (kinds_of nodes root)) names in
    let all : port_shapes n4 ≡ plan_ports ticks schema (kinds_of nodes root) names =
    all_put n0 n4 (plan_ports ticks schema (kinds_of nodes root) names) c.requires.empty.ports
    (puts_then n0 n2 n4 (input_ports ticks schema) outputs inputs (puts_then n2 n3 n4 [] outputs (keeps_puts n2 n3 put.keeps) shown)) in
    record {
      shown = record {
        plan = plan;
        within = can.within;
        leaves = ls;
        tick = tick;
        e = e;
        wires = wires_stay n1 n4 ss ls x wires;
        line = line_stays n2 n4 ticks tick y line;
        parameters = parameters_of n4 ticks schema outputs all (no_result plain (widths_of (kinds_of nodes root)) names);
        serves = λ run r. put.once run (out.extends.runs run r);
        output = subst (λ (z : List (List ℕ)). IsOutput plain n4 z e) c.as_slice-names.ensures out.output;
        reset = reset_stays n1 n4 x c.in_ok-leaves.ensures.reset;
      };
      ports = all;
      size = cost.size;
      registers = cost.registers;
      memories = cost.memories;
    }
