use Rattle.std.proofs.Common.{◌≡◌, Bool, List, ℕ, [], ◌∙◌, sym, subst, ap}
use Rattle.std.specs.List.{AllByRecursion, flat_map}
use Rattle.gl_algebra.specs.Shapes.{kinds_of}
use Rattle.gl_algebra.specs.Views.{reads_time}
use Rattle.gl_algebra.specs.Known.{AreKnown}
use Rattle.gl_net.specs.PortValues.{PortShape, port_shapes}
use Rattle.gl_schema.specs.Schemas.{IsColumn}
use Rattle.gl_schema.specs.declared.schema.Column.{Column}
use Rattle.gl_wiring.specs.EmittedPorts.{column_widths}
use Rattle.gl_wiring.specs.Emitted.{CostsNothing, Extends, Puts}
use Rattle.gl_wire.specs.Wire.{widths}
use Rattle.gl_wiring.specs.Leaves.{widths_of}
use Rattle.gl_wiring.specs.Many.{ids_of, many_ports, naming_at, root_outputs}
use Rattle.gl_wiring.specs.Output.{early_inputs, input_ports, late_inputs}
use Rattle.gl_wiring.specs.Reached.{AreReached, CanPutAll}
use Rattle.gl_wiring.specs.StreamWires.{AreStreamWires, IsTickLine}
use Rattle.gl_wiring.specs.declared.many.Root.{Root}
use Rattle.gl_wiring.proofs.HeldRuns.{no_early, no_result, no_results, none_held, parameters_of}
use Rattle.gl_wiring.proofs.Inputs.{extends_then}
use Rattle.gl_wiring.proofs.ManyLemmas.{all_can, all_have, all_inside, all_nets, are_within, can_put}
use Rattle.gl_wiring.proofs.OutputLemmas.{keeps_extends, keeps_puts, nothing_then}
use Rattle.gl_wiring.proofs.PlanLemmas.{inputs_joined}
use Rattle.gl_wiring.proofs.Shapes.{all_put, puts_then}
use Rattle.gl_wiring.proofs.StreamLemmas.{line_stays, reset_stays, wires_stay}
use Rattle.gl_wiring.proofs.many.put_many.Goals as goal

pub put_last_inputs-requires : goal.put_last_inputs-requires
put_last_inputs-requires c = record {
  columns = subst (AllByRecursion IsColumn) (sym c.as_slice-parameters.ensures) c.requires.can.schema'.declared.each;
  none =
      let early = early_inputs c.args.schema.now in
      none_held c.put_leaves.new.net early (all_put c.args.net.now c.put_leaves.new.net early c.requires.empty.ports c.in_ok-leaves.ensures.ports) (no_early c.args.schema.now);
}

pub put_reached-requires-clause-can : goal.put_reached-requires-clause-can
put_reached-requires-clause-can c =
    let can = c.requires.can in
    let nodes = c.args.plan.now in
    let schema = c.args.schema.now in
    let ss = schema.streams in
    let roots = c.args.roots.now in
    let n1 = c.put_leaves.new.net in
    let n2 = c.put_last_inputs.new.net in
    let ls = c.deref.result.now in
    let tick = c.in_ok-last.last.tick in
    let wires : AreStreamWires n1 ss ls = subst (AreStreamWires n1 ss) (sym c.deref.ensures.value) c.in_ok-leaves.ensures.wires in
    let line : IsTickLine n2 (reads_time nodes) tick = subst (λ (b : Bool). IsTickLine n2 b tick) c.reads_time.ensures c.in_ok-last.ensures.line in
    let same : c.deref-2.result.now ≡ ids_of roots = c.deref-2.ensures.value ∙ c.in_ok-ids.ensures in
    subst (λ (ids : List ℕ). CanPutAll nodes c.args.figures.now ids n2 tick ls) (sym same)
    (can_put schema nodes c.args.figures.now n2 tick ls can.figured (wires_stay n1 n2 ss ls c.in_ok-last.ensures.extends wires) line roots can.each)

pub put_reached-requires-clause-words : goal.put_reached-requires-clause-words
put_reached-requires-clause-words c =
    let last = c.in_ok-last.ensures in
    let wide : widths c.in_ok-last.last.words ≡ column_widths c.args.schema.now.parameters = last.widths ∙ ap column_widths c.as_slice-parameters.ensures in
    rw c.as_slice-words.ensures (record { held = last.held; known = subst (λ (ws : List ℕ). AreKnown ws c.args.plan.now) (sym wide) c.requires.can.known })

pub put_results-requires-clause-within : goal.put_results-requires-clause-within
put_results-requires-clause-within c = all_inside c.args.schema.now c.args.plan.now c.args.roots.now c.requires.can.each

pub put_results-requires-clause-can : goal.put_results-requires-clause-can
put_results-requires-clause-can c =
    let nodes = c.args.plan.now in
    let roots = c.args.roots.now in
    let n2 = c.put_last_inputs.new.net in
    let n3 = c.put_reached.new.net in
    let ls = c.deref.result.now in
    let tick = c.in_ok-last.last.tick in
    let table = c.in_ok-table.table.items in
    let same : c.deref-2.result.now ≡ ids_of roots = c.deref-2.ensures.value ∙ c.in_ok-ids.ensures in
    let reached : AreReached nodes (ids_of roots) n2 n3 tick ls table =
    subst (λ (ids : List ℕ). AreReached nodes ids n2 n3 tick ls table) same c.in_ok-table.ensures in
    rw c.deref-3.ensures.value
    (all_can c.args.schema.now nodes n3 tick ls table roots c.requires.can.each (all_have nodes n2 n3 tick ls table roots reached))

pub returns-clause-extends : goal.returns-clause-extends
returns-clause-extends c =
    let n0 = c.args.net.now in
    let n1 = c.put_leaves.new.net in
    let n2 = c.put_last_inputs.new.net in
    let n3 = c.put_reached.new.net in
    let n4 = c.put_results.new.net in
    extends_then n0 n1 n4 c.in_ok-leaves.ensures.extends
    (extends_then n1 n2 n4 c.in_ok-last.ensures.extends
    (extends_then n2 n3 n4 (keeps_extends n2 n3 c.in_ok-table.ensures.keeps) c.in_ok-put_results.ensures.extends))

pub returns-clause-plan : goal.returns-clause-plan
returns-clause-plan c =
    let n0 = c.args.net.now in
    let n1 = c.put_leaves.new.net in
    let n2 = c.put_last_inputs.new.net in
    let n3 = c.put_reached.new.net in
    let n4 = c.put_results.new.net in
    let can = c.requires.can in
    let nodes = c.args.plan.now in
    let schema = c.args.schema.now in
    let ss = schema.streams in
    let roots = c.args.roots.now in
    let ids = ids_of roots in
    let ls = c.deref.result.now in
    let tick = c.in_ok-last.last.tick in
    let ticks = reads_time nodes in
    let table = c.in_ok-table.table.items in
    let out = c.in_ok-put_results.ensures in
    let same : c.deref-2.result.now ≡ ids = c.deref-2.ensures.value ∙ c.in_ok-ids.ensures in
    let reached : AreReached nodes ids n2 n3 tick ls table = subst (λ (xs : List ℕ). AreReached nodes xs n2 n3 tick ls table) same c.in_ok-table.ensures in
    let y : Extends n2 n4 = extends_then n2 n3 n4 (keeps_extends n2 n3 reached.keeps) out.extends in
    let x : Extends n1 n4 = extends_then n1 n2 n4 c.in_ok-last.ensures.extends y in
    let wires : AreStreamWires n1 ss ls = subst (AreStreamWires n1 ss) (sym c.deref.ensures.value) c.in_ok-leaves.ensures.wires in
    let line : IsTickLine n2 ticks tick = subst (λ (b : Bool). IsTickLine n2 b tick) c.reads_time.ensures c.in_ok-last.ensures.line in
    let nothing : CostsNothing n0 n2 = nothing_then n0 n1 n2 c.in_ok-leaves.ensures.cost c.in_ok-last.ensures.cost in
    let cost = are_within nodes ids n0 n2 n3 n4 c.requires.empty nothing reached.cost out.cost in
    let own : Puts n1 n2 (late_inputs ticks schema.parameters) =
    subst (λ (b : Bool). Puts n1 n2 (late_inputs b schema.parameters)) c.reads_time.ensures
    (subst (λ (ps : List Column). Puts n1 n2 (late_inputs c.reads_time.result ps)) c.as_slice-parameters.ensures c.in_ok-last.ensures.ports) in
    let inputs : Puts n0 n2 (input_ports ticks schema) =
    subst (λ (z : List PortShape). Puts n0 n2 z) (inputs_joined ticks schema)
    (puts_then n0 n1 n2 (early_inputs schema) (late_inputs ticks schema.parameters) c.in_ok-leaves.ensures.ports own) in
    let outputs = flat_map (root_outputs nodes) roots in
    let reset = reset_stays n1 n4 x c.in_ok-leaves.ensures.reset in
    let all : port_shapes n4 ≡ many_ports ticks schema nodes roots =
    all_put n0 n4 (many_ports ticks schema nodes roots) c.requires.empty.ports
    (puts_then n0 n2 n4 (input_ports ticks schema) outputs inputs (puts_then n2 n3 n4 [] outputs (keeps_puts n2 n3 reached.keeps) out.ports)) in
    let parameters =
    parameters_of n4 ticks schema outputs all
    (no_results (root_outputs nodes) (λ (r : Root). no_result (naming_at r) (widths_of (kinds_of nodes r.id)) r.names.columns) roots) in
    record {
      each = all_nets c.laws_below.ensures schema nodes c.len.ensures.plan tick ls table n3 n4 out.extends (wires_stay n1 n4 ss ls x wires) (line_stays n2 n4 ticks tick y line) reset parameters roots
          (all_inside schema nodes roots can.each) (all_have nodes n2 n3 tick ls table roots reached) (rw c.deref-3.ensures.value at out.shown);
      reset = reset;
      ports = all;
      size = cost.size;
      registers = cost.registers;
      memories = cost.memories;
    }
