use Rattle.std.proofs.Common.{List, ◌∙◌, subst, sym}
use Rattle.gl_net.specs.declared.node.Bus.{Bus}
use Rattle.gl_net.specs.declared.node.Direction.TheVariants.{Out}
use Rattle.gl_schema.specs.Ports.{out_valid, out_eos, fault_group, fault_queue}
use Rattle.gl_wire.specs.Wire.{AreBuses, widths}
use Rattle.gl_wiring.specs.Emitted.{Extends, Puts}
use Rattle.gl_wiring.specs.Naming.{Naming, naming_of}
use Rattle.gl_wiring.specs.Output.{AreShown, column_outputs}
use Rattle.gl_wiring.proofs.Inputs.{extends_then}
use Rattle.gl_wiring.proofs.OutputLemmas.{output_puts, port_named, puts_named, shown_stay}
use Rattle.gl_wiring.proofs.output.put_ports.Goals as goal

pub put_columns-requires-clause-columns : goal.put_columns-requires-clause-columns
put_columns-requires-clause-columns c =
    let x = c.in_ok-put_output.ensures.extends in
    let all : AreBuses c.put_output.new.net c.args.wire.now.columns = record { each = λ k b e. x.buses b (c.requires.wire.columns.each k b e) } in
    subst (AreBuses c.put_output.new.net) (sym c.as_slice-columns.ensures) all

pub returns-clause-extends : goal.returns-clause-extends
returns-clause-extends c =
    let n0 = c.args.net.now in
    let n1 = c.put_output.new.net in
    let n2 = c.put_columns.new.net in
    let n3 = c.put_output-2.new.net in
    let n4 = c.put_output-3.new.net in
    let n5 = c.put_output-4.new.net in
    extends_then n0 n1 n5 c.in_ok-put_output.ensures.extends
    (extends_then n1 n2 n5 c.in_ok-put_columns.ensures.extends
    (extends_then n2 n3 n5 c.in_ok-put_output-2.ensures.extends
    (extends_then n3 n4 n5 c.in_ok-put_output-3.ensures.extends c.in_ok-put_output-4.ensures.extends)))

pub returns-clause-ports : goal.returns-clause-ports
unfolding out_valid out_eos fault_group fault_queue
returns-clause-ports c =
    let n0 = c.args.net.now in
    let n1 = c.put_output.new.net in
    let n2 = c.put_columns.new.net in
    let n3 = c.put_output-2.new.net in
    let n4 = c.put_output-3.new.net in
    let n5 = c.put_output-4.new.net in
    let names = c.args.names.now in
    let naming : Naming = naming_of c.args.face.now in
    let columns = c.args.wire.now.columns in
    output_puts naming n0 n1 n2 n3 n4 n5 (widths columns) names
    (puts_named n0 n1 _ (naming out_valid) _ 1 (c.deref.ensures.value ∙ c.in_ok-valid_name.ensures) c.bus.ensures.width c.in_ok-put_output.ensures.ports)
    (subst (λ (bs : List Bus). Puts n1 n2 (column_outputs naming (widths bs) names)) c.as_slice-columns.ensures c.in_ok-put_columns.ensures.ports)
    (puts_named n2 n3 _ (naming out_eos) _ 1 (c.deref-2.ensures.value ∙ c.in_ok-end_name.ensures) c.bus-2.ensures.width c.in_ok-put_output-2.ensures.ports)
    (puts_named n3 n4 _ (naming fault_group) _ 1 (c.deref-3.ensures.value ∙ c.in_ok-group_name.ensures) c.bus-3.ensures.width c.in_ok-put_output-3.ensures.ports)
    (puts_named n4 n5 _ (naming fault_queue) _ 1 (c.deref-4.ensures.value ∙ c.in_ok-queue_name.ensures) c.bus-4.ensures.width c.in_ok-put_output-4.ensures.ports)

pub returns-clause-shows : goal.returns-clause-shows
unfolding out_valid out_eos fault_group fault_queue
returns-clause-shows c =
    let n1 = c.put_output.new.net in
    let n2 = c.put_columns.new.net in
    let n3 = c.put_output-2.new.net in
    let n4 = c.put_output-3.new.net in
    let n5 = c.put_output-4.new.net in
    let names = c.args.names.now in
    let naming : Naming = naming_of c.args.face.now in
    let columns = c.args.wire.now.columns in
    let x45 = c.in_ok-put_output-4.ensures.extends in
    let x35 : Extends n3 n5 = extends_then n3 n4 n5 c.in_ok-put_output-3.ensures.extends x45 in
    let x25 : Extends n2 n5 = extends_then n2 n3 n5 c.in_ok-put_output-2.ensures.extends x35 in
    let x15 : Extends n1 n5 = extends_then n1 n2 n5 c.in_ok-put_columns.ensures.extends x25 in
    record {
      valid = x15.ports Out (naming out_valid) _
          (port_named n1 _ (naming out_valid) _ _ (c.deref.ensures.value ∙ c.in_ok-valid_name.ensures) c.bus.ensures.node c.in_ok-put_output.ensures.port);
      columns = shown_stay naming n2 n5 names columns x25 (subst (AreShown naming n2 names) c.as_slice-columns.ensures c.in_ok-put_columns.ensures.shown);
      end = x35.ports Out (naming out_eos) _
          (port_named n3 _ (naming out_eos) _ _ (c.deref-2.ensures.value ∙ c.in_ok-end_name.ensures) c.bus-2.ensures.node c.in_ok-put_output-2.ensures.port);
      group' = x45.ports Out (naming fault_group) _
          (port_named n4 _ (naming fault_group) _ _ (c.deref-3.ensures.value ∙ c.in_ok-group_name.ensures) c.bus-3.ensures.node c.in_ok-put_output-3.ensures.port);
      queue' = port_named n5 _ (naming fault_queue) _ _ (c.deref-4.ensures.value ∙ c.in_ok-queue_name.ensures) c.bus-4.ensures.node c.in_ok-put_output-4.ensures.port;
    }
