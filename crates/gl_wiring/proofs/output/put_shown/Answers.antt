use Rattle.std.proofs.Common.{ℕ, List, [], subst}
use Rattle.gl_net.specs.Net.{Keeps}
use Rattle.gl_net.proofs.Determined.{keeps_then}
use Rattle.gl_wire.proofs.ColumnLemmas.{wire_kept}
use Rattle.gl_wire.specs.Wire.{widths}
use Rattle.gl_wiring.specs.Emitted.{Puts}
use Rattle.gl_wiring.specs.Naming.{naming_of}
use Rattle.gl_wiring.specs.Output.{result_outputs}
use Rattle.gl_wiring.proofs.Inputs.{extends_then}
use Rattle.gl_wiring.proofs.OutputLemmas.{keeps_extends, keeps_puts}
use Rattle.gl_wiring.proofs.Shapes.{puts_then}
use Rattle.gl_wiring.proofs.output.put_shown.Goals as goal

pub put_ports-requires-clause-wire : goal.put_ports-requires-clause-wire
put_ports-requires-clause-wire c =
    let stage = c.later_wire.new.net in
    let queued = c.put_queue.new.net in
    let lines : Keeps stage queued = keeps_then stage c.put_group.new.net queued c.in_ok-group.ensures.keeps c.in_ok-queue.ensures.keeps in
    wire_kept stage queued c.in_ok-wire.wire lines c.in_ok-wire.ensures.wire

pub returns-clause-extends : goal.returns-clause-extends
returns-clause-extends c = rw c.note_output.ensures (
    let old = c.args.net.now in
    let stage = c.later_wire.new.net in
    let queued = c.put_queue.new.net in
    let lines : Keeps stage queued = keeps_then stage c.put_group.new.net queued c.in_ok-group.ensures.keeps c.in_ok-queue.ensures.keeps in
    let all : Keeps old queued = keeps_then old stage queued c.in_ok-wire.ensures.keeps lines in
    extends_then old queued c.put_ports.new.net (keeps_extends old queued all) c.in_ok-put_ports.ensures.extends)

pub returns-clause-ports : goal.returns-clause-ports
returns-clause-ports c = rw c.note_output.ensures (
    let old = c.args.net.now in
    let stage = c.later_wire.new.net in
    let queued = c.put_queue.new.net in
    let new = c.put_ports.new.net in
    let names = c.args.names.now in
    let ws = widths c.args.below.now.wire.columns in
    let lines : Keeps stage queued = keeps_then stage c.put_group.new.net queued c.in_ok-group.ensures.keeps c.in_ok-queue.ensures.keeps in
    let all : Keeps old queued = keeps_then old stage queued c.in_ok-wire.ensures.keeps lines in
    let naming = naming_of c.args.face.now in
    let shown : Puts queued new (result_outputs naming ws names) =
    subst (λ (x : List ℕ). Puts queued new (result_outputs naming x names)) c.in_ok-wire.ensures.same_widths c.in_ok-put_ports.ensures.ports in
    puts_then old queued new [] (result_outputs naming ws names) (keeps_puts old queued all) shown)
