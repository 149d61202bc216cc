use Rattle.std.proofs.Common.{List, subst}
use Rattle.gl_net.specs.declared.node.Bus.{Bus}
use Rattle.gl_wire.specs.Stages.{IsPad}
use Rattle.gl_wire.specs.Wire.{widths, wire_of}
use Rattle.gl_wire_registers.proofs.BackLemmas.{joins_copies}
use Rattle.gl_wire_registers.proofs.back.join_copies.Goals as goal

pub returns : goal.returns
returns c =
    let m = c.in_ok-merged.merged in
    joins_copies c.args.net.now c.merge_all.new.net c.stage.new.net c.args.wires.now c.args.close (widths c.args.columns.now) m c.in_ok-joined.joined c.in_ok-merged.ensures
    (subst (λ (bs : List Bus). IsPad c.merge_all.new.net c.stage.new.net 1 (wire_of m.valid c.args.close bs) c.in_ok-joined.joined) c.as_slice.ensures c.in_ok-joined.ensures)
