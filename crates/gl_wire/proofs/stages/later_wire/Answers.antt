use Rattle.std.proofs.Common.{List, subst}
use Rattle.gl_net.specs.declared.node.Bus.{Bus}
use Rattle.gl_wire.specs.Wire.{wire_of}
use Rattle.gl_wire.specs.Stages.{IsPad}
use Rattle.gl_wire.proofs.stages.later_wire.Goals as goal

pub returns : goal.returns
returns c =
    let wire = c.args.wire.now in
    subst (λ (bs : List Bus). IsPad c.args.net.now c.stage.new.net 1 (wire_of wire.valid wire.eos bs) c.in_ok-later.later) c.as_slice.ensures c.in_ok-later.ensures
