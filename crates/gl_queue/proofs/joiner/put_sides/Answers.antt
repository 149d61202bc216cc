use Rattle.std.proofs.Common.{◌≡◌, List, ◌++◌, Bool, true, false, sym, ap, ◌∙◌, arith, subst}
use Rattle.gl_net.specs.declared.node.Bus.{Bus}
use Rattle.gl_net.proofs.Growth.{same_keeps}
use Rattle.gl_wire.specs.declared.wire.Wire.{Wire}
use Rattle.gl_wire.specs.Wire.{wire_of}
use Rattle.gl_wire.proofs.ColumnLemmas.{AreBuses-append, widths-append}
use Rattle.gl_queue.specs.JoinLines.{AreSides}
use Rattle.gl_queue.proofs.BesideNet.{follows, is_beside}
use Rattle.gl_queue.proofs.joiner.put_sides.Goals as goal

pub returns-in_ok-side_by_side : goal.returns-in_ok-side_by_side
returns-in_ok-side_by_side c =
    let net = c.args.net.now in
    let a = c.args.left in
    let b = c.args.right in
    let w : Wire = wire_of a.valid a.eos (a.columns ++ b.columns) in
    let is : c.in_ok-side_by_side.side_by_side ≡ w = c.in_ok-side_by_side.ensures ∙ ap (λ (bs : List Bus). wire_of a.valid a.eos (a.columns ++ bs)) c.as_slice.ensures in
    let sides : AreSides net net true a b w =
    record {
      keeps = same_keeps net;
      cost = record { nodes = omega arith; registers = omega arith; memories = omega arith };
      wire = record { valid = c.requires.left.valid; eos = c.requires.left.eos; columns = AreBuses-append net a.columns b.columns c.requires.left.columns c.requires.right.columns };
      same_widths = widths-append a.columns b.columns;
      joins = λ run r. (is_beside run a b, follows run a b);
    } in
    subst (λ (x : Bool). AreSides net net x a b c.in_ok-side_by_side.side_by_side) (sym c.if-in_step.true) (subst (λ (v : Wire). AreSides net net true a b v) (sym is) sides)

pub returns-in_ok-joined : goal.returns-in_ok-joined
returns-in_ok-joined c =
    let new = c.put_joined.new.net in
    let j = c.in_ok-joined.ensures in
    let sides : AreSides c.args.net.now new false c.args.left c.args.right c.in_ok-joined.joined =
    record {
      keeps = j.keeps;
      cost = record { nodes = omega (arith, j.cost.nodes); registers = omega (arith, j.cost.registers); memories = omega (arith, j.cost.memories) };
      wire = j.wire;
      same_widths = j.same_widths;
      joins = λ run r. j.joins run r;
    } in
    subst (λ (x : Bool). AreSides c.args.net.now new x c.args.left c.args.right c.in_ok-joined.joined) (sym c.if-in_step.false) sides
