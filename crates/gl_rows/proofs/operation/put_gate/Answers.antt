use Rattle.std.proofs.Common.{ℕ, arith, ap, sym, subst, ◌∙◌}
use Rattle.gl_net.specs.declared.node.BinaryOp.{BinaryOp}
use Rattle.gl_net.specs.Builds.{IsBinary}
use Rattle.gl_net.specs.Net.{binary_of, binary_width}
use Rattle.gl_rows.specs.Gates.{gate_of}
use Rattle.gl_rows.proofs.OperatorNet.{gated_around, gated_plain}
use Rattle.gl_rows.proofs.operation.put_gate.Goals as goal

pub returns-then-is_turned : goal.returns-then-is_turned
returns-then-is_turned c =
    let gate = c.in_ok-bus.ensures in
    let op = c.args.op in
    let left = c.args.left in
    let right = c.args.right in
    let value = subst (λ (g : BinaryOp). IsBinary c.binary.new.self g right left c.in_ok-bus.bus) c.gate_of.ensures gate.value in
    record {
      keeps = gate.keeps;
      cost = record { nodes = omega (arith, gate.size); registers = omega (arith, gate.register_bits); memories = omega (arith, gate.memory_bits) };
      bus = gate.bus;
      same_width = gate.width ∙ ap (λ (g : BinaryOp). binary_width g right.width) c.gate_of.ensures ∙ ap (binary_width (gate_of op)) (sym c.requires.widths);
      carries = λ run r t.
          value run r t ∙ ap (λ (w : ℕ). binary_of (gate_of op) w (run.at t right.node) (run.at t left.node)) (sym c.requires.widths)
          ∙ gated_around op left.width (run.at t left.node) (run.at t right.node) (sym c.is_turned.ensures ∙ c.if-is_turned.true);
    }

pub returns : goal.returns
returns c =
    let gate = c.in_ok-bus-2.ensures in
    let op = c.args.op in
    let left = c.args.left in
    let right = c.args.right in
    let value = subst (λ (g : BinaryOp). IsBinary c.binary-2.new.self g left right c.in_ok-bus-2.bus) c.gate_of-2.ensures gate.value in
    record {
      keeps = gate.keeps;
      cost = record { nodes = omega (arith, gate.size); registers = omega (arith, gate.register_bits); memories = omega (arith, gate.memory_bits) };
      bus = gate.bus;
      same_width = gate.width ∙ ap (λ (g : BinaryOp). binary_width g left.width) c.gate_of-2.ensures;
      carries = λ run r t.
          value run r t ∙ gated_plain op left.width (run.at t left.node) (run.at t right.node) (sym c.is_turned.ensures ∙ c.if-is_turned.false);
    }
