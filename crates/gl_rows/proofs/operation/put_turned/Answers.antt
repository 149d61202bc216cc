use Rattle.std.proofs.Common.{ℕ, arith, ap, ◌∙◌}
use Rattle.std.specs.Prelude.{bit_xor}
use Rattle.gl_net.proofs.Determined.{keeps_then}
use Rattle.gl_net.specs.Net.{binary_width}
use Rattle.gl_wire.proofs.ColumnLemmas.{bus_kept}
use Rattle.gl_rows.specs.Gates.{gate_of, gated, top_turned}
use Rattle.gl_rows.proofs.operation.put_turned.Goals as goal

pub binary-requires-2-clause-left : goal.binary-requires-2-clause-left
binary-requires-2-clause-left c =
    bus_kept c.constant.new.self c.binary.new.self c.args.right c.in_ok-first.ensures.keeps (bus_kept c.args.net.now c.constant.new.self c.args.right c.in_ok-top.ensures.keeps c.requires.right)

pub put_gate-requires-clause-left : goal.put_gate-requires-clause-left
put_gate-requires-clause-left c = bus_kept c.binary.new.self c.binary-2.new.self c.in_ok-first.first c.in_ok-second.ensures.keeps c.in_ok-first.ensures.bus

pub returns : goal.returns
returns c =
    let new = c.put_gate.new.net in
    let op = c.args.op in
    let left = c.args.left in
    let right = c.args.right in
    let top = c.in_ok-top.ensures in
    let first = c.in_ok-first.ensures in
    let second = c.in_ok-second.ensures in
    let out = c.in_ok-bus.ensures in
    record {
      keeps = keeps_then c.args.net.now c.constant.new.self new top.keeps (keeps_then c.constant.new.self c.binary.new.self new first.keeps
          (keeps_then c.binary.new.self c.binary-2.new.self new second.keeps out.keeps));
      cost = record {
        nodes = omega (arith, top.size, first.size, second.size, out.cost.nodes);
        registers = omega (arith, top.register_bits, first.register_bits, second.register_bits, out.cost.registers);
        memories = omega (arith, top.memory_bits, first.memory_bits, second.memory_bits, out.cost.memories);
      };
      bus = out.bus;
      same_width = out.same_width ∙ ap (binary_width (gate_of op)) first.width;
      carries = λ run r t.
          let at_second = out.keeps.runs run r in
          let at_first = second.keeps.runs run at_second in
          let at_top = first.keeps.runs run at_first in
          let turns = top.value run at_top t ∙ c.top_word.ensures.bits in
          out.carries run r t ∙ ap (λ (w : ℕ). gated op w (run.at t c.in_ok-first.first.node) (run.at t c.in_ok-second.second.node)) first.width
          ∙ ap (λ (n : ℕ). gated op left.width n (run.at t c.in_ok-second.second.node))
          (first.value run at_first t ∙ ap (bit_xor (run.at t left.node)) turns)
          ∙ ap (gated op left.width (top_turned left.width (run.at t left.node)))
          (second.value run at_second t ∙ ap (bit_xor (run.at t right.node)) turns);
    }
