use Rattle.std.proofs.Common.{Bool, true, suc, ap, arith, ◌∙◌}
use Rattle.std.specs.Prelude.{if◌then◌else◌, not, ◌&&◌}
use Rattle.gl_bits.specs.Words.{choose_of}
use Rattle.gl_net.specs.Net.{Keeps}
use Rattle.gl_net.proofs.Determined.{keeps_then}
use Rattle.gl_wire.specs.Wire.{line_at}
use Rattle.gl_wire.proofs.GateLemmas.{bit_of}
use Rattle.gl_totals.proofs.ExtremeNet.{line_chosen, value_taken}
use Rattle.gl_totals.proofs.FoldNet.{bit_line}
use Rattle.gl_totals.proofs.extreme.put_pick.Goals as goal

pub returns : goal.returns
returns c =
    let new = c.choose.new.self in
    let wins = c.in_ok-wins.ensures in
    let one = c.in_ok-one.ensures in
    let loses = c.in_ok-loses.ensures in
    let word = c.in_ok-word.ensures in
    let value = c.in_ok-value.ensures in
    let behind_one : Keeps c.constant.new.self new = keeps_then _ c.but_not.new.net _ loses.keeps (keeps_then _ c.both-2.new.net _ word.keeps value.keeps) in
    let behind : Keeps c.both.new.net new = keeps_then _ c.constant.new.self new one.keeps behind_one in
    record {
      keeps = keeps_then _ c.both.new.net new wins.keeps behind;
      cost = record {
        nodes = omega (arith, wins.cost.nodes, one.size, loses.cost.nodes, word.cost.nodes, value.size);
        registers = omega (arith, wins.cost.registers, one.register_bits, loses.cost.registers, word.cost.registers, value.register_bits);
        memories = omega (arith, wins.cost.memories, one.memory_bits, loses.cost.memories, word.cost.memories, value.memory_bits);
      };
      value = bit_of new c.in_ok-value.value c.bit-2.result value.bus (value.width ∙ c.bus.ensures.width) c.bit-2.ensures;
      word = record { there = value.keeps.shapes _ _ word.bit.there };
      takes = λ run r t.
          line_chosen run c.args.counts c.in_ok-wins.wins c.args.valid c.bit-2.result t
          (ap (run.at (suc t)) c.bit-2.ensures ∙ value.value run r (suc t)
          ∙ ap (λ n. choose_of (run.at (suc t) c.args.counts.node) (run.at (suc t) n) (run.at (suc t) c.bus-2.result.node)) c.bus.ensures.node
          ∙ ap (λ n. choose_of (run.at (suc t) c.args.counts.node) (run.at (suc t) c.in_ok-wins.wins.node) (run.at (suc t) n)) c.bus-2.ensures.node)
          ∙ ap (λ (b : Bool). if line_at run c.args.counts (suc t) then b else line_at run c.args.valid (suc t)) (wins.line run (behind.runs run r) (suc t))
          ∙ value_taken (line_at run c.args.counts (suc t)) (line_at run c.args.valid (suc t)) (line_at run c.args.better (suc t));
      holds = λ run r t.
          let at_word = value.keeps.runs run r in
          let at_loses = word.keeps.runs run at_word in
          let high = bit_line run c.bit.result t true (ap (run.at (suc t)) c.bit.ensures ∙ one.value run (behind_one.runs run r) (suc t) ∙ c.small_word.ensures.bits) in
          word.line run at_word (suc t)
          ∙ ap (λ (b : Bool). line_at run c.args.counts (suc t) && b)
          (loses.line run at_loses (suc t) ∙ ap (λ (b : Bool). b && not (line_at run c.in_ok-wins.wins (suc t))) high
          ∙ ap not (wins.line run (behind.runs run r) (suc t)));
    }
