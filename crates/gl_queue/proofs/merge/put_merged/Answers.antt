use Rattle.std.proofs.Common.{ℕ, List, sym, ap, ◌∙◌, arith, length, subst}
use Rattle.gl_net.specs.declared.node.Bus.{Bus}
use Rattle.gl_net.specs.Net.{Keeps}
use Rattle.gl_net.proofs.Determined.{keeps_then}
use Rattle.gl_wire.specs.Wire.{AreBuses, widths}
use Rattle.gl_wire.proofs.ColumnLemmas.{buses_kept, wire_kept}
use Rattle.gl_wire.proofs.GateLemmas.{never_line}
use Rattle.gl_queue.specs.Costs.{cost_of_queue}
use Rattle.gl_queue.specs.MergeLines.{AreChosenOf}
use Rattle.gl_queue.proofs.MergeLinesLemmas.{merging_is}
use Rattle.gl_queue.proofs.merge.put_merged.Goals as goal

pub put_rows-requires-clause-wire : goal.put_rows-requires-clause-wire
put_rows-requires-clause-wire c = wire_kept _ _ _ c.in_ok-never.ensures.keeps c.requires.left

pub put_rows-requires-2-clause-wire : goal.put_rows-requires-2-clause-wire
put_rows-requires-2-clause-wire c = wire_kept _ _ _ c.in_ok-first.ensures.keeps (wire_kept _ _ _ c.in_ok-never.ensures.keeps c.requires.right)

pub choose_all-requires-clause-yes : goal.choose_all-requires-clause-yes
choose_all-requires-clause-yes c =
    subst (AreBuses c.either.new.net) (sym c.as_slice.ensures)
    (buses_kept _ _ _ c.in_ok-valid.ensures.keeps (buses_kept _ _ _ c.in_ok-second.ensures.keeps c.in_ok-first.ensures.buses))

pub choose_all-requires-clause-no : goal.choose_all-requires-clause-no
choose_all-requires-clause-no c = subst (AreBuses c.either.new.net) (sym c.as_slice-2.ensures) (buses_kept _ _ _ c.in_ok-valid.ensures.keeps c.in_ok-second.ensures.buses)

pub choose_all-requires-clause-widths : goal.choose_all-requires-clause-widths
choose_all-requires-clause-widths c =
    ap widths c.as_slice.ensures ∙ c.in_ok-first.ensures.same_widths ∙ c.requires.widths ∙ sym (ap widths c.as_slice-2.ensures ∙ c.in_ok-second.ensures.same_widths)

pub returns : goal.returns
returns c =
    let a = c.args.left.now in
    let b = c.args.right.now in
    let n = c.args.left_depth in
    let m = c.args.right_depth in
    let q = c.in_ok-first.first in
    let p = c.in_ok-second.second in
    let hold = c.bit-hold.result in
    let outs = c.in_ok-columns.columns in
    let never = c.in_ok-never.ensures in
    let first = c.in_ok-first.ensures in
    let second = c.in_ok-second.ensures in
    let valid = c.in_ok-valid.ensures in
    let chosen : AreChosenOf c.either.new.net c.choose_all.new.net q.some q.columns p.columns outs =
    subst (λ (bs : List Bus). AreChosenOf c.either.new.net c.choose_all.new.net q.some bs p.columns outs) c.as_slice.ensures
    (subst (λ (bs : List Bus). AreChosenOf c.either.new.net c.choose_all.new.net q.some c.as_slice.result.now bs outs) c.as_slice-2.ensures c.in_ok-columns.ensures) in
    let eos = c.in_ok-eos.ensures in
    let passed = c.in_ok-passed.ensures in
    let behind_valid : Keeps c.either.new.net c.either-2.new.net = keeps_then _ c.choose_all.new.net _ chosen.keeps (keeps_then _ c.put_end.new.net _ eos.keeps passed.keeps) in
    let behind_first : Keeps c.put_rows.new.net c.either-2.new.net = keeps_then _ c.put_rows-2.new.net _ second.keeps (keeps_then _ c.either.new.net _ valid.keeps behind_valid) in
    let wide = ap length first.same_widths in
    let same = c.requires.widths in
    let two_nodes = ap (λ (ws : List ℕ). (cost_of_queue m ws).nodes) same in
    let two_registers = ap (λ (ws : List ℕ). (cost_of_queue m ws).registers) same in
    let two_memories = ap (λ (ws : List ℕ). (cost_of_queue m ws).memories) same in
    record {
      keeps = keeps_then c.args.net.now c.constant.new.self _ never.keeps (keeps_then _ c.put_rows.new.net _ first.keeps behind_first);
      cost = record {
        nodes = omega (arith, never.size, first.cost.nodes, second.cost.nodes, valid.cost.nodes, chosen.cost.nodes, eos.cost.nodes, passed.cost.nodes, wide, two_nodes);
        registers = omega (arith, never.register_bits, first.cost.registers, second.cost.registers, valid.cost.registers, chosen.cost.registers, eos.cost.registers, passed.cost.registers, two_registers);
        memories = omega (arith, never.memory_bits, first.cost.memories, second.cost.memories, valid.cost.memories, chosen.cost.memories, eos.cost.memories, passed.cost.memories, two_memories);
      };
      wire = record {
        valid = record { there = behind_valid.shapes _ _ valid.bit.there };
        eos = record { there = passed.keeps.shapes _ _ eos.bit.there };
        columns = buses_kept _ _ _ passed.keeps (buses_kept _ _ _ eos.keeps chosen.buses);
      };
      same_widths = chosen.same_widths ∙ first.same_widths;
      passed = passed.bit;
      merging = λ run r.
          let at_eos = passed.keeps.runs run r in
          let at_columns = eos.keeps.runs run at_eos in
          let at_valid = chosen.keeps.runs run at_columns in
          let at_second = valid.keeps.runs run at_valid in
          let at_first = second.keeps.runs run at_second in
          let at_never = first.keeps.runs run at_first in
          merging_is run n m a b (record { valid = c.in_ok-valid.valid; eos = c.in_ok-eos.eos; columns = outs }) hold q.some p.some q.passed p.passed c.in_ok-passed.passed q.columns p.columns
          (never_line run hold (λ t. ap (run.at t) c.bit-hold.ensures ∙ never.value run at_never t ∙ c.word.ensures.bits))
          (first.queue run at_first) (second.queue run at_second) (valid.line run at_valid) (chosen.chosen run at_columns) (eos.waits run at_eos) (passed.line run r);
    }
