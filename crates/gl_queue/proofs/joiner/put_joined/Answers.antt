use Rattle.std.proofs.Common.{◌≡◌, ℕ, ◌+◌, List, ◌++◌, length, sym, ap, ◌∙◌, arith, subst, length-append}
use Rattle.std.specs.List.{sum}
use Rattle.std.proofs.lemmas.List.Sums.{sum_by-append}
use Rattle.gl_net.specs.declared.node.Bus.{Bus}
use Rattle.gl_net.specs.Net.{Keeps}
use Rattle.gl_net.proofs.Determined.{keeps_then}
use Rattle.gl_wire.specs.Stages.{IsPad}
use Rattle.gl_wire.specs.Wire.{AreBuses, widths, wire_of}
use Rattle.gl_wire.proofs.ColumnLemmas.{AreBuses-append, buses_kept, widths-append}
use Rattle.gl_queue.specs.JoinLines.{AreKept}
use Rattle.gl_queue.proofs.JoinLinesLemmas.{joiner_is}
use Rattle.gl_queue.proofs.joiner.put_joined.Goals as goal

pub put_row-requires-clause-columns : goal.put_row-requires-clause-columns
put_row-requires-clause-columns c = subst (AreBuses c.put_waiting.new.net) (sym c.as_slice.ensures) (buses_kept _ _ _ c.in_ok-now.ensures.keeps c.requires.left.columns)

pub put_row-requires-2-clause-columns : goal.put_row-requires-2-clause-columns
put_row-requires-2-clause-columns c =
    subst (AreBuses c.put_row.new.net) (sym c.as_slice-2.ensures) (buses_kept _ _ _ c.in_ok-first.ensures.keeps (buses_kept _ _ _ c.in_ok-now.ensures.keeps c.requires.right.columns))

pub stage-requires-clause-columns : goal.stage-requires-clause-columns
stage-requires-clause-columns c =
    subst (AreBuses c.put_row-2.new.net) (sym (c.as_slice-4.ensures ∙ c.in_ok-columns.ensures ∙ ap (λ (bs : List Bus). c.in_ok-first.first ++ bs) c.as_slice-3.ensures))
    (AreBuses-append c.put_row-2.new.net _ _ (buses_kept c.put_row.new.net c.put_row-2.new.net _ c.in_ok-second.ensures.keeps c.in_ok-first.ensures.buses) c.in_ok-second.ensures.buses)

pub returns : goal.returns
returns c =
    let a = c.args.left.now in
    let b = c.args.right.now in
    let now = c.in_ok-now.ensures in
    let rows_a = c.in_ok-first.first in
    let rows_b = c.in_ok-second.second in
    let first : AreKept c.put_waiting.new.net c.put_row.new.net a.valid a.columns rows_a =
    subst (λ (bs : List Bus). AreKept c.put_waiting.new.net c.put_row.new.net a.valid bs rows_a) c.as_slice.ensures c.in_ok-first.ensures in
    let second : AreKept c.put_row.new.net c.put_row-2.new.net b.valid b.columns rows_b =
    subst (λ (bs : List Bus). AreKept c.put_row.new.net c.put_row-2.new.net b.valid bs rows_b) c.as_slice-2.ensures c.in_ok-second.ensures in
    let all : c.as_slice-4.result.now ≡ rows_a ++ rows_b = c.as_slice-4.ensures ∙ c.in_ok-columns.ensures ∙ ap (λ (bs : List Bus). rows_a ++ bs) c.as_slice-3.ensures in
    let staged : IsPad c.put_row-2.new.net c.stage.new.net 1 (wire_of c.in_ok-now.now c.in_ok-now.now (rows_a ++ rows_b)) c.in_ok-wire.wire =
    subst (λ (bs : List Bus). IsPad c.put_row-2.new.net c.stage.new.net 1 (wire_of c.in_ok-now.now c.in_ok-now.now bs) c.in_ok-wire.wire) all c.in_ok-wire.ensures in
    let both : widths (rows_a ++ rows_b) ≡ widths a.columns ++ widths b.columns =
    widths-append rows_a rows_b ∙ ap (λ (ws : List ℕ). ws ++ widths rows_b) first.same_widths ∙ ap (λ (ws : List ℕ). widths a.columns ++ ws) second.same_widths in
    let long : length (widths (rows_a ++ rows_b)) ≡ length (widths a.columns) + length (widths b.columns) = ap length both ∙ length-append (widths a.columns) (widths b.columns) in
    let wide : sum (widths (rows_a ++ rows_b)) ≡ sum (widths a.columns) + sum (widths b.columns) = ap sum both ∙ sum_by-append (λ (x : ℕ). x) (widths a.columns) (widths b.columns) in
    let behind_first : Keeps c.put_row.new.net c.stage.new.net = keeps_then _ c.put_row-2.new.net _ second.keeps staged.keeps in
    record {
      keeps = keeps_then c.args.net.now c.put_waiting.new.net _ now.keeps (keeps_then _ c.put_row.new.net _ first.keeps behind_first);
      cost = record {
        nodes = omega (arith, now.cost.nodes, first.cost.nodes, second.cost.nodes, staged.cost.nodes, long);
        registers = omega (arith, now.cost.registers, first.cost.registers, second.cost.registers, staged.cost.registers, wide);
        memories = omega (arith, now.cost.memories, first.cost.memories, second.cost.memories, staged.cost.memories);
      };
      wire = staged.wire;
      same_widths = staged.same_widths ∙ both;
      joins = λ run r.
          let at_second = staged.keeps.runs run r in
          let at_first = second.keeps.runs run at_second in
          let at_now = first.keeps.runs run at_first in
          joiner_is run a b c.in_ok-wire.wire c.in_ok-now.now rows_a rows_b (now.waits run at_now) (first.row run at_first) (second.row run at_second) (staged.delayed run r);
    }
