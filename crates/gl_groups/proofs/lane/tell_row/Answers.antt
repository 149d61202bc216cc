use Rattle.std.proofs.Common.{Bool, ap, arith, ◌∙◌}
use Rattle.std.specs.Prelude.{not, ◌&&◌, ◌||◌, if◌then◌else◌}
use Rattle.gl_net.specs.Net.{Keeps}
use Rattle.gl_net.proofs.Determined.{keeps_then}
use Rattle.gl_wire.specs.Wire.{line_at}
use Rattle.gl_wire.proofs.ColumnLemmas.{bit_kept}
use Rattle.gl_wire_registers.specs.Lines.{line_of}
use Rattle.gl_slots.specs.Choices.{chosen}
use Rattle.gl_groups.specs.Lanes.{head_line, row_line}
use Rattle.gl_groups.proofs.ToldNet.{first_bit, first_line, same_where}
use Rattle.gl_groups.proofs.lane.tell_row.Goals as goal

pub choose_bit-requires-clause-yes : goal.choose_bit-requires-clause-yes
choose_bit-requires-clause-yes c =
    let behind : Keeps c.args.net.now c.when_equal.new.net =
    keeps_then c.args.net.now c.but_not.new.net c.when_equal.new.net c.in_ok-alone.ensures.keeps (keeps_then c.but_not.new.net c.but_not-2.new.net c.when_equal.new.net c.in_ok-plain.ensures.keeps c.in_ok-before.ensures.keeps) in
    bit_kept c.args.net.now c.when_equal.new.net _ behind
    (first_bit c.args.net.now c.args.sought.now.hits c.as_slice.result.now c.as_slice.ensures (omega (arith, c.requires.some, c.requires.sought.1.hits_count)) c.requires.sought.1.hits)

pub but_not-requires-3-clause-left : goal.but_not-requires-3-clause-left
but_not-requires-3-clause-left c =
    let at_before : Keeps c.but_not-2.new.net c.choose_bit.new.net = keeps_then c.but_not-2.new.net c.when_equal.new.net c.choose_bit.new.net c.in_ok-before.ensures.keeps c.in_ok-head.ensures.keeps in
    let behind : Keeps c.args.net.now c.choose_bit.new.net =
    keeps_then c.args.net.now c.but_not.new.net c.choose_bit.new.net c.in_ok-alone.ensures.keeps (keeps_then c.but_not.new.net c.but_not-2.new.net c.choose_bit.new.net c.in_ok-plain.ensures.keeps at_before) in
    bit_kept c.args.net.now c.choose_bit.new.net _ behind (first_bit c.args.net.now c.args.sought.now.kept c.as_slice-2.result.now c.as_slice-2.ensures c.requires.some c.requires.sought.1.kept)

pub returns : goal.returns
unfolding row_line chosen
returns c =
    let alone = c.in_ok-alone.ensures in
    let plain = c.in_ok-plain.ensures in
    let before = c.in_ok-before.ensures in
    let head = c.in_ok-head.ensures in
    let missed = c.in_ok-missed.ensures in
    let first = c.in_ok-first.ensures in
    let turn = c.in_ok-turn.ensures in
    let there = c.in_ok-there.ensures in
    let rests = c.in_ok-rests.ensures in
    let tail = c.in_ok-tail.ensures in
    let came = c.in_ok-came.ensures in
    let row = c.in_ok-row.ensures in
    let last = c.either-2.new.net in
    let k_tail = keeps_then c.both-3.new.net c.either.new.net last came.keeps row.keeps in
    let k_rests = keeps_then c.both-2.new.net c.both-3.new.net last tail.keeps k_tail in
    let k_there = keeps_then c.both.new.net c.both-2.new.net last rests.keeps k_rests in
    let k_turn = keeps_then c.same.new.net c.both.new.net last there.keeps k_there in
    let k_first = keeps_then c.but_not-4.new.net c.same.new.net last turn.keeps k_turn in
    let k_missed = keeps_then c.but_not-3.new.net c.but_not-4.new.net last first.keeps k_first in
    let k_head = keeps_then c.choose_bit.new.net c.but_not-3.new.net last missed.keeps k_missed in
    let k_before = keeps_then c.when_equal.new.net c.choose_bit.new.net last head.keeps k_head in
    let k_plain = keeps_then c.but_not-2.new.net c.when_equal.new.net last before.keeps k_before in
    record {
      keeps = keeps_then c.args.net.now c.but_not.new.net last alone.keeps (keeps_then c.but_not.new.net c.but_not-2.new.net last plain.keeps k_plain);
      bit = row.bit;
      cost = record {
        nodes = omega (arith, alone.cost.nodes, plain.cost.nodes, before.cost.nodes, head.cost.nodes, missed.cost.nodes, first.cost.nodes, turn.cost.nodes, there.cost.nodes, rests.cost.nodes, tail.cost.nodes, came.cost.nodes, row.cost.nodes);
        registers = omega (arith, alone.cost.registers, plain.cost.registers, before.cost.registers, head.cost.registers, missed.cost.registers, first.cost.registers, turn.cost.registers, there.cost.registers, rests.cost.registers, tail.cost.registers, came.cost.registers, row.cost.registers);
        memories = omega (arith, alone.cost.memories, plain.cost.memories, before.cost.memories, head.cost.memories, missed.cost.memories, first.cost.memories, turn.cost.memories, there.cost.memories, rests.cost.memories, tail.cost.memories, came.cost.memories, row.cost.memories);
      };
      line = λ run z t.
          let w = c.args.late.now in
          let u = c.args.turns.now in
          let r = c.args.sought.now in
          let plain_is = plain.line run (k_plain.runs run z) t
          ∙ ap (λ (b : Bool). b && not (line_at run r.passes t)) (alone.line run (plain.keeps.runs run (k_plain.runs run z)) t) in
          let head_is = head.line run (k_head.runs run z) t
          ∙ ap (λ (b : Bool). if line_at run r.moved t then b else line_at run c.in_ok-before.before t) (first_line run r.hits c.as_slice.result.now c.as_slice.ensures (omega (arith, c.requires.some, c.requires.sought.1.hits_count)) t)
          ∙ ap (λ (b : Bool). if line_at run r.moved t then line_of run r.hits 0 t else b) (before.line run (k_before.runs run z) 0 t) in
          let missed_is = missed.line run (k_missed.runs run z) t
          ∙ ap (λ (b : Bool). b && not (line_at run c.in_ok-head.head t)) (first_line run r.kept c.as_slice-2.result.now c.as_slice-2.ensures c.requires.some t)
          ∙ ap (λ (b : Bool). line_of run r.kept 0 t && not b) head_is in
          let first_is = first.line run (k_first.runs run z) t ∙ ap (λ (b : Bool). line_at run u.with_end t && not b) missed_is in
          let there_is = there.line run (k_there.runs run z) t ∙ ap (λ (b : Bool). line_at run r.one.had t && b) (turn.line run (k_turn.runs run z) t)
          ∙ same_where run r.one.had r.place.home u.over t in
          let tail_is = tail.line run (k_tail.runs run z) t
          ∙ ap (λ (b : Bool). b && line_at run c.in_ok-there.there t) (rests.line run (k_rests.runs run z) t)
          ∙ ap (λ (b : Bool). (line_at run u.due t && line_at run u.held t) && b) there_is in
          row.line run z t
          ∙ ap (λ (b : Bool). b || line_at run c.in_ok-tail.tail t) (came.line run (row.keeps.runs run z) t)
          ∙ ap (λ (b : Bool). (b || line_at run c.in_ok-first.first t) || line_at run c.in_ok-tail.tail t) plain_is
          ∙ ap (λ (b : Bool). (((line_at run w.valid t && not (line_at run w.eos t)) && not (line_at run r.passes t)) || b) || line_at run c.in_ok-tail.tail t) first_is
          ∙ ap (λ (b : Bool). (((line_at run w.valid t && not (line_at run w.eos t)) && not (line_at run r.passes t))
          || (line_at run u.with_end t && not (line_of run r.kept 0 t && not (head_line run r t)))) || b) tail_is;
    }
