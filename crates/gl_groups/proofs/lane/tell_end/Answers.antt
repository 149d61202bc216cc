use Rattle.std.proofs.Common.{Bool, ap, arith, ◌∙◌}
use Rattle.std.specs.Prelude.{◌&&◌, ◌||◌, nat_lt}
use Rattle.gl_net.proofs.Determined.{keeps_then}
use Rattle.gl_wire.specs.Wire.{line_at}
use Rattle.gl_wire.proofs.ColumnLemmas.{bit_kept}
use Rattle.gl_wire_registers.specs.Held.{held_at}
use Rattle.gl_groups.specs.Lanes.{end_line}
use Rattle.gl_groups.proofs.ToldNet.{first_bit, first_line, less_where}
use Rattle.gl_groups.proofs.lane.tell_end.Goals as goal

pub either-requires-clause-right : goal.either-requires-clause-right
either-requires-clause-right c =
    bit_kept c.args.net.now c.both.new.net _ (keeps_then c.args.net.now c.less.new.net c.both.new.net c.in_ok-used.ensures.keeps c.in_ok-turn.ensures.keeps)
    (first_bit c.args.net.now c.args.sought.now.kept c.as_slice.result.now c.as_slice.ensures c.requires.some c.requires.sought.1.kept)

pub returns : goal.returns
unfolding end_line
returns c =
    let used = c.in_ok-used.ensures in
    let turn = c.in_ok-turn.ensures in
    let some = c.in_ok-some.ensures in
    let end = c.in_ok-end.ensures in
    let all = c.in_ok-either.ensures in
    record {
      keeps = keeps_then c.args.net.now c.less.new.net c.either-2.new.net used.keeps (keeps_then c.less.new.net c.both.new.net c.either-2.new.net turn.keeps
          (keeps_then c.both.new.net c.either.new.net c.either-2.new.net some.keeps (keeps_then c.either.new.net c.both-2.new.net c.either-2.new.net end.keeps all.keeps)));
      bit = all.bit;
      cost = record {
        nodes = omega (arith, used.cost.nodes, turn.cost.nodes, some.cost.nodes, end.cost.nodes, all.cost.nodes);
        registers = omega (arith, used.cost.registers, turn.cost.registers, some.cost.registers, end.cost.registers, all.cost.registers);
        memories = omega (arith, used.cost.memories, turn.cost.memories, some.cost.memories, end.cost.memories, all.cost.memories);
      };
      line = λ run r t.
          let w = c.args.late.now in
          let u = c.args.turns.now in
          let at_end = all.keeps.runs run r in
          let at_some = end.keeps.runs run at_end in
          let at_turn = some.keeps.runs run at_some in
          let at_used = turn.keeps.runs run at_turn in
          all.line run r t
          ∙ ap (λ (b : Bool). b || line_at run c.in_ok-end.end t) (turn.line run at_turn t ∙ ap (λ (b : Bool). line_at run u.due t && b) (used.line run at_used t) ∙ less_where run u.due u.over c.args.sought.now.many.many t)
          ∙ ap (λ (b : Bool). (line_at run u.due t && nat_lt (held_at 0 run u.over t) (held_at 0 run c.args.sought.now.many.many t)) || b)
          (end.line run at_end t ∙ ap (λ (b : Bool). line_at run w.eos t && b)
          (some.line run at_some t ∙ ap (λ (b : Bool). line_at run w.valid t || b) (first_line run c.args.sought.now.kept c.as_slice.result.now c.as_slice.ensures c.requires.some t)));
    }
