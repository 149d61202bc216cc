use Rattle.gl_slots.proofs.PartLemmas.{turning_is}
use Rattle.gl_slots.proofs.front.turn_slots.Goals as goal

pub returns : goal.returns
returns c =
    turning_is c.args.net.now c.count_turns.new.net c.turn_lines.new.net c.args.eos c.args.due c.args.count c.in_ok-lines.lines c.in_ok-turns.turns c.in_ok-turns.ensures c.in_ok-lines.ensures
