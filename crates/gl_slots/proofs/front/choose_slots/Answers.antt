use Rattle.std.proofs.Common.{◌∙◌, sym}
use Rattle.gl_slots.proofs.FrontNet.{chosen_are}
use Rattle.gl_slots.proofs.front.choose_slots.Goals as goal

pub pairwise-requires-clause-count : goal.pairwise-requires-clause-count
pairwise-requires-clause-count c = c.in_ok-look.ensures.look.seen.has_count ∙ sym c.in_ok-look.ensures.look.turns_count

pub pairwise-requires-2-clause-count : goal.pairwise-requires-2-clause-count
pairwise-requires-2-clause-count c = c.in_ok-look.ensures.look.seen.takes_count ∙ sym c.in_ok-look.ensures.look.seen.found_count

pub returns : goal.returns
returns c = rw (c.note_bits-2.ensures, c.note_bits.ensures) (
    chosen_are c.args.net.now c.look_all.new.net c.pairwise.new.net c.pairwise-2.new.net c.take_rows.new.net c.args.wire.now c.args.numbers.key c.args.numbers.slots c.args.numbers.stride c.args.numbers.width
    c.in_ok-look.look c.in_ok-ends.ends c.in_ok-has_key.has_key c.in_ok-takes.takes c.requires.count c.in_ok-look.ensures c.in_ok-ends.ensures c.in_ok-has_key.ensures c.in_ok-takes.ensures)
