use Rattle.std.proofs.Common.{◌∙◌, sym}
use Rattle.gl_net.proofs.Determined.{keeps_then}
use Rattle.gl_wire.proofs.ColumnLemmas.{bit_kept, wire_kept}
use Rattle.gl_wire_registers.proofs.LineLemmas.{bits_kept}
use Rattle.gl_partition.proofs.LookNet.{look_adds}
use Rattle.gl_partition.proofs.front.look_at.Goals as goal

pub look_up-requires-clause-wire : goal.look_up-requires-clause-wire
look_up-requires-clause-wire c =
    wire_kept c.args.net.now c.keep_tail.new.net c.args.wire.now
    (keeps_then c.args.net.now c.count_flush.new.net c.keep_tail.new.net c.in_ok-flush.ensures.keeps c.in_ok-tail.ensures.keeps) c.requires.wire

pub count_turns-requires-clause-eos : goal.count_turns-requires-clause-eos
count_turns-requires-clause-eos c =
    bit_kept c.args.net.now c.put_slots.new.net c.args.wire.now.eos
    (keeps_then c.args.net.now c.count_flush.new.net c.put_slots.new.net c.in_ok-flush.ensures.keeps
    (keeps_then c.count_flush.new.net c.keep_tail.new.net c.put_slots.new.net c.in_ok-tail.ensures.keeps
    (keeps_then c.keep_tail.new.net c.look_up.new.net c.put_slots.new.net c.in_ok-look.ensures.keeps c.in_ok-lines.ensures.keeps)))
    c.requires.wire.eos

pub count_turns-requires-clause-due : goal.count_turns-requires-clause-due
count_turns-requires-clause-due c =
    bit_kept c.count_flush.new.net c.put_slots.new.net c.in_ok-flush.flush.due
    (keeps_then c.count_flush.new.net c.keep_tail.new.net c.put_slots.new.net c.in_ok-tail.ensures.keeps
    (keeps_then c.keep_tail.new.net c.look_up.new.net c.put_slots.new.net c.in_ok-look.ensures.keeps c.in_ok-lines.ensures.keeps))
    c.in_ok-flush.ensures.due

pub turn_lines-requires-clause-line : goal.turn_lines-requires-clause-line
turn_lines-requires-clause-line c =
    bit_kept c.count_flush.new.net c.count_turns.new.net c.in_ok-flush.flush.due
    (keeps_then c.count_flush.new.net c.keep_tail.new.net c.count_turns.new.net c.in_ok-tail.ensures.keeps
    (keeps_then c.keep_tail.new.net c.look_up.new.net c.count_turns.new.net c.in_ok-look.ensures.keeps
    (keeps_then c.look_up.new.net c.put_slots.new.net c.count_turns.new.net c.in_ok-lines.ensures.keeps c.in_ok-turns.ensures.keeps)))
    c.in_ok-flush.ensures.due

pub pairwise-requires-clause-lefts : goal.pairwise-requires-clause-lefts
pairwise-requires-clause-lefts c =
    bits_kept c.put_slots.new.net c.turn_lines.new.net c.in_ok-lines.lines.seen.found
    (keeps_then c.put_slots.new.net c.count_turns.new.net c.turn_lines.new.net c.in_ok-turns.ensures.keeps c.in_ok-dues.ensures.keeps) c.in_ok-lines.ensures.are.found

pub pairwise-requires-clause-rights : goal.pairwise-requires-clause-rights
pairwise-requires-clause-rights c =
    bits_kept c.put_slots.new.net c.turn_lines.new.net c.in_ok-lines.lines.seen.takes
    (keeps_then c.put_slots.new.net c.count_turns.new.net c.turn_lines.new.net c.in_ok-turns.ensures.keeps c.in_ok-dues.ensures.keeps) c.in_ok-lines.ensures.are.takes

pub pairwise-requires-clause-count : goal.pairwise-requires-clause-count
pairwise-requires-clause-count c = c.in_ok-lines.ensures.are.takes_count ∙ sym c.in_ok-lines.ensures.are.found_count

pub returns : goal.returns
returns c = rw c.note_bits.ensures (
    look_adds c.args.net.now c.count_flush.new.net c.keep_tail.new.net c.look_up.new.net c.put_slots.new.net c.count_turns.new.net c.turn_lines.new.net c.pairwise.new.net
    c.args.wire.now c.args.numbers.key c.args.numbers.slots c.args.numbers.sizes.copies c.args.numbers.stride c.args.numbers.width c.requires.slots c.requires.copies
    c.in_ok-flush.flush c.in_ok-tail.tail c.in_ok-look.look c.in_ok-lines.lines c.in_ok-turns.turns c.in_ok-dues.dues c.in_ok-matches.matches
    c.in_ok-flush.ensures c.in_ok-tail.ensures c.in_ok-look.ensures c.in_ok-lines.ensures c.in_ok-turns.ensures c.in_ok-dues.ensures c.in_ok-matches.ensures)
