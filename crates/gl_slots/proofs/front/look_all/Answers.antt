use Rattle.gl_net.proofs.Determined.{keeps_then}
use Rattle.gl_wire.proofs.ColumnLemmas.{bit_kept, wire_kept}
use Rattle.gl_slots.proofs.FrontNet.{looked_are}
use Rattle.gl_slots.proofs.front.look_all.Goals as goal

pub look_up-requires-clause-wire : goal.look_up-requires-clause-wire
look_up-requires-clause-wire c =
    wire_kept c.args.net.now c.keep_tail.new.net c.args.wire.now
    (keeps_then c.args.net.now c.count_flush.new.net c.keep_tail.new.net c.in_ok-flush.ensures.keeps c.in_ok-tail.ensures.keeps) c.requires.wire

pub turn_slots-requires-clause-eos : goal.turn_slots-requires-clause-eos
turn_slots-requires-clause-eos c =
    bit_kept c.args.net.now c.put_slots.new.net c.args.wire.now.eos
    (keeps_then c.args.net.now c.count_flush.new.net c.put_slots.new.net c.in_ok-flush.ensures.keeps
    (keeps_then c.count_flush.new.net c.keep_tail.new.net c.put_slots.new.net c.in_ok-tail.ensures.keeps
    (keeps_then c.keep_tail.new.net c.look_up.new.net c.put_slots.new.net c.in_ok-look.ensures.keeps c.in_ok-slots.ensures.keeps)))
    c.requires.wire.eos

pub turn_slots-requires-clause-due : goal.turn_slots-requires-clause-due
turn_slots-requires-clause-due c =
    bit_kept c.count_flush.new.net c.put_slots.new.net c.in_ok-flush.flush.due
    (keeps_then c.count_flush.new.net c.keep_tail.new.net c.put_slots.new.net c.in_ok-tail.ensures.keeps
    (keeps_then c.keep_tail.new.net c.look_up.new.net c.put_slots.new.net c.in_ok-look.ensures.keeps c.in_ok-slots.ensures.keeps))
    c.in_ok-flush.ensures.due

pub returns : goal.returns
returns c =
    looked_are c.args.net.now c.count_flush.new.net c.keep_tail.new.net c.look_up.new.net c.put_slots.new.net c.turn_slots.new.net
    c.args.wire.now c.args.numbers.key c.args.numbers.slots c.args.numbers.stride c.args.numbers.width c.requires.count
    c.in_ok-flush.flush c.in_ok-tail.tail c.in_ok-look.look c.in_ok-slots.slots c.in_ok-turning.turning
    c.in_ok-flush.ensures c.in_ok-tail.ensures c.in_ok-look.ensures c.in_ok-slots.ensures c.in_ok-turning.ensures
