use Rattle.std.proofs.Common.{ℕ, subst}
use Rattle.gl_net.proofs.Determined.{keeps_then}
use Rattle.gl_wire.specs.Stages.{IsPad}
use Rattle.gl_wire.proofs.ColumnLemmas.{wire_kept}
use Rattle.gl_wire.proofs.FaultLemmas.{lines_kept}
use Rattle.gl_turns.specs.TurnFigures.{left_wait, right_wait}
use Rattle.gl_turns.proofs.TurnNet.{turns_of}
use Rattle.gl_turns.proofs.turns.Turns.emit.Goals as goal

pub pad-requires-2 : goal.pad-requires-2
pad-requires-2 c = wire_kept _ _ _ c.in_ok-first.ensures.keeps c.requires.right

pub put_turn-requires-clause-left : goal.put_turn-requires-clause-left
put_turn-requires-clause-left c = wire_kept _ _ _ c.in_ok-second.ensures.keeps c.in_ok-first.ensures.wire

pub both_faults-requires-clause-left : goal.both_faults-requires-clause-left
both_faults-requires-clause-left c =
    lines_kept c.args.net.now c.put_turn.new.net _
    (keeps_then _ c.pad.new.net _ c.in_ok-first.ensures.keeps (keeps_then _ c.pad-2.new.net _ c.in_ok-second.ensures.keeps c.in_ok-wire.ensures.keeps)) c.requires.left_lines

pub both_faults-requires-clause-right : goal.both_faults-requires-clause-right
both_faults-requires-clause-right c =
    lines_kept c.args.net.now c.put_turn.new.net _
    (keeps_then _ c.pad.new.net _ c.in_ok-first.ensures.keeps (keeps_then _ c.pad-2.new.net _ c.in_ok-second.ensures.keeps c.in_ok-wire.ensures.keeps)) c.requires.right_lines

pub returns : goal.returns
returns c =
    let p = c.args.self.now.left in
    let q = c.args.self.now.right in
    let a = c.args.left in
    let b = c.args.right in
    let first = c.in_ok-first.first in
    let second = c.in_ok-second.second in
    let pad_a : IsPad c.args.net.now c.pad.new.net (left_wait p q) a.wire first = subst (λ (n : ℕ). IsPad c.args.net.now c.pad.new.net n a.wire first) c.left_wait-before.ensures c.in_ok-first.ensures in
    let pad_b : IsPad c.pad.new.net c.pad-2.new.net (right_wait p q) b.wire second =
    subst (λ (n : ℕ). IsPad c.pad.new.net c.pad-2.new.net n b.wire second) c.right_wait-behind.ensures c.in_ok-second.ensures in
    turns_of c.turns_serve.ensures.order c.turns_serve.ensures.next c.turns_serve.ensures.interleave c.args.net.now c.pad.new.net c.pad-2.new.net c.put_turn.new.net c.both_faults.new.net p q a b first second c.in_ok-wire.wire c.in_ok-faults.faults
    c.requires.sound_left c.requires.sound_right c.requires.widths pad_a pad_b c.in_ok-wire.ensures c.in_ok-faults.ensures
