use Rattle.std.proofs.Common.{ℕ, Bool, subst}
use Rattle.std.specs.Prelude.{◌&&◌}
use Rattle.gl_algebra.specs.FigureTable.{is_fixed, wait_of}
use Rattle.gl_net.proofs.Determined.{keeps_then}
use Rattle.gl_wire.specs.Stages.{IsPad}
use Rattle.gl_wire.proofs.ColumnLemmas.{wire_kept}
use Rattle.gl_wire.proofs.FaultLemmas.{lines_kept}
use Rattle.gl_queue.specs.JoinLines.{AreSides}
use Rattle.gl_queue.proofs.JoinerNet.{joiner_of}
use Rattle.gl_queue.proofs.joiner.Joiner.emit.Goals as goal

pub pad-requires-2 : goal.pad-requires-2
pad-requires-2 c = wire_kept _ _ _ c.in_ok-first.ensures.keeps c.requires.right

pub put_sides-requires-clause-left : goal.put_sides-requires-clause-left
put_sides-requires-clause-left c = wire_kept _ _ _ c.in_ok-second.ensures.keeps c.in_ok-first.ensures.wire

pub both_faults-requires-clause-left : goal.both_faults-requires-clause-left
both_faults-requires-clause-left c =
    lines_kept c.args.net.now c.put_sides.new.net _
    (keeps_then _ c.pad.new.net _ c.in_ok-first.ensures.keeps (keeps_then _ c.pad-2.new.net _ c.in_ok-second.ensures.keeps c.in_ok-wire.ensures.keeps)) c.requires.left_lines

pub both_faults-requires-clause-right : goal.both_faults-requires-clause-right
both_faults-requires-clause-right c =
    lines_kept c.args.net.now c.put_sides.new.net _
    (keeps_then _ c.pad.new.net _ c.in_ok-first.ensures.keeps (keeps_then _ c.pad-2.new.net _ c.in_ok-second.ensures.keeps c.in_ok-wire.ensures.keeps)) c.requires.right_lines

pub returns : goal.returns
returns c =
    let p = c.args.self.now.left in
    let q = c.args.self.now.right in
    let a = c.args.left in
    let b = c.args.right in
    let first = c.in_ok-first.first in
    let second = c.in_ok-second.second in
    let out = c.in_ok-wire.wire in
    let pad_a : IsPad c.args.net.now c.pad.new.net (wait_of p q) a.wire first = subst (λ (n : ℕ). IsPad c.args.net.now c.pad.new.net n a.wire first) c.wait_of-wait.ensures c.in_ok-first.ensures in
    let pad_b : IsPad c.pad.new.net c.pad-2.new.net (wait_of q p) b.wire second =
    subst (λ (n : ℕ). IsPad c.pad.new.net c.pad-2.new.net n b.wire second) c.wait_of-wait-2.ensures c.in_ok-second.ensures in
    let sides : AreSides c.pad-2.new.net c.put_sides.new.net (is_fixed p && is_fixed q) first second out =
    subst (λ (x : Bool). AreSides c.pad-2.new.net c.put_sides.new.net x first second out) c.both_fixed-in_step.ensures c.in_ok-wire.ensures in
    joiner_of c.joiner_serves.ensures c.followers_keep_pace.ensures c.args.net.now c.pad.new.net c.pad-2.new.net c.put_sides.new.net c.both_faults.new.net p q a b first second out c.in_ok-faults.faults c.requires.sound_left c.requires.sound_right pad_a pad_b sides
    c.in_ok-faults.ensures
