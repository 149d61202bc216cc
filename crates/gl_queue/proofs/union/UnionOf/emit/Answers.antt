use Rattle.std.proofs.Common.{◌≤◌, ◌^◌, ℕ, arith, subst}
use Rattle.gl_algebra.specs.FigureTable.{wait_of}
use Rattle.gl_net.proofs.Determined.{keeps_then}
use Rattle.gl_wire.specs.Stages.{IsPad}
use Rattle.gl_wire.proofs.ColumnLemmas.{wire_kept}
use Rattle.gl_wire.proofs.FaultLemmas.{lines_kept}
use Rattle.gl_queue.proofs.UnionNet.{union_of}
use Rattle.gl_queue.proofs.union.UnionOf.emit.Goals as goal

pub pad-requires-2 : goal.pad-requires-2
pad-requires-2 c = wire_kept _ _ _ c.in_ok-first.ensures.keeps c.requires.right

pub put_merged-requires-clause-left : goal.put_merged-requires-clause-left
put_merged-requires-clause-left c = wire_kept _ _ _ c.in_ok-second.ensures.keeps c.in_ok-first.ensures.wire

pub both_faults-requires-clause-left : goal.both_faults-requires-clause-left
both_faults-requires-clause-left c =
    lines_kept c.args.net.now c.put_merged.new.net _
    (keeps_then _ c.pad.new.net _ c.in_ok-first.ensures.keeps (keeps_then _ c.pad-2.new.net _ c.in_ok-second.ensures.keeps c.in_ok-merged.ensures.keeps)) c.requires.left_lines

pub both_faults-requires-clause-right : goal.both_faults-requires-clause-right
both_faults-requires-clause-right c =
    lines_kept c.args.net.now c.put_merged.new.net _
    (keeps_then _ c.pad.new.net _ c.in_ok-first.ensures.keeps (keeps_then _ c.pad-2.new.net _ c.in_ok-second.ensures.keeps c.in_ok-merged.ensures.keeps)) c.requires.right_lines

pub either_line-requires-clause-right : goal.either_line-requires-clause-right
either_line-requires-clause-right c = record { there = c.in_ok-sides.ensures.keeps.shapes _ _ c.in_ok-merged.ensures.passed.there }

pub returns : goal.returns
returns c =
    let p = c.args.self.now.left in
    let q = c.args.self.now.right in
    let a = c.args.left in
    let b = c.args.right in
    let first = c.in_ok-first.first in
    let second = c.in_ok-second.second in
    let pad_a : IsPad c.args.net.now c.pad.new.net (wait_of p q) a.wire first = subst (λ (n : ℕ). IsPad c.args.net.now c.pad.new.net n a.wire first) c.wait_of-wait.ensures c.in_ok-first.ensures in
    let pad_b : IsPad c.pad.new.net c.pad-2.new.net (wait_of q p) b.wire second =
    subst (λ (n : ℕ). IsPad c.pad.new.net c.pad-2.new.net n b.wire second) c.wait_of-wait-2.ensures c.in_ok-second.ensures in
    let small_p : p.ne ≤ 2 ^ 32 = omega arith in
    let small_q : q.ne ≤ 2 ^ 32 = omega arith in
    union_of c.union_serves.ensures c.args.net.now c.pad.new.net c.pad-2.new.net c.put_merged.new.net c.both_faults.new.net c.either_line.new.net p q a b first second c.in_ok-merged.merged c.in_ok-sides.sides c.in_ok-passed.passed
    c.requires.sound_left c.requires.sound_right small_p small_q c.requires.widths pad_a pad_b c.in_ok-merged.ensures c.in_ok-sides.ensures c.in_ok-passed.ensures
