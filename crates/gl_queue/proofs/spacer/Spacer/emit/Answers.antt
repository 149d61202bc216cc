use Rattle.std.proofs.Common.{◌≤◌, ◌^◌, ◌+◌, arith}
use Rattle.gl_wire.proofs.FaultLemmas.{line_kept}
use Rattle.gl_queue.proofs.SpacerNet.{spacer_of}
use Rattle.gl_queue.proofs.spacer.Spacer.emit.Goals as goal

pub either_line-requires-clause-left : goal.either_line-requires-clause-left
either_line-requires-clause-left c = line_kept _ _ _ c.in_ok-spaced.ensures.keeps c.requires.lines.passed

pub returns : goal.returns
returns c =
    let f = c.args.self.now.source in
    let small : f.ne + 1 ≤ 2 ^ 32 = omega arith in
    spacer_of c.spacer_serves.ensures c.spacer_spaces.ensures c.args.net.now c.put_spaced.new.net c.either_line.new.net c.args.self.now.gap f c.args.below c.in_ok-spaced.spaced c.in_ok-passed.passed c.requires.sound c.requires.gap small c.requires.lines
    c.in_ok-spaced.ensures c.in_ok-passed.ensures
