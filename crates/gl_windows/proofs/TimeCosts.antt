-- What a rotation of windows of time costs against what a plan counts, and which numbers it has.
use Rattle.std.proofs.Common.{◌≡◌, ◌+◌, ◌*◌, length, refl, arith}
use Rattle.gl_algebra.specs.FigureTable.{stride_of}
use Rattle.gl_algebra.specs.Views.{copies_of_time}
use Rattle.gl_algebra.proofs.FigureLemmas.{one_in_time}
use Rattle.gl_wire.proofs.CountLemmas.{narrow_sum}
use Rattle.gl_wire.proofs.NumberLemmas.{all_turns}
use Rattle.gl_windows.specs.Costs.{TimesAreCounted}
use Rattle.gl_windows.specs.TimeRotations.{TimesRotate}

pub times_are_counted : TimesAreCounted
times_are_counted copies delay source own hs ho =
    let s = length source in
    let o = length own in
    let each : copies * (0 + 8 * (s + 2 + (o + 2) + 4)) ≡ 8 * (copies * s) + 8 * (copies * o) + 64 * copies = omega arith in
    let lines : copies * (o + 1) ≡ copies * o + copies = omega arith in
    record {
      nodes = omega (arith, each, lines);
      registers = omega (arith, each, lines, narrow_sum source hs, narrow_sum own ho);
      memories = refl;
    }

pub times_rotate : TimesRotate
times_rotate size advance body rows most step sound closing small =
    let turns = all_turns (copies_of_time size advance) (stride_of body) (one_in_time size advance) in
    record {
      rows = rows;
      most = most;
      step = step;
      sound = sound;
      closing = closing;
      timed = omega (arith, small.le, turns, sound.tuples_last, sound.end_last);
    }
