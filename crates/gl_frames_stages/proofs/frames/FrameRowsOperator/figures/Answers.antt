use Rattle.std.proofs.Common.{arith}
use Rattle.gl_frames_stages.proofs.frames.FrameRowsOperator.figures.Goals as goal

pub delayed_figures-requires-clause-small : goal.delayed_figures-requires-clause-small
delayed_figures-requires-clause-small c =
    let small = c.requires.small in
    record {
      a = small.a;
      lt = omega (arith, small.le, c.requires.sound.end_last);
      le = small.le;
      nt = small.nt;
      ne = small.ne;
      gt = small.gt;
      ge = small.ge;
    }
