use Rattle.std.proofs.Common.{refl}
use Rattle.gl_algebra.specs.FigureTable.{figures_of}
use Rattle.gl_algebra.specs.Nodewise.{nodewise, value_to_depth}
use Rattle.gl_algebra.specs.Shapes.{shape_of}
use Rattle.gl_algebra.specs.Weights.{weight_of}
use Rattle.gl_figures.specs.Reach.{lies_below}
use Rattle.gl_figures.proofs.reach_laws.worked_reach.Goals as goal

pub returns : goal.returns
unfolding figures_of shape_of weight_of nodewise value_to_depth lies_below
returns c = record {
  both = refl;
  body = refl;
  twice = refl;
  none = refl;
  parted = refl;
  timed = refl;
  stream = refl;
  projected = refl;
  counted_twice = refl;
}
