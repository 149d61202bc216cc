use Rattle.std.proofs.Common.{refl}
use Rattle.gl_figures.proofs.laws.worked_spares.Goals as goal

pub returns : goal.returns
returns c = record {
  each = refl;
  each_late = refl;
  overlap = refl;
  overlap_late = refl;
  apart = refl;
  apart_late = refl;
  most = refl;
  most_late = refl;
  more = refl;
  slow = refl;
  slow_late = refl;
  spilling = refl;
  quick = refl;
  merged = refl;
  each_tick = refl;
  each_minute = refl;
  every_fourth = refl;
  three_open = refl;
  quick_tick = refl;
}
