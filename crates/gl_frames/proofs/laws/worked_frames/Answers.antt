use Rattle.std.proofs.Common.{refl}
use Rattle.gl_values.specs.Lists.{has_further, slices}
use Rattle.gl_values.specs.Totals.{average_of, count_of, greatest_of, least_of, sum_total}
use Rattle.gl_frames.proofs.laws.worked_frames.Goals as goal

pub returns-clause-numbers : goal.returns-clause-numbers
returns-clause-numbers c = record {
  nothing = refl;
  lags = refl;
  far = refl;
  own = refl;
  sums = refl;
  alone = refl;
  filtered = refl;
  lasts = refl;
  near = refl;
  by_key = refl;
  sums_by_key = refl;
}

pub returns-clause-trades : goal.returns-clause-trades
unfolding average_of count_of greatest_of least_of sum_total slices
returns-clause-trades c = record {
  beside = refl;
  where_first = refl;
  sum_of_two = refl;
  least_of_three = refl;
  greatest_of_two = refl;
  average_of_two = refl;
  rounded_down = refl;
  numbers = refl;
  running = refl;
  longest = refl;
  farthest = refl;
  last_of_b = refl;
  dear_of_three = refl;
  none_dear = refl;
  windows = refl;
}

pub returns-clause-signs : goal.returns-clause-signs
unfolding average_of count_of least_of
returns-clause-signs c = record {
  averages = refl;
  least = refl;
}

pub returns-clause-symbols : goal.returns-clause-symbols
unfolding count_of has_further sum_total
returns-clause-symbols c = record {
  before = refl;
  volumes = refl;
  two_are_all = refl;
  one_alone = refl;
  others_came = refl;
  more_groups = refl;
  numbers = refl;
  third_key = refl;
  third_came = refl;
}

pub returns-clause-selects : goal.returns-clause-selects
unfolding count_of
returns-clause-selects c = record {
  first_ones = refl;
  as_of = refl;
}
