use Rattle.std.proofs.Common.{refl}
use Rattle.gl_algebra.specs.Cost.{keys_of, lean_of, store_of}
use Rattle.gl_algebra.specs.Direct.{form_of}
use Rattle.gl_algebra.specs.FigureTable.{figures_of}
use Rattle.gl_algebra.specs.Rings.{ring}
use Rattle.gl_algebra.specs.Roots.{of_further, root_figures, spare_at}
use Rattle.gl_root_gaps.specs.Roots.{tick_gaps_at}
use Rattle.gl_algebra.specs.Nodewise.{nodewise, value_to_depth}
use Rattle.gl_algebra.specs.Shapes.{shape_of}
use Rattle.gl_algebra.specs.Weights.{weight_of, copies_of}
use Rattle.gl_plan_tests.proofs.plans.worked_plans.Goals as goal

pub returns-clause-figures : goal.returns-clause-figures
unfolding figures_of shape_of weight_of copies_of spare_at root_figures tick_gaps_at of_further nodewise value_to_depth
returns-clause-figures c = record {
  counts = refl;
  counts_in_windows = record { is_late = refl; is_apart = refl; is_copied = refl };
  greatest_sums = record { is_late = refl; is_apart = refl; is_copied = refl };
  greatest_sums_of_both = record { is_late = refl; is_apart = refl; is_copied = refl };
  counts_of_both = record { is_late = refl; is_apart = refl; is_copied = refl };
  sum_beside_count = record { is_late = refl; is_apart = refl; is_copied = refl };
  price_beside_sum = record { is_late = refl; is_apart = refl; is_copied = refl };
  counts_in_time = record { is_late = refl; is_apart = refl; is_copied = refl };
  sums_by_symbol = record { is_late = refl; is_apart = refl; is_copied = refl };
  prices_of_both = record { is_late = refl; is_apart = refl; is_copied = refl };
  partition = refl;
  neighbours_by_symbol = record { is_late = refl; is_apart = refl; is_copied = refl };
  overlaps_by_symbol = record { is_late = refl; is_apart = refl; is_copied = refl };
  gaps_by_symbol = record { is_late = refl; is_apart = refl; is_copied = refl };
  neighbours_in_windows = record { is_late = refl; is_apart = refl; is_copied = refl };
  last_of_each = refl;
  prices_before = record { is_late = refl; is_apart = refl; is_copied = refl };
  last_prices = record { is_late = refl; is_apart = refl; is_copied = refl };
  far_prices = record { is_late = refl; is_apart = refl; is_copied = refl };
  counted_volumes = record { is_late = refl; is_apart = refl; is_copied = refl };
  two_symbols = record { is_late = refl; is_apart = refl; is_copied = refl };
  many_symbols = record { is_late = refl; is_apart = refl; is_copied = refl };
  counts_by_number = record { is_late = refl; is_apart = refl; is_copied = refl };
}

pub returns-clause-weights : goal.returns-clause-weights
unfolding figures_of shape_of weight_of spare_at of_further ring nodewise value_to_depth
returns-clause-weights c = record {
  most = refl;
  more = refl;
  all = refl;
  one_before = refl;
  last_of_each = refl;
  far = refl;
  two_symbols = refl;
  many_symbols = refl;
  counts_by_number = refl;
  far_by_symbol = refl;
  farthest_by_symbol = refl;
}

pub returns-clause-bits : goal.returns-clause-bits
unfolding figures_of shape_of weight_of form_of lean_of keys_of store_of spare_at of_further ring nodewise value_to_depth
returns-clause-bits c = record {
  registers = refl;
  memories = refl;
  sums = refl;
  in_windows = refl;
  keys = refl;
  one_before = refl;
  last_of_each = refl;
  two_symbols = refl;
  many_symbols = refl;
  counts_by_number = refl;
}
