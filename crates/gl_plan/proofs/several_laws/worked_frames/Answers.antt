use Rattle.std.proofs.Common.{refl}
use Rattle.gl_schema.specs.Schemas.{text_word}
use Rattle.gl_algebra.specs.Added.{added}
use Rattle.gl_algebra.specs.FigureTable.{figures_of}
use Rattle.gl_algebra.specs.Nodewise.{nodewise, value_to_depth}
use Rattle.gl_algebra.specs.Roots.{root_figures, spare_at}
use Rattle.gl_root_gaps.specs.Roots.{tick_gaps_at}
use Rattle.gl_algebra.specs.Shapes.{shape_of}
use Rattle.gl_algebra.specs.Weights.{weight_of}
use Rattle.gl_elaborate.specs.Levels.{level_of}
use Rattle.gl_plan.proofs.several_laws.worked_frames.Goals as goal

pub returns : goal.returns
unfolding added level_of text_word nodewise value_to_depth figures_of shape_of weight_of spare_at root_figures tick_gaps_at
returns c = record {
  before = refl;
  dear_before = refl;
  filtered = refl;
  of_all = record { is_late = refl; is_apart = refl };
  of_dear = record { is_late = refl; is_apart = refl };
  last_prices = record { is_late = refl; is_apart = refl };
  so_many = record { is_late = refl; is_apart = refl };
  far_prices = record { is_late = refl; is_apart = refl };
  top_prices = record { is_late = refl; is_apart = refl };
  signed_numbers = record { is_late = refl; is_apart = refl };
  filtered_prices = record { is_late = refl; is_apart = refl };
  greatest_steps = record { is_late = refl; is_apart = refl };
  both_prices = record { is_late = refl; is_apart = refl };
  price_and_average = record { is_late = refl; is_apart = refl };
  by_symbol = refl;
  sums_by_symbol = record { is_late = refl; is_apart = refl };
  one_symbol = record { is_late = refl; is_apart = refl };
  many_symbols = record { is_late = refl; is_apart = refl };
  counts_by_key = record { is_late = refl; is_apart = refl };
  slow_prices = record { is_late = refl; is_apart = refl };
  first_prices = record { is_late = refl; is_apart = refl };
  trades_with_bids = record { is_late = refl; is_apart = refl };
}
