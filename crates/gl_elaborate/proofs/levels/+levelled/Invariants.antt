use Rattle.std.proofs.Common.{map}
use Rattle.std.specs.Prelude.{option_map}
use Rattle.gl_elaborate.specs.Terms.{depth_of_all}
use Rattle.gl_elaborate.specs.Trees.{term}
use Rattle.gl_elaborate.specs.Plans.{with_filter}
use Rattle.gl_elaborate.proofs.levels.+levelled.Given as goal

abbrev pub decreases-levelled : goal.decreases-levelled
decreases-levelled l = depth_of_all (with_filter (map term l.items.now) (option_map term l.filter.now))
