use Rattle.std.proofs.Common.{map}
use Rattle.std.specs.Prelude.{option_map, option_to_list}
use Rattle.gl_elaborate.specs.Trees.{term}
use Rattle.gl_elaborate.proofs.RoomLemmas.{level-of-two}
use Rattle.gl_elaborate.proofs.leveling.level_over.Goals as goal

pub returns : goal.returns
returns c =
    level-of-two (map term c.args.items.now) (option_to_list (option_map term c.args.filter.now)) _ _ _ c.new-level.ensures.empty
    c.in_ok-gather_all.ensures c.in_ok-gather_some.ensures
