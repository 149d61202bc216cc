use Rattle.std.proofs.Common.{map, arith, ◌≡◌}
use Rattle.std.specs.Prelude.{option_map, option_to_list}
use Rattle.gl_elaborate.specs.Terms.{depth_of_all}
use Rattle.gl_elaborate.specs.Trees.{term}
use Rattle.gl_elaborate.proofs.DepthLemmas.{depth-both}
use Rattle.gl_elaborate.proofs.levels.are_done.Goals as goal

pub returns-then-are_flat : goal.returns-then-are_flat
returns-then-are_flat c =
    let both = depth-both (map term c.args.items.now) (option_to_list (option_map term c.args.filter.now)) in
    let first : depth_of_all (map term c.args.items.now) ≡ 0 = c.are_flat.ensures.0 c.if-are_flat.true in
    (λ h. let second = c.is_flat.ensures.0 h in omega arith, λ h. c.is_flat.ensures.1 (omega arith))

pub returns-else-are_flat : goal.returns-else-are_flat
returns-else-are_flat c =
    let both = depth-both (map term c.args.items.now) (option_to_list (option_map term c.args.filter.now)) in
    (λ h. absurd (let e = c.if-are_flat.false in cc), λ h. c.are_flat.ensures.1 (omega arith))
