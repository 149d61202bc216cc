use Rattle.std.proofs.Common.{◌∙◌, sym}
use Rattle.gl_elaborate.specs.Levels.{same_op}
use Rattle.gl_elaborate.proofs.PlaceLemmas.{place-none}
use Rattle.gl_elaborate.proofs.leveling.place_of.Goals as goal

pub returns-in-None-clause-place : goal.returns-in-None-clause-place
returns-in-None-clause-place c =
    c.len.ensures.len ∙ sym (place-none (same_op c.args.op) c.args.level.now.keys (sym c.get_index_of.ensures.index ∙ c.in-None.is))
