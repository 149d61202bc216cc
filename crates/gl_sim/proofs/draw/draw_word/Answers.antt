use Rattle.std.proofs.Common.{◌∙◌, ◌<◌, ◌^◌, ap}
use Rattle.gl_sim.specs.Starts.{next_draw}
use Rattle.std.proofs.lemmas.Nat.{mod_below, pow_pos}
use Rattle.gl_sim.proofs.Fresh.{word_is}
use Rattle.gl_sim.proofs.draw.draw_word.Goals as goal

pub returns-clause-value : goal.returns-clause-value
returns-clause-value c =
    let small : next_draw c.args.state.now < 2 ^ 64 = mod_below _ (2 ^ 64) (pow_pos 64) in
    word_is (next_draw c.args.state.now) (next_draw (next_draw c.args.state.now)) c.from.result c.from-2.result c.mask.result c.args.width small
    (c.from.ensures ∙ c.draw-high.ensures.value) (c.from-2.ensures ∙ c.draw-low.ensures.value ∙ ap next_draw c.draw-high.ensures.state) c.mask.ensures
