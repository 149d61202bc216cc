use Rattle.std.proofs.Common.{◌<◌, ◌+◌, ℕ, List, sym, subst}
use Rattle.gl_sim.proofs.Draws.{IsDrawnIn, drawn_in-first, drawn_in-more}
use Rattle.gl_sim.proofs.draw.draw_bank.Goals as goal

pub loop-at-init : goal.loop-at-init
loop-at-init c = drawn_in-first c.args.state.now c.args.width c.args.bank.now

pub loop-at-preserved : goal.loop-at-preserved
loop-at-preserved c =
    subst (λ (b : List ℕ). IsDrawnIn c.args.state.now c.draw_word-word.new.state (c.loop-at.at + 1) c.args.width c.args.bank.now b) (sym c.set.ensures)
    (drawn_in-more c.args.state.now c.loop-at.state c.draw_word-word.new.state c.loop-at.at c.args.width c.draw_word-word.result c.args.bank.now c.loop-at.bank c.loop-at.invariant (subst (λ (n : ℕ). c.loop-at.at < n) c.len-at-end.ensures c.loop-at-test.true) c.draw_word-word.ensures.state c.draw_word-word.ensures.value)
