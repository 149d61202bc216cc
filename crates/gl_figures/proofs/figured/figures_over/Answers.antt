use Rattle.std.proofs.Common.{Some, ap, sym, ◌∙◌}
use Rattle.gl_figures.proofs.FiguredLemmas.{input-small}
use Rattle.gl_figures.proofs.figured.figures_over.Goals as goal

pub returns-in-Stream : goal.returns-in-Stream
returns-in-Stream c = rw c.in-Stream.is (ap Some c.input_figures.ensures ∙ sym input-small)

pub returns-in-Body : goal.returns-in-Body
returns-in-Body c = rw c.in-Body.is (ap Some c.input_figures-in-Body.ensures ∙ sym input-small)
