use Rattle.std.proofs.Common.{sym, ◌∙◌}
use Rattle.gl_load.proofs.Lines.{line_found, line_missed}
use Rattle.gl_load.proofs.tally.next_line.Goals as goal

pub returns-in-Some-clause-line : goal.returns-in-Some-clause-line
returns-in-Some-clause-line c = line_found c.args.text.now c.in-Some.at (sym c.place_of.ensures.place ∙ c.in-Some.is)

pub returns-in-None-clause-line : goal.returns-in-None-clause-line
returns-in-None-clause-line c = line_missed c.args.text.now (sym c.place_of.ensures.place ∙ c.in-None.is)
