use Rattle.gl_compiler.proofs.Planning.{no_farther}
use Rattle.gl_compiler.proofs.text_laws.gaps_are_no_farther.Goals as goal

pub returns : goal.returns
returns c = no_farther c.plans_are_right.ensures c.roots_are_right.ensures c.roots_come_closer.ensures
