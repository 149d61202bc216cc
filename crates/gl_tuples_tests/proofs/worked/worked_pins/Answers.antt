use Rattle.std.proofs.Common.{refl}
use Rattle.gl_schema.specs.Ports.{rst, eos, tick, in_valid, in_column, in_parameter}
use Rattle.gl_tuples_tests.proofs.worked.worked_pins.Goals as goal

pub returns-clause-reset : goal.returns-clause-reset
unfolding rst eos tick in_valid in_column in_parameter
returns-clause-reset c = refl

pub returns-clause-first : goal.returns-clause-first
unfolding rst eos tick in_valid in_column in_parameter
returns-clause-first c = refl

pub returns-clause-between : goal.returns-clause-between
unfolding rst eos tick in_valid in_column in_parameter
returns-clause-between c = refl

pub returns-clause-last : goal.returns-clause-last
unfolding rst eos tick in_valid in_column in_parameter
returns-clause-last c = refl

pub returns-clause-behind : goal.returns-clause-behind
unfolding rst eos tick in_valid in_column in_parameter
returns-clause-behind c = refl
