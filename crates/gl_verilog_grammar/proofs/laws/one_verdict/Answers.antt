use Rattle.gl_verilog_grammar.proofs.Verdicts.{has_one, one_only}
use Rattle.gl_verilog_grammar.proofs.laws.one_verdict.Goals as goal

pub returns-clause-one : goal.returns-clause-one
returns-clause-one c = has_one

pub returns-clause-only : goal.returns-clause-only
returns-clause-only c = one_only
