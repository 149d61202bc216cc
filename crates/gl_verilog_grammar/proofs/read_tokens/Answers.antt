-- What the machine reads tells which module is spelled, or the first fault.
use Rattle.gl_verilog_grammar.proofs.Spelled.{answered, only_one}
use Rattle.gl_verilog_grammar.proofs.read_tokens.Goals as goal

pub returns-clause-answer : goal.returns-clause-answer
returns-clause-answer c = answered c.args.lexemes.now c.args.end c.written_of.result c.written_of.ensures

pub returns-clause-only : goal.returns-clause-only
returns-clause-only c = only_one c.args.lexemes.now c.args.end c.written_of.result c.written_of.ensures
