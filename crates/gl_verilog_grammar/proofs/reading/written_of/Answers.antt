-- Where the reading of a token or the end fails, the machine does.
use Rattle.std.proofs.Common.{◌≤◌, ◌<◌, length, arith}
use Rattle.gl_verilog_grammar.specs.Answers.{stand}
use Rattle.gl_verilog_grammar.proofs.Runs.{read_fails, read_finish}
use Rattle.gl_verilog_grammar.proofs.reading.written_of.Goals as goal

pub returns-in-Err : goal.returns-in-Err
returns-in-Err c =
    let lt : c.loop-lexeme.lexeme-index < length c.args.lexemes.now = omega arith in
    read_fails c.args.lexemes.now c.args.end c.loop-lexeme.lexeme-index _ (stand c.loop-lexeme.reading c.loop-lexeme.counter) _ _ lt c.in-Err.ensures.stops c.loop-lexeme.invariant.same

pub returns : goal.returns
returns c =
    let le : length c.args.lexemes.now ≤ c.loop-lexeme.lexeme-index = omega arith in
    read_finish c.args.lexemes.now c.args.end c.loop-lexeme.lexeme-index (stand c.loop-lexeme.reading c.loop-lexeme.counter) c.finish.result _ le c.finish.ensures c.loop-lexeme.invariant.same
