use Rattle.std.proofs.Common.{◌≡◌, drop}
use Rattle.gl_verilog_tokens.specs.View.{tokens_in}
use Rattle.gl_verilog_grammar.specs.Counting.{IsWithin}
use Rattle.gl_verilog_grammar.specs.Answers.{read_on, read_all, stand}
use Rattle.gl_verilog_grammar.proofs.reading.written_of.Given as goal

abbrev pub invariant-loop-lexeme : goal.invariant-loop-lexeme
invariant-loop-lexeme l = record {
  within : IsWithin l.counter;
  same : read_on l.lexeme-index (stand l.reading l.counter) (tokens_in (drop l.lexeme-index l.lexemes)) ≡ read_all (tokens_in l.lexemes);
}
