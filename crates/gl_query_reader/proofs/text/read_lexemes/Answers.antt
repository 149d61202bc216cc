use Rattle.gl_query_reader.proofs.Meets.{found, only, faults}
use Rattle.gl_query_reader.proofs.Regular.{small_statement}
use Rattle.gl_query_reader.proofs.Exact.{syntax, too_deep, mixed}
use Rattle.gl_query_reader.proofs.text.read_lexemes.Goals as goal

pub returns : goal.returns
returns c = record {
  found = found c.args.tokens.items c.args.end _ c.answer.ensures;
  only = only c.args.tokens.items c.args.end _ c.answer.ensures;
  small = small_statement c.args.tokens.items _ (found c.args.tokens.items c.args.end _ c.answer.ensures);
  fault = faults c.args.tokens.items c.args.end _ c.answer.ensures;
  syntax = syntax c.args.tokens.items c.args.end _ c.answer.ensures;
  too_deep = too_deep c.args.tokens.items c.args.end _ c.answer.ensures;
  mixed_items = mixed c.args.tokens.items c.args.end _ c.answer.ensures;
}
