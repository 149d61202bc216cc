use Rattle.std.proofs.Common.{rules}
use Rattle.gl_query_printer.proofs.Loops.{numbers_end}
use Rattle.gl_query_printer.proofs.items.put_numbers.Goals as goal

pub returns : goal.returns
returns c = numbers_end c.args.numbers.now c.in-Some.first.now c.in-Some.rest.now c.loop-number.number-index c.loop-number.tokens.items c.args.tokens.now.items (search rules) (search rules) (search rules)
