use Rattle.std.proofs.Common.{rules}
use Rattle.gl_query_printer.proofs.Loops.{aggs_end}
use Rattle.gl_query_printer.proofs.items.put_aggs.Goals as goal

pub returns : goal.returns
returns c = aggs_end c.args.aggs.now c.in-Some.first.now c.in-Some.rest.now c.loop-item.item-index c.loop-item.tokens.items c.args.tokens.now.items (search rules) (search rules) (search rules)
