use Rattle.std.proofs.Common.{rules}
use Rattle.gl_query_printer.proofs.Loops.{items_end}
use Rattle.gl_query_printer.proofs.items.put_items.Goals as goal

pub returns : goal.returns
returns c = items_end c.args.items.now c.in-Some.first.now c.in-Some.rest.now c.loop-item.item-index c.loop-item.tokens.items c.args.tokens.now.items (search rules) (search rules) (search rules)
