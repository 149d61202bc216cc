use Rattle.std.proofs.Common.{rules, option_map}
use Rattle.gl_query.specs.Shapes.{slots_shape}
use Rattle.gl_query_printer.specs.Canonical.{partition_of}
use Rattle.gl_query_printer.proofs.Loops.{frames_end}
use Rattle.gl_query_printer.proofs.over_items.put_frames.Goals as goal

pub returns : goal.returns
returns c =
    frames_end (partition_of (option_map slots_shape c.args.slots.now)) c.args.items.now c.in-Some.first.now c.in-Some.rest.now c.loop-item.item-index c.loop-item.tokens.items c.args.tokens.now.items
    (search rules) (search rules) (search rules)
