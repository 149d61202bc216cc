-- what is put and what is left make all
use Rattle.std.proofs.Common.{◌≡◌, ◌++◌, drop, option_map}
use Rattle.gl_query.specs.Shapes.{slots_shape}
use Rattle.gl_query_printer.specs.Canonical.{partition_of}
use Rattle.gl_query_printer.proofs.Loops.{behind_commas, frame_tokens}
use Rattle.gl_query_printer.proofs.over_items.put_frames.Given as goal

abbrev pub invariant-loop-item : goal.invariant-loop-item
invariant-loop-item l =
    l.tokens.items ++ behind_commas (frame_tokens (partition_of (option_map slots_shape l.slots))) (drop l.item-index l.rest)
    ≡ l.initial.tokens.items ++ behind_commas (frame_tokens (partition_of (option_map slots_shape l.slots))) l.rest
