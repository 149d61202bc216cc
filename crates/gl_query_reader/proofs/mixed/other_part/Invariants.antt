use Rattle.std.proofs.Common.{◌≡◌, drop}
use Rattle.gl_query_reader.specs.Meaning.{part_in}
use Rattle.gl_query_reader.specs.Mixed.{other_part}
use Rattle.gl_query_reader.specs.Trees.{item_of, items_of}
use Rattle.gl_query_reader.proofs.mixed.other_part.Given as goal

abbrev pub invariant-loop-item : goal.invariant-loop-item
invariant-loop-item l = other_part (part_in (item_of l.first)) (items_of (drop l.item-index l.items)) ≡ other_part (part_in (item_of l.first)) (items_of l.items)
