use Rattle.std.proofs.Common.{◌≡◌, drop}
use Rattle.gl_query_reader.specs.Mixed.{first_other}
use Rattle.gl_query_reader.specs.Trees.{items_of}
use Rattle.gl_query_reader.proofs.mixed.first_other.Given as goal

abbrev pub invariant-loop-item : goal.invariant-loop-item
invariant-loop-item l = first_other l.sort (items_of (drop l.item-index l.items)) ≡ first_other l.sort (items_of l.items)
