use Rattle.std.proofs.Common.{◌≡◌, drop}
use Rattle.gl_query_reader.specs.Meaning.{first_over}
use Rattle.gl_query_reader.specs.Trees.{items_of}
use Rattle.gl_query_reader.proofs.mixed.first_over.Given as goal

abbrev pub invariant-loop-item : goal.invariant-loop-item
invariant-loop-item l = first_over (items_of (drop l.item-index l.items)) ≡ first_over (items_of l.items)
