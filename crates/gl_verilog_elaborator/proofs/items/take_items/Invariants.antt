use Rattle.std.proofs.Common.{◌≡◌, drop, map}
use Rattle.gl_verilog_tokens.specs.View.{item_of}
use Rattle.gl_verilog_elaborator.specs.Elaborated.{elaborated_items}
use Rattle.gl_verilog_elaborator.specs.View.{elaborated_of}
use Rattle.gl_verilog_elaborator.proofs.items.take_items.Given as goal

abbrev pub invariant-loop-item : goal.invariant-loop-item
invariant-loop-item l = elaborated_items (elaborated_of l.e) (map item_of (drop l.item-index l.items)) ≡ elaborated_items (elaborated_of l.initial.e) (map item_of l.items)
