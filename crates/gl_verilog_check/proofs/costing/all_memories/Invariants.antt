use Rattle.std.proofs.Common.{◌≡◌, ◌≤◌, ◌*◌, sum_by, map, take}
use Rattle.gl_verilog.specs.Cost.{memory_bits_of}
use Rattle.gl_verilog.specs.View.{declaration_of}
use Rattle.gl_verilog_check.proofs.costing.all_memories.Given as goal

abbrev pub invariant-loop-declaration : goal.invariant-loop-declaration
invariant-loop-declaration l = (l.total ≡ sum_by (λ d. memory_bits_of d.kind d.width) (map declaration_of (take l.declaration-index l.declarations))) × (l.total ≤ l.declaration-index * 1099511627776)
