use Rattle.std.proofs.Common.{◌≡◌, ◌≤◌, ◌*◌, sum_by, take}
use Rattle.gl_net.specs.Net.{memory_bits as memory_bits_of_node}
use Rattle.gl_net.proofs.counting.all_memories.Given as goal

abbrev pub invariant-loop-node : goal.invariant-loop-node
invariant-loop-node l = (l.total ≡ sum_by memory_bits_of_node (take l.node-index l.nodes)) × (l.total ≤ l.node-index * 1099511627776)
