use Rattle.std.proofs.Common.{◌≡◌, ◌≤◌, ◌*◌, sum_by, take}
use Rattle.gl_net.specs.Net.{register_bits as register_bits_of_node}
use Rattle.gl_net.proofs.counting.all_registers.Given as goal

abbrev pub invariant-loop-node : goal.invariant-loop-node
invariant-loop-node l = (l.total ≡ sum_by register_bits_of_node (take l.node-index l.nodes)) × (l.total ≤ l.node-index * 255)
