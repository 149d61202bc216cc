use Rattle.std.proofs.Common.{ap, sym, subst, ◌∙◌, sum_by, List}
use Rattle.gl_net.specs.declared.node.Node.{Node}
use Rattle.gl_net.specs.Net.{memory_bits, memory_bits_of, register_bits, register_bits_of}
use Rattle.gl_net.specs.Small.{AreAddressed}
use Rattle.gl_net.proofs.Addressed.{addressed}
use Rattle.gl_net.proofs.counting.cost_of.Goals as goal

pub all_memories-requires : goal.all_memories-requires
all_memories-requires c = subst AreAddressed (sym c.nodes-nodes.ensures.value) (addressed c.args.net.now c.nodes-nodes.ensures.netlist)

pub returns-clause-registers : goal.returns-clause-registers
unfolding register_bits_of
returns-clause-registers c = c.all_registers.ensures ∙ ap (λ (xs : List Node). sum_by register_bits xs) c.nodes-nodes.ensures.value

pub returns-clause-memories : goal.returns-clause-memories
unfolding memory_bits_of
returns-clause-memories c = c.all_memories.ensures ∙ ap (λ (xs : List Node). sum_by memory_bits xs) c.nodes-nodes.ensures.value
