use Rattle.std.proofs.Common.{refl, ◌∙◌, add-zero}
use Rattle.gl_net.proofs.Growth.{adds_grows, adds_open_other, adds_open, adds_fresh, adds_has, adds_size, adds_register_bits, adds_memory_bits}
use Rattle.gl_net.proofs.builder.NetBuilder.memory.Goals as goal

pub returns-clause-grows : goal.returns-clause-grows
returns-clause-grows c = adds_grows _ _ _ _ c.in_ok-node.ensures.ok

pub returns-clause-others : goal.returns-clause-others
returns-clause-others c = adds_open_other _ _ _ _ c.in_ok-node.ensures.ok

pub returns-clause-undriven : goal.returns-clause-undriven
returns-clause-undriven c = adds_open _ _ _ _ c.in_ok-node.ensures.ok

pub returns-clause-fresh : goal.returns-clause-fresh
returns-clause-fresh c = adds_fresh _ _ _ _ c.in_ok-node.ensures.ok

pub returns-clause-store : goal.returns-clause-store
returns-clause-store c = record { there = adds_has _ _ _ _ c.in_ok-node.ensures.ok _ refl; bits = c.requires.bits; width = c.requires.width }

pub returns-clause-size : goal.returns-clause-size
returns-clause-size c = adds_size _ _ _ _ c.in_ok-node.ensures.ok

pub returns-clause-register_bits : goal.returns-clause-register_bits
returns-clause-register_bits c = adds_register_bits _ _ _ _ c.in_ok-node.ensures.ok ∙ add-zero _

pub returns-clause-memory_bits : goal.returns-clause-memory_bits
returns-clause-memory_bits c = adds_memory_bits _ _ _ _ c.in_ok-node.ensures.ok
