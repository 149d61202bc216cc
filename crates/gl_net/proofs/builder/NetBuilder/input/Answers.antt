use Rattle.gl_net.proofs.Ports.{input_grows, input_open, input_has, input_size, input_register_bits, input_memory_bits}
use Rattle.gl_net.proofs.builder.NetBuilder.input.Goals as goal

pub returns-clause-grows : goal.returns-clause-grows
returns-clause-grows c = input_grows _ _ _ _ _ c.in_ok-node.ensures.ok

pub returns-clause-undriven : goal.returns-clause-undriven
returns-clause-undriven c = input_open _ _ _ _ _ c.in_ok-node.ensures.ok

pub returns-clause-bus : goal.returns-clause-bus
returns-clause-bus c = record { there = input_has _ _ _ _ _ c.in_ok-node.ensures.ok; width = c.requires }

pub returns-clause-size : goal.returns-clause-size
returns-clause-size c = input_size _ _ _ _ _ c.in_ok-node.ensures.ok

pub returns-clause-register_bits : goal.returns-clause-register_bits
returns-clause-register_bits c = input_register_bits _ _ _ _ _ c.in_ok-node.ensures.ok

pub returns-clause-memory_bits : goal.returns-clause-memory_bits
returns-clause-memory_bits c = input_memory_bits _ _ _ _ _ c.in_ok-node.ensures.ok
