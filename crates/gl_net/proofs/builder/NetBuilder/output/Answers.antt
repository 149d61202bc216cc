use Rattle.gl_net.proofs.Ports.{port_grows, port_size, port_register_bits, port_memory_bits}
use Rattle.gl_net.proofs.builder.NetBuilder.output.Goals as goal

pub returns-clause-grows : goal.returns-clause-grows
returns-clause-grows c = port_grows _ _ _ _ _ c.in_ok-push_output.ensures.ok

pub returns-clause-size : goal.returns-clause-size
returns-clause-size c = port_size _ _ _ _ _ c.in_ok-push_output.ensures.ok

pub returns-clause-register_bits : goal.returns-clause-register_bits
returns-clause-register_bits c = port_register_bits _ _ _ _ _ c.in_ok-push_output.ensures.ok

pub returns-clause-memory_bits : goal.returns-clause-memory_bits
returns-clause-memory_bits c = port_memory_bits _ _ _ _ _ c.in_ok-push_output.ensures.ok
