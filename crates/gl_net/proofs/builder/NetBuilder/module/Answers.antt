use Rattle.gl_net.proofs.Ports.{name_size, name_register_bits, name_memory_bits}
use Rattle.gl_net.proofs.builder.NetBuilder.module.Goals as goal

pub returns-clause-size : goal.returns-clause-size
returns-clause-size c = name_size _ _ _ c.set_name.ensures

pub returns-clause-register_bits : goal.returns-clause-register_bits
returns-clause-register_bits c = name_register_bits _ _ _ c.set_name.ensures

pub returns-clause-memory_bits : goal.returns-clause-memory_bits
returns-clause-memory_bits c = name_memory_bits _ _ _ c.set_name.ensures
