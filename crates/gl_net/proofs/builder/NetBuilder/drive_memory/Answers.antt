use Rattle.gl_net.proofs.Drive.{memory_grows, memory_others, memory_open, memory_size, memory_register_bits, memory_memory_bits, memory_value}
use Rattle.gl_net.proofs.builder.NetBuilder.drive_memory.Goals as goal

pub returns-clause-grows : goal.returns-clause-grows
returns-clause-grows c = memory_grows _ _ _ _ c.set_drive.ensures

pub returns-clause-others : goal.returns-clause-others
returns-clause-others c = memory_others _ _ _ _ c.set_drive.ensures

pub returns-clause-driven : goal.returns-clause-driven
returns-clause-driven c = memory_open _ _ _ _ c.set_drive.ensures

pub returns-clause-size : goal.returns-clause-size
returns-clause-size c = memory_size _ _ _ _ c.set_drive.ensures

pub returns-clause-value : goal.returns-clause-value
returns-clause-value c = memory_value _ _ _ _ c.set_drive.ensures

pub returns-clause-register_bits : goal.returns-clause-register_bits
returns-clause-register_bits c = memory_register_bits _ _ _ _ c.set_drive.ensures

pub returns-clause-memory_bits : goal.returns-clause-memory_bits
returns-clause-memory_bits c = memory_memory_bits _ _ _ _ c.set_drive.ensures
