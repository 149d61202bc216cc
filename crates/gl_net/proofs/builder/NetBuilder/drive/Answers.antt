use Rattle.gl_net.proofs.Drive.{drive_grows, drive_others, drive_open, drive_size, drive_register_bits, drive_memory_bits, drive_value, drive_first}
use Rattle.gl_net.proofs.builder.NetBuilder.drive.Goals as goal

pub returns-clause-grows : goal.returns-clause-grows
returns-clause-grows c = drive_grows _ _ _ _ c.set_next.ensures

pub returns-clause-others : goal.returns-clause-others
returns-clause-others c = drive_others _ _ _ _ c.set_next.ensures

pub returns-clause-driven : goal.returns-clause-driven
returns-clause-driven c = drive_open _ _ _ _ c.set_next.ensures

pub returns-clause-size : goal.returns-clause-size
returns-clause-size c = drive_size _ _ _ _ c.set_next.ensures

pub returns-clause-value : goal.returns-clause-value
returns-clause-value c = drive_value _ _ _ _ c.set_next.ensures

pub returns-clause-first : goal.returns-clause-first
returns-clause-first c = drive_first _ _ _ _ c.set_next.ensures

pub returns-clause-register_bits : goal.returns-clause-register_bits
returns-clause-register_bits c = drive_register_bits _ _ _ _ c.set_next.ensures

pub returns-clause-memory_bits : goal.returns-clause-memory_bits
returns-clause-memory_bits c = drive_memory_bits _ _ _ _ c.set_next.ensures
