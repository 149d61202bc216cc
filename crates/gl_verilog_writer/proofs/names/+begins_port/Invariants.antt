use Rattle.std.proofs.Common.{length}
use Rattle.gl_verilog_writer.proofs.names.+begins_port.Given as goal

abbrev pub decreases-begins_port : goal.decreases-begins_port
decreases-begins_port l = length l.ports.now
