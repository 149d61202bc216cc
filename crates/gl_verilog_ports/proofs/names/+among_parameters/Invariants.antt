use Rattle.std.proofs.Common.{length}
use Rattle.gl_verilog_ports.proofs.names.+among_parameters.Given as goal

abbrev pub decreases-among_parameters : goal.decreases-among_parameters
decreases-among_parameters l = length l.parameters.now
