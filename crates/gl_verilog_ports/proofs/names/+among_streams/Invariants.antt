use Rattle.std.proofs.Common.{length}
use Rattle.gl_verilog_ports.proofs.names.+among_streams.Given as goal

abbrev pub decreases-among_streams : goal.decreases-among_streams
decreases-among_streams l = length l.streams.now
