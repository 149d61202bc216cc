use Rattle.std.proofs.Common.{length}
use Rattle.gl_verilog_ports.proofs.names.+behind.Given as goal

abbrev pub decreases-behind : goal.decreases-behind
decreases-behind l = length l.front.now
