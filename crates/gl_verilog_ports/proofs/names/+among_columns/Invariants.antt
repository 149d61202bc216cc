use Rattle.std.proofs.Common.{length}
use Rattle.gl_verilog_ports.proofs.names.+among_columns.Given as goal

abbrev pub decreases-among_columns : goal.decreases-among_columns
decreases-among_columns l = length l.columns.now
