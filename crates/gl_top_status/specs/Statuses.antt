-- The numbers of the statuses.
use Rattle.std.specs.Prelude.{ℕ}
use Rattle.gl_top_status.specs.declared.status.Status.{Status}
use Rattle.gl_top_status.specs.declared.status.Status.TheVariants.{Done, Usage, Missing, ReadFault, WriteFault, Schema, Query, Tuples, Verilog, Limit, Memory, NoEnd, Dump}

-- the number with which the program exits for each status
abbrev pub code_of : Status → ℕ
code_of Done = 0
code_of Usage = 1
code_of Missing = 2
code_of ReadFault = 3
code_of WriteFault = 4
code_of Schema = 5
code_of Query = 6
code_of Tuples = 7
code_of Verilog = 8
code_of Limit = 9
code_of Memory = 10
code_of NoEnd = 11
code_of Dump = 12
