use Rattle.std.proofs.Common.{◌≡◌, ◌++◌, drop}
use Rattle.gl_verilog_writer.specs.Labelled.{clean}
use Rattle.gl_verilog_writer.proofs.names.put_clean.Given as goal

abbrev pub invariant-loop-byte : goal.invariant-loop-byte
invariant-loop-byte l = l.out.items ++ clean l.room (drop l.byte-index l.label) ≡ l.initial.out.items ++ clean 64 l.label
