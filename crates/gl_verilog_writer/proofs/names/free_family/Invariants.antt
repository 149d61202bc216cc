use Rattle.std.proofs.Common.{◌≡◌, ◌-◌, length}
use Rattle.gl_verilog_writer.specs.Labelled.{family_from}
use Rattle.gl_verilog_writer.proofs.names.free_family.Given as goal

abbrev pub invariant-loop-family : goal.invariant-loop-family
invariant-loop-family l = family_from l.ports (length l.ports - l.family) l.family ≡ family_from l.ports (length l.ports) 0
