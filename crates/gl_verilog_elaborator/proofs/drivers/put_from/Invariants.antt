use Rattle.std.proofs.Common.{◌≡◌, drop}
use Rattle.std.specs.Prelude.{fold}
use Rattle.gl_verilog_elaborator.specs.Judged.{with_name}
use Rattle.gl_verilog_elaborator.specs.View.{names_in}
use Rattle.gl_verilog_elaborator.proofs.drivers.put_from.Given as goal

abbrev pub invariant-loop-i : goal.invariant-loop-i
invariant-loop-i l = fold with_name (names_in l.names.keys) (names_in (drop l.i l.more)) ≡ fold with_name (names_in l.initial.names.keys) (names_in (drop l.from l.more))
