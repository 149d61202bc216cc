use Rattle.std.proofs.Common.{◌≡◌, map, take}
use Rattle.gl_verilog.specs.View.{declaration_of}
use Rattle.gl_verilog.specs.Widths.{width_at}
use Rattle.gl_sim_tests.proofs.simulating.widths_at.Given as goal

abbrev pub invariant-loop-number : goal.invariant-loop-number
invariant-loop-number l = l.widths.items ≡ map (width_at (map declaration_of l.declarations)) (take l.number-index l.numbers)
