use Rattle.std.proofs.Common.{◌≡◌, map, take}
use Rattle.gl_verilog.specs.View.{declaration_of}
use Rattle.gl_testbench.specs.Carried.{pin_at}
use Rattle.gl_testbench.proofs.bench.pins_at.Given as goal

abbrev pub invariant-loop-number : goal.invariant-loop-number
invariant-loop-number l = l.pins.items ≡ map (pin_at l.schema (map declaration_of l.declarations)) (take l.number-index l.numbers)
