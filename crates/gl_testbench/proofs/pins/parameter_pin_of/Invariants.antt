use Rattle.std.proofs.Common.{◌≡◌, drop}
use Rattle.gl_testbench.specs.Carried.{parameter_pin}
use Rattle.gl_testbench.proofs.pins.parameter_pin_of.Given as goal

abbrev pub invariant-loop-number : goal.invariant-loop-number
invariant-loop-number l = parameter_pin l.name l.number (drop l.number l.parameters) ≡ parameter_pin l.name 0 l.parameters
