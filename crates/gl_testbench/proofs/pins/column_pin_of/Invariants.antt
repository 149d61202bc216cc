use Rattle.std.proofs.Common.{◌≡◌, drop}
use Rattle.gl_testbench.specs.Carried.{column_pin}
use Rattle.gl_testbench.proofs.pins.column_pin_of.Given as goal

abbrev pub invariant-loop-place : goal.invariant-loop-place
invariant-loop-place l = column_pin l.name l.stream.name l.at l.place (drop l.place l.stream.columns) ≡ column_pin l.name l.stream.name l.at 0 l.stream.columns
