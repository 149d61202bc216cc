use Rattle.std.proofs.Common.{◌≡◌, ◌^◌, drop}
use Rattle.std.specs.Prelude.{nat_lt}
use Rattle.gl_verilog_elaborator.specs.Numbers.{value_of}
use Rattle.gl_verilog_elaborator.proofs.numbers.are_below.Given as goal

abbrev pub invariant-loop-limb : goal.invariant-loop-limb
invariant-loop-limb l = nat_lt (value_of (drop l.limb-index l.limbs)) (2 ^ l.left) ≡ nat_lt (value_of l.limbs) (2 ^ l.size)
