use Rattle.std.proofs.Common.{◌≡◌, ◌++◌, drop}
use Rattle.gl_verilog_elaborator.specs.Numbers.{grown}
use Rattle.gl_verilog_elaborator.proofs.numbers.grow.Given as goal

abbrev pub invariant-loop-limb : goal.invariant-loop-limb
invariant-loop-limb l = l.all.items ++ grown l.radix l.carry (drop l.limb-index l.limbs) ≡ grown l.radix l.digit l.limbs
