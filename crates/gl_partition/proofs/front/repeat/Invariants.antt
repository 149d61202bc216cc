use Rattle.std.proofs.Common.{◌≡◌, take}
use Rattle.gl_partition.specs.Fronts.{repeated}
use Rattle.gl_partition.proofs.front.repeat.Given as goal

abbrev pub invariant-loop-key : goal.invariant-loop-key
invariant-loop-key l = l.all ≡ repeated l.copies (take l.key-index l.keys)
