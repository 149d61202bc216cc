use Rattle.std.proofs.Common.{◌≡◌, take}
use Rattle.gl_tuple_reader.specs.Settings.{values_in}
use Rattle.gl_tuple_reader.proofs.setting.values_of.Given as goal

-- the values so far
abbrev pub invariant-loop-set : goal.invariant-loop-set
invariant-loop-set l = l.values.items ≡ values_in (take l.set-index l.sets)
