use Rattle.std.proofs.Common.{◌≡◌, map, take}
use Rattle.gl_verilog.specs.View.{declaration_of}
use Rattle.gl_sim.specs.Starts.{zero_bank}
use Rattle.gl_sim.proofs.room.banks_of.Given as goal

abbrev pub invariant-loop-declaration : goal.invariant-loop-declaration
invariant-loop-declaration l = l.banks.items ≡ map zero_bank (map declaration_of (take l.declaration-index l.declarations))
