use Rattle.std.proofs.Common.{◌≡◌, ◌++◌, map, drop}
use Rattle.gl_verilog.specs.View.{declaration_of}
use Rattle.gl_verilog.specs.Runnable.{inputs_from}
use Rattle.gl_sim.proofs.room.ports_of.Given as goal

abbrev pub invariant-loop-n : goal.invariant-loop-n
invariant-loop-n l = l.ports.items ++ inputs_from l.n (map declaration_of (drop l.n l.declarations)) ≡ inputs_from 0 (map declaration_of l.declarations)
