use Rattle.std.proofs.Common.{◌≡◌, ◌+◌, drop, map}
use Rattle.std.specs.Option.{option_map}
use Rattle.gl_verilog.specs.View.{declaration_of}
use Rattle.gl_verilog.specs.Module.{number_of}
use Rattle.gl_testbench.proofs.pins.number_of.Given as goal

abbrev pub invariant-loop-number : goal.invariant-loop-number
invariant-loop-number l = option_map (λ k. k + l.number) (number_of (map declaration_of (drop l.number l.ports)) l.name) ≡ number_of (map declaration_of l.ports) l.name
