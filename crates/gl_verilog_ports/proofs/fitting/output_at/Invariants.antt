use Rattle.std.proofs.Common.{◌≡◌, ◌+◌, drop, map}
use Rattle.std.specs.Option.{option_map}
use Rattle.gl_verilog.specs.View.{declaration_of}
use Rattle.gl_verilog_ports.specs.Fit.{output_at}
use Rattle.gl_verilog_ports.proofs.fitting.output_at.Given as goal

abbrev pub invariant-loop-number : goal.invariant-loop-number
invariant-loop-number l = option_map (λ k. k + l.number) (output_at (map declaration_of (drop l.number l.ports)) l.name) ≡ output_at (map declaration_of l.ports) l.name
