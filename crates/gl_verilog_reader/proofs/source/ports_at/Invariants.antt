use Rattle.std.proofs.Common.{ℕ, ◌+◌, ◌≤◌, List, ◌++◌, length, drop, map}
use Rattle.std.specs.List.{AllZip}
use Rattle.gl_verilog.specs.Written.{spell_more_ports}
use Rattle.gl_verilog_tokens.specs.View.{port_of}
use Rattle.gl_verilog_tokens.specs.Placed.{places_in}
use Rattle.gl_verilog_reader.specs.Sources.{port_tokens, IsAt}
use Rattle.gl_verilog_reader.proofs.source.ports_at.Given as goal

-- the ports that are left are among the tokens, and their places complete those so far
abbrev pub invariant-loop-port : goal.invariant-loop-port
invariant-loop-port l = record {
  within : l.next + length (spell_more_ports (map port_of (drop l.port-index l.ports))) ≤ length l.lexemes;
  placed : (ys : List ℕ) → AllZip (IsAt (places_in l.lexemes)) (port_tokens l.next (map port_of (drop l.port-index l.ports))) ys → AllZip (IsAt (places_in l.lexemes)) (port_tokens 3 (map port_of l.ports)) (l.places.items ++ ys);
}
