use Rattle.std.proofs.Common.{◌≡◌, ◌++◌, map, drop}
use Rattle.gl_bits.specs.Words.{widths_of}
use Rattle.gl_verilog.specs.View.{declaration_of}
use Rattle.gl_vcd.specs.Written.{ports_among}
use Rattle.gl_runner.specs.Dumping.{numbers_from}
use Rattle.gl_runner.proofs.dumping.DumpLines.add_all.Given as goal

-- the numbers and the widths of the ports so far
abbrev pub invariant-loop-number : goal.invariant-loop-number
invariant-loop-number l = record {
  next : l.self.next ≡ 0;
  end' : l.self.end ≡ l.initial.self.end;
  ports : l.self.ports.items ++ numbers_from l.number (map declaration_of (drop l.number l.ports)) ≡ numbers_from 0 (map declaration_of l.ports);
  now : widths_of l.self.now ++ map (λ p. p.width) (ports_among (map declaration_of (drop l.number l.ports))) ≡ map (λ p. p.width) (ports_among (map declaration_of l.ports));
  before : widths_of l.self.before ++ map (λ p. p.width) (ports_among (map declaration_of (drop l.number l.ports))) ≡ map (λ p. p.width) (ports_among (map declaration_of l.ports));
}
