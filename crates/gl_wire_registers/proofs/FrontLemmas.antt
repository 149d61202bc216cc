-- Fronts stay in a netlist that grows, and a back of copies without keys.
use Rattle.std.proofs.Common.{◌≡◌, ℕ, List, length, Option, Some, None, subst}
use Rattle.gl_net.specs.declared.node.Bit.{Bit}
use Rattle.gl_net.specs.declared.node.Bus.{Bus}
use Rattle.gl_net.specs.Net.{Net, Run, IsRun, Keeps}
use Rattle.gl_wire.specs.declared.emitted.Emitted.{Emitted}
use Rattle.gl_wire.specs.Costs.{Cost, CostsAtMost}
use Rattle.gl_wire.specs.Faults.{line_of, lines_of}
use Rattle.gl_wire.specs.Shapes.{IsDelayed}
use Rattle.gl_wire.specs.Spills.{SameLines, both_lines}
use Rattle.gl_wire.specs.Wire.{carried, line_at}
use Rattle.gl_wire.proofs.ColumnLemmas.{bit_kept, bus_kept, wire_kept}
use Rattle.gl_wire.proofs.FaultLemmas.{line_kept, lines_kept}
use Rattle.gl_wire.specs.Lift.{tuple_of_any}
use Rattle.gl_wire.specs.Rotates.{lines_of_all}
use Rattle.gl_wire_registers.specs.declared.front.Front.{Front}
use Rattle.gl_wire_registers.specs.Fronts.{Feeding, Fronts, Giving, IsBacked, KeysFit, Machine, feed_of, keyless}
use Rattle.gl_wire_registers.specs.Joins.{JoinsAll, columns_of, cost_of_back, gives_of, told_of}

-- keys stay in a netlist that grows
pub keys_kept : (old new : Net) (count : ℕ) (key : Option ℕ) (source : List ℕ) (keys : List Bus) → Keeps old new → KeysFit old count key source keys → KeysFit new count key source keys
keys_kept old new count None source keys keeps h = tt
keys_kept old new count (Some key) source keys keeps h = record { as_many = h.as_many; each = λ k b e. let x = h.each k b e in (bus_kept old new b keeps x.0, x.1) }

-- a front stays one in a netlist that grows
pub fronts_kept : (old new : Net) (m : Machine) (f : Front) → Keeps old new → Fronts old m f → Fronts new m f
fronts_kept old new m f keeps h = record {
  source = wire_kept old new f.source.wire keeps h.source;
  lines = lines_kept old new f.source.faults keeps h.lines;
  column = h.column;
  ticks = line_kept old new m.tick keeps h.ticks;
  as_many = h.as_many;
  wires = λ k w e. let x = h.wires k w e in (wire_kept old new w keeps x.0, x.1);
  keys = keys_kept old new m.count m.key _ f.keys keeps h.keys;
  further = line_kept old new f.further keeps h.further;
  close = bit_kept old new f.close keeps h.close;
  feeds = λ run r'. h.feeds run (keeps.runs run r');
}

-- what joins all copies is a back of copies without keys, if the whole serves what it should one cycle behind them
pub keyless_backed : (old new : Net) (count : ℕ) (tick : Option Bit) (front_cost : List ℕ → Cost) (feeds : Feeding) (serves : Giving) (f : Front) (copies : List Emitted) (e : Emitted) → length copies ≡ count
    → JoinsAll old new f.source.faults f.close copies e
    → ((run : Run) → IsRun new run → IsDelayed 1 (record { tuple = tuple_of_any (gives_of run copies) count; ends = line_at run f.close }) (carried run e.wire)
    → serves (line_of run tick) (carried run f.source.wire) (feed_of run f) (gives_of run copies) (told_of run copies) (carried run e.wire))
    → IsBacked old new (keyless count tick front_cost feeds serves) f copies e
keyless_backed old new count tick front_cost feeds serves f copies e many j serving = record {
  keeps = j.keeps;
  cost = subst (λ (n : ℕ). CostsAtMost old new (cost_of_back n (columns_of copies))) many j.cost;
  wire = j.wire;
  same_widths = j.same_widths;
  lines = j.lines;
  told = λ run r.
      subst (λ (n : ℕ). SameLines (lines_of run e.faults) (both_lines (lines_of run f.source.faults) (lines_of_all (told_of run copies) n))) many (j.told run r);
  serves = λ run r.
      serving run r (subst (λ (n : ℕ). IsDelayed 1 (record { tuple = tuple_of_any (gives_of run copies) n; ends = line_at run f.close }) (carried run e.wire)) many (j.delayed run r));
}
