-- A front and a back in a netlist, from their parts, and what they serve.
use Rattle.std.proofs.Common.{◌≡◌, ℕ, ◌+◌, ◌<◌, List, length, Some, refl, ◌∙◌, subst, arith}
use Rattle.gl_algebra.specs.declared.figures.Figures.{Figures}
use Rattle.gl_algebra.specs.FigureTable.{IsSound, stride_of}
use Rattle.gl_net.specs.declared.node.Bit.{Bit}
use Rattle.gl_net.specs.Net.{Net, Run, IsRun}
use Rattle.gl_net.proofs.Determined.{keeps_then}
use Rattle.gl_wire.specs.declared.emitted.Emitted.{Emitted}
use Rattle.gl_wire.specs.Faults.{AreLines, line_of}
use Rattle.gl_wire.specs.Shapes.{IsDelayed}
use Rattle.gl_wire.specs.Wire.{Carried, IsWire, carried, line_at, widths}
use Rattle.gl_wire.proofs.ColumnLemmas.{bus_kept, wire_kept, bit_kept}
use Rattle.gl_wire.proofs.FaultLemmas.{lines_kept}
use Rattle.gl_wire.specs.Lift.{tuple_of_any}
use Rattle.gl_wire_registers.specs.Lines.{carried_of, held_of}
use Rattle.gl_wire_registers.specs.Timers.{IsClose, IsCloseLine}
use Rattle.gl_wire_registers.specs.declared.front.Front.{Front}
use Rattle.gl_wire_registers.specs.Fronts.{Fronts, IsBacked, IsFronted}
use Rattle.gl_slots.specs.declared.front.Front.{Front as Given}
use Rattle.gl_groups.specs.declared.grouping.Grouping.{Grouping}
use Rattle.gl_slots.specs.Fronts.{AddsFront, IsFront}
use Rattle.gl_groups.specs.Grouped.{grouping_machine}
use Rattle.gl_slots.specs.Keys.{with_keys}
use Rattle.gl_groups.specs.Groupings.{AwaitsFlush, IsGrouping, ServesGroups, close_cycles, close_delay, key_of}
use Rattle.gl_slots.specs.Joins.{JoinsAll}
use Rattle.gl_slots.specs.Picks.{bits_of_slots}
use Rattle.gl_wire_registers.specs.Joins.{gives_of, told_of}
use Rattle.gl_slots.specs.Slots.{AreSlots}
use Rattle.gl_slots.proofs.Setting.{Setting, awaited}
use Rattle.gl_slots.proofs.FurtherLemmas.{further_came}
use Rattle.gl_groups.specs.Laws.{GroupingsServe}
use Rattle.gl_slots.proofs.BackNet.{keyed_backed}

-- what is given behind a source that awaits each flush
abbrev pub setting_of : (r : Grouping) (a : Carried) (ins : ℕ → Carried) → IsGrouping r → AreSlots r.slots (key_of r) (stride_of r.body) a ins → AwaitsFlush r a → Setting
setting_of r a ins is law awaits = awaited r.slots (key_of r) (stride_of r.body) a ins is.some' (omega arith) law awaits

-- wires and keys of a front, and a line of ends behind it
pub is_fronted : (old mid new : Net) (r : Grouping) (source : Emitted) (g : Given) (close : Bit) (stride cycles width : ℕ) → stride ≡ stride_of r.body → cycles ≡ close_cycles r → width ≡ bits_of_slots r.slots + 1 → IsGrouping r
    → IsWire old source.wire → AreLines old source.faults → r.key < length (widths source.wire.columns) → AddsFront old mid r.key r.slots stride width source.wire g → IsCloseLine mid new cycles 0 source.wire.eos close
    → IsFronted old new (grouping_machine r) source (record { source = source; wires = g.wires; keys = g.keys; further = Some g.further; close = close })
is_fronted old mid new r source g close stride cycles width is_stride is_cycles is_width is wire lines key f c = record {
  keeps = keeps_then old mid new f.keeps c.keeps;
  cost = record {
    nodes = omega (arith, f.cost.nodes, c.cost.nodes);
    registers = omega (arith, f.cost.registers, c.cost.registers, c.few, is_width);
    memories = omega (arith, f.cost.memories, c.cost.memories);
  };
  same = refl;
  fronts = record {
    source = wire_kept old new source.wire (keeps_then old mid new f.keeps c.keeps) wire;
    lines = lines_kept old new source.faults (keeps_then old mid new f.keeps c.keeps) lines;
    column = key;
    ticks = tt;
    as_many = f.as_many;
    wires = λ k w h. let x = f.wires k w h in (wire_kept mid new w c.keeps x.0, x.1);
    keys = record { as_many = f.keys_count; each = λ k b h. let x = f.keys k b h in (bus_kept mid new b c.keeps x.0, x.1) };
    further = bit_kept mid new g.further c.keeps f.further;
    close = c.bit;
    feeds = λ run z.
        let l = law run (f.law run (c.keeps.runs run z)) in
        record {
          front = l.front;
          shown = l.shown;
          told = λ awaits n. l.told n ∙ further_came (setting_of r (carried run source.wire) (carried_of run g.wires) is l.front awaits) n;
          closes = ap_close run (subst (λ (n : ℕ). IsClose n (n + 1 + 0) (line_at run source.wire.eos) (line_at run close)) is_cycles (c.close run z));
        };
  };
}
  where
    law : (run : Run) → IsFront run r.key r.slots stride source.wire g → IsFront run r.key r.slots (stride_of r.body) source.wire g
    law run h = subst (λ (n : ℕ). IsFront run r.key r.slots n source.wire g) is_stride h

    ap_close : (run : Run) → IsClose (close_cycles r) (close_cycles r + 1 + 0) (line_at run source.wire.eos) (line_at run close) → IsClose (close_cycles r) (close_delay r) (line_at run source.wire.eos) (line_at run close)
    ap_close run h = let e : close_cycles r + 1 + 0 ≡ close_delay r = omega arith in subst (λ (n : ℕ). IsClose (close_cycles r) n (line_at run source.wire.eos) (line_at run close)) e h

-- a back behind copies of a front
pub is_backed : GroupingsServe → (old new : Net) (r : Grouping) (f : Front) (copies : List Emitted) (e : Emitted) → IsGrouping r → Fronts old (grouping_machine r) f → length copies ≡ r.slots
    → JoinsAll old new f.source.faults f.further f.close f.keys copies e → IsBacked old new (grouping_machine r) f copies e
is_backed groupings_serve old new r f copies e is h many j = keyed_backed old new r.slots r.key _ _ _ f copies e is.some' h many j serving
  where
    serving : (run : Run) → IsRun new run → IsDelayed 1 (record { tuple = tuple_of_any (with_keys (held_of run f.keys) (gives_of run copies)) r.slots; ends = line_at run f.close }) (carried run e.wire)
        → (source : Figures) → IsSound source
        → ServesGroups r source (carried run f.source.wire) (carried_of run f.wires) (gives_of run copies) (told_of run copies) (line_of run f.further) (carried run e.wire)
    serving run z delayed source sound =
        let fed = h.feeds run (j.keeps.runs run z) in
        groupings_serve r source (carried run f.source.wire) (carried run e.wire) (held_of run f.keys) (carried_of run f.wires) (gives_of run copies) (line_at run f.close) (line_of run f.further) (told_of run copies)
        is sound fed.front fed.shown fed.told fed.closes delayed
