-- A front and a back in a netlist, from their parts, and what they serve.
use Rattle.std.proofs.Common.{◌≡◌, ℕ, zero, suc, ◌+◌, ◌*◌, ◌<◌, ◌≤◌, List, length, Option, Some, None, Bool, false, ◌&&◌, refl, ◌∙◌, subst, arith}
use Rattle.std.specs.Prelude.{nat_eq}
use Rattle.std.proofs.Math.Nat.{mul-le-mul_left, mul-le-mul_right, mul-pos}
use Rattle.gl_algebra.specs.declared.figures.Figures.{Figures}
use Rattle.gl_algebra.specs.FigureTable.{IsSound, stride_of}
use Rattle.gl_values.specs.Results.{Row}
use Rattle.gl_net.specs.declared.node.Bit.{Bit}
use Rattle.gl_net.specs.Net.{Net, Run, IsRun}
use Rattle.gl_net.proofs.Determined.{keeps_then}
use Rattle.gl_wire.specs.declared.emitted.Emitted.{Emitted}
use Rattle.gl_wire.specs.Faults.{AreLines, line_of}
use Rattle.gl_wire.specs.Shapes.{IsDelayed}
use Rattle.gl_wire.specs.Wire.{Carried, IsWire, carried, line_at, widths}
use Rattle.gl_wire.proofs.ColumnLemmas.{bus_kept, wire_kept, bit_kept}
use Rattle.gl_wire.proofs.FaultLemmas.{lines_kept}
use Rattle.gl_wire.specs.Lift.{tuple_of_any}
use Rattle.gl_wire.proofs.NumberLemmas as numbers
use Rattle.gl_wire_registers.specs.Lines.{carried_of, held_of}
use Rattle.gl_wire_registers.specs.Joins.{gives_of, told_of}
use Rattle.gl_wire_registers.specs.Timers.{IsClose, IsCloseLine}
use Rattle.gl_slots.specs.Keys.{with_keys}
use Rattle.gl_slots.specs.Joins.{JoinsAll}
use Rattle.gl_slots.specs.Picks.{bits_of_slots}
use Rattle.gl_slots.specs.Slots.{keys_at, slot_at, slot_ends_at, slot_takes, slots_at}
use Rattle.gl_slots.proofs.Setting.{Setting}
use Rattle.gl_slots.proofs.FurtherLemmas.{further_came}
use Rattle.gl_wire_registers.specs.declared.front.Front.{Front}
use Rattle.gl_wire_registers.specs.Fronts.{Fronts, IsBacked, IsFronted}
use Rattle.gl_slots.proofs.BackNet.{keyed_backed}
use Rattle.gl_partition.specs.declared.front.Front.{Front as Given}
use Rattle.gl_partition.specs.declared.partitioning.Partitioning.{Partitioning}
use Rattle.gl_partition.specs.Fronts.{AddsFront, IsFront}
use Rattle.gl_partition.specs.Partitioned.{partitioning_machine}
use Rattle.gl_partition.specs.Partitionings.{AwaitsFlush, IsPartitioning, ServesPartitions, all_copies, all_turns, close_cycles, close_delay, key_of, numbers_of}
use Rattle.gl_partition.specs.Laws.{PartitioningsServe}

-- what a slot would take of a source, and when it would end, if it had one copy
abbrev slot_tuple : Partitioning → Carried → ℕ → ℕ → Option Row
slot_tuple r a k zero = None
slot_tuple r a k (suc c) =
    slot_takes (key_of r) (a.ends c) (a.tuple c) (keys_at r.slots (key_of r) (stride_of r.body) a c) (slots_at r.slots (key_of r) (stride_of r.body) a c) k

abbrev slot_end : Partitioning → Carried → ℕ → ℕ → Bool
slot_end r a k zero = false
slot_end r a k (suc c) = slot_ends_at r.slots (key_of r) (stride_of r.body) a c && nat_eq k (slot_at r.slots (key_of r) (stride_of r.body) a c)

few_turns : (r : Partitioning) → IsPartitioning r → r.slots * stride_of r.body ≤ all_turns r * stride_of r.body
few_turns r is =
    let some : 1 ≤ r.copies = is.some_copy in
    let one : r.slots * 1 ≤ r.slots * r.copies = mul-le-mul_left r.slots some in
    let few : r.slots ≤ all_turns r = omega (arith, one) in
    mul-le-mul_right (stride_of r.body) few

-- what is given behind a source that awaits each flush: the keys of its slots are those of groups
abbrev setting_of : (r : Partitioning) (a : Carried) → IsPartitioning r → AwaitsFlush r a → Setting
setting_of r a is awaits = record {
  count = r.slots;
  key = key_of r;
  stride = stride_of r.body;
  g1 = 1;
  g2 = all_turns r * stride_of r.body + 1;
  gap_end = stride_of r.body;
  a = a;
  ins = λ k. record { tuple = slot_tuple r a k; ends = slot_end r a k };
  law = record { no_tuple = λ k l. refl; no_end = λ k l. refl; tuples = λ k c l. refl; ends = λ k c l. refl };
  slots_some = is.some_slot;
  stride_some = omega arith;
  timed = record { apart = λ c d p q l. omega (arith, l); after = λ u d p q l. (awaits d q).over u p l };
  wide = omega (arith, few_turns r is);
  strides = omega arith;
  far = omega (arith, few_turns r is, numbers.all_turns r.slots (stride_of r.body) is.some_slot);
}

-- wires and keys of a front, and a line of ends behind it
pub is_fronted : (old mid new : Net) (r : Partitioning) (source : Emitted) (g : Given) (close : Bit) (stride cycles width : ℕ) → stride ≡ stride_of r.body → cycles ≡ close_cycles r → width ≡ bits_of_slots r.slots + 1 → IsPartitioning r
    → IsWire old source.wire → AreLines old source.faults → r.key < length (widths source.wire.columns) → AddsFront old mid r.key r.slots r.size r.advance r.copies stride width source.wire g → IsCloseLine mid new cycles 0 source.wire.eos close
    → IsFronted old new (partitioning_machine r) source (record { source = source; wires = g.wires; keys = g.keys; further = Some g.further; close = close })
is_fronted old mid new r source g close stride cycles width is_stride is_cycles is_width is wire lines key f c = record {
  keeps = keeps_then old mid new f.keeps c.keeps;
  cost = record {
    nodes = omega (arith, f.cost.nodes, c.cost.nodes);
    registers = omega (arith, f.cost.registers, c.cost.registers, c.few, is_width);
    memories = omega (arith, f.cost.memories, c.cost.memories);
  };
  same = refl;
  fronts = record {
    source = wire_kept old new source.wire (keeps_then old mid new f.keeps c.keeps) wire;
    lines = lines_kept old new source.faults (keeps_then old mid new f.keeps c.keeps) lines;
    column = key;
    ticks = tt;
    as_many = f.as_many;
    wires = λ k w h. let x = f.wires k w h in (wire_kept mid new w c.keeps x.0, x.1);
    keys = record { as_many = f.keys_count; each = λ k b h. let x = f.keys k b h in (bus_kept mid new b c.keeps x.0, x.1) };
    further = bit_kept mid new g.further c.keeps f.further;
    close = c.bit;
    feeds = λ run z.
        let l = law run (f.law run (c.keeps.runs run z)) in
        record {
          front = l.front;
          shown = l.shown;
          told = λ awaits n. l.told n ∙ further_came (setting_of r (carried run source.wire) is awaits) n;
          closes = ap_close run (subst (λ (n : ℕ). IsClose n (n + 1 + 0) (line_at run source.wire.eos) (line_at run close)) is_cycles (c.close run z));
        };
  };
}
  where
    law : (run : Run) → IsFront run (record { slots = r.slots; key = key_of r; size = r.size; advance = r.advance; copies = r.copies; stride = stride }) source.wire g → IsFront run (numbers_of r) source.wire g
    law run h = subst (λ (n : ℕ). IsFront run (record { slots = r.slots; key = key_of r; size = r.size; advance = r.advance; copies = r.copies; stride = n }) source.wire g) is_stride h

    ap_close : (run : Run) → IsClose (close_cycles r) (close_cycles r + 1 + 0) (line_at run source.wire.eos) (line_at run close) → IsClose (close_cycles r) (close_delay r) (line_at run source.wire.eos) (line_at run close)
    ap_close run h = let e : close_cycles r + 1 + 0 ≡ close_delay r = omega arith in subst (λ (n : ℕ). IsClose (close_cycles r) n (line_at run source.wire.eos) (line_at run close)) e h

pub some_copies : (r : Partitioning) → IsPartitioning r → 1 ≤ all_copies r
some_copies r is = mul-pos is.some_slot is.some_copy

-- a back behind copies of a front
pub is_backed : PartitioningsServe → (old new : Net) (r : Partitioning) (f : Front) (copies : List Emitted) (e : Emitted) → IsPartitioning r → Fronts old (partitioning_machine r) f → length copies ≡ all_copies r
    → JoinsAll old new f.source.faults f.further f.close f.keys copies e → IsBacked old new (partitioning_machine r) f copies e
is_backed partitionings_serve old new r f copies e is h many j = keyed_backed old new (all_copies r) r.key _ _ _ f copies e (some_copies r is) h many j serving
  where
    serving : (run : Run) → IsRun new run → IsDelayed 1 (record { tuple = tuple_of_any (with_keys (held_of run f.keys) (gives_of run copies)) (all_copies r); ends = line_at run f.close }) (carried run e.wire)
        → (source : Figures) → IsSound source
        → ServesPartitions r source (carried run f.source.wire) (carried_of run f.wires) (gives_of run copies) (told_of run copies) (line_of run f.further) (carried run e.wire)
    serving run z delayed source sound =
        let fed = h.feeds run (j.keeps.runs run z) in
        partitionings_serve r source (carried run f.source.wire) (carried run e.wire) (held_of run f.keys) (carried_of run f.wires) (gives_of run copies) (line_at run f.close) (line_of run f.further) (told_of run copies)
        is sound fed.front fed.shown fed.told fed.closes delayed
