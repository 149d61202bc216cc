-- The parts of the front together are the machine.
use Rattle.std.proofs.Common.{◌≡◌, ℕ, zero, suc, ◌+◌, ◌-◌, ◌*◌, ◌<◌, ◌≤◌, List, length, Some, None, Bool, true, false, refl, sym, ap, ◌∙◌, subst, arith}
use Rattle.std.specs.Prelude.{slice_index, nat_eq, not, ◌&&◌, ◌||◌, if◌then◌else◌}
use Rattle.gl_values.specs.Results.{Row}
use Rattle.gl_net.specs.declared.node.Bit.{Bit}
use Rattle.gl_net.specs.Net.{Net, Run, IsRun, Keeps}
use Rattle.gl_net.proofs.Determined.{keeps_then}
use Rattle.gl_wire.specs.declared.wire.Wire.{Wire}
use Rattle.gl_wire.specs.Stages.{IsLaterLine}
use Rattle.gl_wire.specs.Wire.{carried, line_at, row_at, tuple_at, widths}
use Rattle.gl_wire.proofs.ColumnLemmas.{bit_kept, bus_kept, buses_kept, wire_kept}
use Rattle.gl_wire_registers.specs.Held.{counted_down, held_at}
use Rattle.gl_wire_registers.specs.declared.lines.LineOp.TheVariants.{Both, Either}
use Rattle.gl_wire_registers.specs.Lines.{AddsLines, held_of, line_of, pairs}
use Rattle.gl_wire_registers.specs.Rows.{AddsWires}
use Rattle.gl_wire_registers.proofs.LineLemmas.{bits_kept, gates_some, line_of-first}
use Rattle.gl_slots.specs.declared.front.Chosen.{Chosen}
use Rattle.gl_slots.specs.declared.front.Looked.{Looked}
use Rattle.gl_slots.specs.declared.front.Lookup.{Lookup}
use Rattle.gl_slots.specs.declared.front.Turning.{Turning}
use Rattle.gl_slots.specs.declared.parts.Flush.{Flush}
use Rattle.gl_slots.specs.declared.parts.Tail.{Tail}
use Rattle.gl_slots.specs.declared.slots.SlotLines.{SlotLines}
use Rattle.gl_slots.specs.SlotLines.{AddsSlots, AreSlotLines, IsLatest, sought_at}
use Rattle.gl_slots.specs.Fronts.{AddsChosen, AddsFront, AddsLooked, AddsLookup, AddsTurning, IsLooked, IsLookup, IsTurning, column_of, ends_of, takes_of, takes_row}
use Rattle.gl_slots.specs.Keys.{AreKeys}
use Rattle.gl_slots.specs.Parts.{AddsFlush, AddsTail, IsFlush, IsTail, TakesOf}
use Rattle.gl_slots.specs.Seeking.{asked, found, has, is_next, matches}
use Rattle.gl_slots.specs.Slots.{Slots, further_line, is_further, keys_at, no_slots, slots_at}
use Rattle.gl_slots.specs.Values.{Cycle, Mirrors, Steps, Values, due_of, end_of, sought_of, tail_of, valid_of}
use Rattle.gl_slots.proofs.MachineLemmas.{end_is, further_is, mirrors_next, taken_is}
use Rattle.gl_slots.proofs.SeenNet.{seen_kept}

-- the key of the row that comes, or else of the one that came last
abbrev pub latest_key : Run → Wire → ℕ → Lookup → ℕ → ℕ
latest_key run w key look c = column_of key (if line_at run w.valid c then row_at run c w.columns else row_at run c look.row)

pub latest_is : (run : Run) (w : Wire) (key : ℕ) (look : Lookup) → IsLookup run w key look → IsLatest run w.valid look.here (latest_key run w key look)
unfolding line_at
latest_is run w key look is = record { comes = comes; stays = stays }
  where
    comes : (t : ℕ) → line_at run w.valid t ≡ true → latest_key run w key look t ≡ held_at 0 run look.here t
    comes zero e = absurd (cc)
    comes (suc t) e = ap (λ (b : Bool). column_of key (if b then row_at run (suc t) w.columns else row_at run (suc t) look.row)) e ∙ sym (is.here t)

    stays : (t : ℕ) → line_at run w.valid (suc (suc t)) ≡ false → latest_key run w key look (suc (suc t)) ≡ latest_key run w key look (suc t)
    stays t e = ap (λ (b : Bool). column_of key (if b then row_at run (suc (suc t)) w.columns else row_at run (suc (suc t)) look.row)) e ∙ ap (column_of key) (is.row t)

module _ (run : Run) (w : Wire) (key count stride : ℕ) (f : Flush) (h : Tail) (look : Lookup) (r : SlotLines) (g : Turning)
    (is_f : IsFlush run w.valid w.eos stride f) (is_h : IsTail run w.valid w.eos f.idle h) (is_look : IsLookup run w key look) (is_r : AreSlotLines run f.free w.valid (latest_key run w key look) count r)
    (is_g : IsTurning run w.eos f.due count g) where
  abbrev looked : Looked
  looked = record { row = look.row; keys = r.keys; seen = r.seen; turns = g.turns; tail = h.tail }

  -- the registers in a cycle
  abbrev at : ℕ → Values
  at c = record {
    used = λ k. line_of run r.used k c;
    key = λ k. held_of run r.keys k c;
    flush = line_at run f.flush c;
    rest = held_at count run g.rest c;
    wait = held_at 0 run f.wait c;
    held = line_at run h.held c;
    row = row_at run c look.row;
  }

  abbrev e : ℕ → Bool
  e c = line_at run w.eos c

  abbrev v : ℕ → Bool
  v c = line_at run w.valid c

  abbrev x : ℕ → Row
  x c = row_at run c w.columns

  abbrev y : ℕ → ℕ
  y = latest_key run w key look

  abbrev cycle : ℕ → Cycle
  cycle c = record { end = e c; valid = v c; row = x c; value = y c }

  sought_is : (c : ℕ) → sought_at run r.used r.keys f.free w.valid y c ≡ sought_of (cycle c) (at c)
  sought_is c = ap (λ (b : Bool). record { used = λ k. line_of run r.used k c; key = λ k. held_of run r.keys k c; free = b; ask = v c; value = y c }) (is_f.free c)

  due_is : (c : ℕ) → line_at run f.due c ≡ due_of (cycle c) (at c)
  due_is c = is_f.due c ∙ ap (λ b. b && nat_eq (held_at 0 run f.wait c) 0) (is_f.idle c)

  ends_are : (k c : ℕ) → k < count → ends_of run looked k c ≡ end_of count (cycle c) (at c) k
  ends_are k c l =
      ap (λ b. b && line_of run r.seen.has k c) (is_g.turn k c l)
      ∙ ap (λ b. ((e c || b) && nat_eq (if e c then count else held_at count run g.rest c) (count - k)) && line_of run r.seen.has k c) (due_is c)
      ∙ ap (λ b. ((e c || due_of (cycle c) (at c)) && nat_eq (if e c then count else held_at count run g.rest c) (count - k)) && b) ((is_r.seen c).has k l ∙ ap (λ s. has count s k) (sought_is c))

  tail_is : (c : ℕ) → line_at run h.tail c ≡ tail_of (cycle c) (at c)
  tail_is c = is_h.tail c ∙ ap (λ b. (e c && v c) || (b && line_at run h.held c)) (is_f.idle c)

  matches_are : (k c : ℕ) → k < count → (line_of run r.seen.found k c || line_of run r.seen.takes k c) ≡ matches count (sought_of (cycle c) (at c)) k
  matches_are k c l =
      let s = sought_at run r.used r.keys f.free w.valid y c in
      ap (λ b. b || line_of run r.seen.takes k c) ((is_r.seen c).found k l) ∙ ap (λ b. found s k || b) ((is_r.seen c).takes k l) ∙ ap (λ z. matches count z k) (sought_is c)

  takes_are : (k c : ℕ) → k < count → takes_of run w looked k c ≡ valid_of count (cycle c) (at c) k
  takes_are k c l =
      ap (λ b. b && ((ends_of run looked k c && line_at run h.tail c) || (v c && not (e c)))) (matches_are k c l)
      ∙ ap (λ b. matches count (sought_of (cycle c) (at c)) k && ((b && line_at run h.tail c) || (v c && not (e c)))) (ends_are k c l)
      ∙ ap (λ b. matches count (sought_of (cycle c) (at c)) k && ((end_of count (cycle c) (at c) k && b) || (v c && not (e c)))) (tail_is c)

  row_step : (c : ℕ) → (v c || line_at run f.flush c) ≡ true → row_at run (suc c) look.row ≡ (if v c then x c else row_at run c look.row)
  unfolding line_at
  row_step zero q = absurd (cc)
  row_step (suc c) q = is_look.row c

  is_key : (c : ℕ) → v c ≡ true → y c ≡ column_of key (x c)
  is_key c q = ap (λ (b : Bool). column_of key (if b then x c else row_at run c look.row)) q

  steps : (c : ℕ) → Steps count stride (column_of key) (cycle c) (at c) (at (suc c))
  steps c = record {
    used = λ k l. is_r.used k c l ∙ ap (λ s. has count s k) (sought_is c);
    keys = λ k l. is_r.key k c l ∙ ap (λ s. if is_next s k then y c else held_of run r.keys k c) (sought_is c);
    flush = is_f.next c;
    rest = is_g.next c ∙ ap (λ b. counted_down (count - 1) 0 (e c) b (held_at count run g.rest c)) (due_is c);
    wait = is_f.next_wait c ∙ ap (λ b. counted_down (stride - 1) (stride - 1) (e c) b (held_at 0 run f.wait c)) (is_f.idle c);
    held = is_h.next c;
    row = row_step c;
    value = λ q. refl;
  }

  abbrev s : ℕ → Slots
  s c = slots_at count (column_of key) stride (carried run w) c

  mirrors_first : Mirrors count no_slots (at 0)
  unfolding held_at line_at
  mirrors_first = record {
    slots = λ k l. ap (λ (b : Bool). if b then Some (held_of run r.keys k 0) else None) (sym (line_of-first run r.used k));
    few = omega arith;
    flush = refl;
    rest = omega arith;
    wait = refl;
    held = λ q. absurd (cc);
  }

  module _ (some : 1 ≤ count) where
    mirrors : (c : ℕ) → Mirrors count (s c) (at c)
    unfolding tuple_at
    mirrors zero = mirrors_first
    mirrors (suc c) = mirrors_next count stride (column_of key) some (s c) (at c) (mirrors c) (e c) (v c) (x c) (y c) (is_key c) (at (suc c)) (steps c)

    keys_shown : AreKeys count (column_of key) stride 0 (carried run w) (held_of run r.keys)
    keys_shown = record {
      shown = λ k c d z l at there.
          (let same : c ≡ d = omega (arith, at) in
          subst (λ t. held_of run r.keys k t ≡ z) same (by (line_of run r.used k c) (held_of run r.keys k c) z (sym ((mirrors c).slots k l) ∙ there)));
    }
      where
        by : (b : Bool) (n z : ℕ) → (if b then Some n else None) ≡ Some z → n ≡ z
        by true n z q = cc
        by false n z q = absurd (cc)

    pub looked_is : IsLooked run key count stride w looked
    unfolding tuple_at
    looked_is = record {
      takes = λ k c l.
          ap (λ (b : Bool). if b then Some (row_at run (suc c) look.row) else None) (takes_are k c l)
          ∙ sym (taken_is count stride (column_of key) some (s c) (at c) (mirrors c) (e c) (v c) (x c) (y c) (is_key c) (at (suc c)) (steps c) k l);
      ends = λ k c l. ends_are k c l ∙ end_is count stride (column_of key) some (s c) (at c) (mirrors c) (e c) (v c) (x c) (y c) (is_key c) k l;
      shown = keys_shown;
      further = λ c.
          (is_r.seen c).passes ∙ ap (λ z. asked count z count) (sought_is c)
          ∙ further_is count stride (column_of key) some (s c) (at c) (mirrors c) (e c) (v c) (x c) (y c) (is_key c);
    }

-- one after another the parts look at the slots
module _ (n0 n1 n2 n3 n4 n5 : Net) (w : Wire) (key count stride width : ℕ) (some : 1 ≤ count) (f : Flush) (h : Tail) (look : Lookup) (r : SlotLines) (g : Turning)
    (is_f : AddsFlush n0 n1 w.valid w.eos stride f) (is_h : AddsTail n1 n2 w.valid w.eos f.idle h) (is_look : AddsLookup n2 n3 w key look)
    (is_r : AddsSlots n3 n4 f.free w.valid look.here count width r) (is_g : AddsTurning n4 n5 w.eos f.due count g) where
  k45 : Keeps n4 n5
  k45 = is_g.keeps

  k35 : Keeps n3 n5
  k35 = keeps_then n3 n4 n5 is_r.keeps k45

  k25 : Keeps n2 n5
  k25 = keeps_then n2 n3 n5 is_look.keeps k35

  k15 : Keeps n1 n5
  k15 = keeps_then n1 n2 n5 is_h.keeps k25

  abbrev key_width : ℕ
  key_width = slice_index (widths w.columns) key

  slots_bits : count * (look.here.width + 1) ≡ count * (key_width + 1)
  slots_bits = ap (λ n. count * (n + 1)) is_look.here_width

  slot_lines : (run : Run) → IsRun n5 run → AreSlotLines run f.free w.valid (latest_key run w key look) count r
  slot_lines run z = is_r.law run (k45.runs run z) (latest_key run w key look) (latest_is run w key look (is_look.law run (k35.runs run z)))

  pub looked_are : AddsLooked n0 n5 key count stride width w (record { row = look.row; keys = r.keys; seen = r.seen; turns = g.turns; tail = h.tail })
  looked_are = record {
    keeps = keeps_then n0 n1 n5 is_f.keeps k15;
    cost = record {
      nodes = omega (arith, is_f.cost.nodes, is_h.cost.nodes, is_look.cost.nodes, is_r.cost.nodes, is_g.cost.nodes);
      registers = omega (arith, is_f.cost.registers, is_h.cost.registers, is_look.cost.registers, is_r.cost.registers, is_g.cost.registers, slots_bits, is_f.few, is_g.few);
      memories = omega (arith, is_f.cost.memories, is_h.cost.memories, is_look.cost.memories, is_r.cost.memories, is_g.cost.memories);
    };
    row_buses = buses_kept n3 n5 look.row k35 is_look.row_buses;
    row_widths = is_look.row_widths;
    keys_count = is_r.keys_count;
    keys = λ k b e. (bus_kept n4 n5 b k45 (is_r.keys_there.each k b e), is_r.keys_width k b e ∙ is_look.here_width);
    look = record {
      seen = seen_kept n4 n5 count r.seen k45 is_r.are;
      turns_count = is_g.turns_count;
      turns = is_g.bits;
      tail = bit_kept n2 n5 h.tail k25 is_h.bit;
    };
    law = λ run z.
        looked_is run w key count stride f h look r g
        (is_f.law run (k15.runs run z)) (is_h.law run (k25.runs run z)) (is_look.law run (k35.runs run z)) (slot_lines run z) (is_g.law run z) some;
  }

-- lines of what the slots take and end, from those that are looked at
pub chosen_are : (n0 n1 n2 n3 n4 : Net) (w : Wire) (key count stride width : ℕ) (r : Looked) (ends ms takers : List Bit) → 1 ≤ count → AddsLooked n0 n1 key count stride width w r
    → AddsLines n1 n2 (length r.turns) 1 ends (pairs Both r.turns r.seen.has) → AddsLines n2 n3 (length r.seen.found) 1 ms (pairs Either r.seen.found r.seen.takes)
    → TakesOf n3 n4 w.valid w.eos r.tail ms ends takers → AddsChosen n0 n4 key count stride width w (record { row = r.row; keys = r.keys; takes = takers; ends = ends; passes = r.seen.passes })
unfolding pairs
chosen_are n0 n1 n2 n3 n4 w key count stride width r ends ms takers some a b c d =
    let k34 = d.keeps in
    let k24 = keeps_then n2 n3 n4 c.keeps k34 in
    let k14 = keeps_then n1 n2 n4 b.keeps k24 in
    let ms_count : length ms ≡ count = c.count ∙ a.look.seen.found_count in
    let ended : (run : Run) → IsRun n4 run → (k t : ℕ) → k < count → line_of run ends k t ≡ ends_of run r k t =
    λ run z k t l. b.line run (k24.runs run z) k t (omega (arith, l, a.look.turns_count)) in
    let taken : (run : Run) → IsRun n4 run → (k t : ℕ) → k < count → line_of run takers k t ≡ takes_of run w r k t =
    λ run z k t l.
    d.line run z k t (omega (arith, l, ms_count))
    ∙ ap (λ x. x && ((line_of run ends k t && line_at run r.tail t) || (line_at run w.valid t && not (line_at run w.eos t)))) (c.line run (k34.runs run z) k t (omega (arith, l, a.look.seen.found_count)))
    ∙ ap (λ x. takes_row run w r (line_of run r.seen.found k t || line_of run r.seen.takes k t) x t) (ended run z k t l) in
    record {
      keeps = keeps_then n0 n1 n4 a.keeps k14;
      cost = record {
        nodes = omega (arith, a.cost.nodes, b.cost.nodes, c.cost.nodes, d.cost.nodes, a.look.turns_count, a.look.seen.found_count, ms_count, gates_some count some);
        registers = omega (arith, a.cost.registers, b.cost.registers, c.cost.registers, d.cost.registers);
        memories = omega (arith, a.cost.memories, b.cost.memories, c.cost.memories, d.cost.memories);
      };
      row_buses = buses_kept n1 n4 r.row k14 a.row_buses;
      row_widths = a.row_widths;
      keys_count = a.keys_count;
      keys = λ k x e. (bus_kept n1 n4 x k14 (a.keys k x e).0, (a.keys k x e).1);
      takes_count = d.count ∙ ms_count;
      takes = d.bits;
      ends_count = b.count ∙ a.look.turns_count;
      ends = bits_kept n2 n4 ends k24 b.bits;
      passes = bit_kept n1 n4 r.seen.passes k14 a.look.seen.passes;
      law = λ run z.
          let law = a.law run (k14.runs run z) in
          record {
            takes = λ k t l. ap (λ (x : Bool). if x then Some (row_at run (suc t) r.row) else None) (taken run z k t l) ∙ law.takes k t l;
            ends = λ k t l. ended run z k t l ∙ law.ends k t l;
            shown = law.shown;
            further = law.further;
          };
    }

-- wires of what is chosen are a front
pub fronts_are : (n0 n1 n2 n3 : Net) (w : Wire) (key count stride width : ℕ) (r : Chosen) (ws : List Wire) (further : Bit) → AddsChosen n0 n1 key count stride width w r
    → AddsWires n1 n2 (length r.takes) r.takes r.ends r.row ws → IsLaterLine n2 n3 r.passes further → AddsFront n0 n3 key count stride width w (record { wires = ws; keys = r.keys; further = further })
unfolding tuple_at line_at
fronts_are n0 n1 n2 n3 w key count stride width r ws further a b c =
    let k13 = keeps_then n1 n2 n3 b.keeps c.keeps in
    let bits : count * (slice_index (widths w.columns) key + 3) ≡ count * (slice_index (widths w.columns) key + 1) + count * 2 = omega arith in
    record {
      keeps = keeps_then n0 n1 n3 a.keeps k13;
      cost = record {
        nodes = omega (arith, a.cost.nodes, b.cost.nodes, c.cost.nodes, a.takes_count);
        registers = omega (arith, a.cost.registers, b.cost.registers, c.cost.registers, a.takes_count, bits);
        memories = omega (arith, a.cost.memories, b.cost.memories, c.cost.memories);
      };
      as_many = b.count ∙ a.takes_count;
      wires = λ k x e. (wire_kept n2 n3 x c.keeps (b.wires k x e), ap widths (b.columns k x e) ∙ a.row_widths);
      keys_count = a.keys_count;
      keys = λ k x e. let h = a.keys k x e in (bus_kept n1 n3 x k13 h.0, h.1);
      further = c.bit;
      law = λ run z.
          let at_wires = c.keeps.runs run z in
          let law = a.law run (k13.runs run z) in
          record {
            front = record {
              no_tuple = λ k l. b.first_tuple run at_wires k (omega (arith, l, a.takes_count));
              no_end = λ k l. b.first_end run at_wires k (omega (arith, l, a.takes_count));
              tuples = λ k u l. b.tuple run at_wires k u (omega (arith, l, a.takes_count)) ∙ law.takes k u l;
              ends = λ k u l. b.end run at_wires k u (omega (arith, l, a.takes_count)) ∙ law.ends k u l;
            };
            shown = law.shown;
            told = λ u. told_by run further u (c.line run z) law.further;
          };
    }
  where
    told_by : (run : Run) (f : Bit) (u : ℕ) → ((t : ℕ) → line_at run f (suc t) ≡ line_at run r.passes t)
        → ((t : ℕ) → line_at run r.passes t ≡ is_further (column_of key) (keys_at count (column_of key) stride (carried run w) t) ((carried run w).tuple t))
        → line_at run f u ≡ further_line count (column_of key) stride (carried run w) u
    told_by run f zero later is = refl
    told_by run f (suc u) later is = later u ∙ is u
