-- The parts that look at the slots tell whose row it is, and whose turn.
use Rattle.std.proofs.Common.{◌≡◌, ℕ, zero, suc, ◌+◌, ◌-◌, ◌*◌, ◌<◌, ◌≤◌, List, [], length, Some, None, Bool, true, false, refl, sym, ap, ◌∙◌, subst, arith}
use Rattle.std.specs.Prelude.{slice_get, slice_index, not, ◌&&◌, ◌||◌, if◌then◌else◌, is_some, nat_eq, nat_le, nat_lt}
use Rattle.std.proofs.Math.Bool.{and-true, and-false}
use Rattle.gl_values.specs.Results.{Row}
use Rattle.gl_net.specs.declared.node.Bit.{Bit}
use Rattle.gl_net.specs.Net.{Net, Run, IsRun, Keeps}
use Rattle.gl_net.proofs.Determined.{keeps_then}
use Rattle.gl_wire.specs.declared.wire.Wire.{Wire}
use Rattle.gl_wire.specs.Wire.{carried, line_at, row_at, tuple_at, widths}
use Rattle.gl_wire.proofs.ColumnLemmas.{bit_kept, bus_kept, buses_kept}
use Rattle.gl_wire_registers.specs.Held.{counted_down, held_at}
use Rattle.gl_wire_registers.specs.declared.lines.LineOp.TheVariants.{Either}
use Rattle.gl_wire_registers.specs.Lines.{AddsLines, held_of, line_of, pairs}
use Rattle.gl_wire_registers.proofs.LineLemmas.{bits_kept, gates_some, line_of-first}
use Rattle.gl_slots.specs.declared.front.Lookup.{Lookup}
use Rattle.gl_slots.specs.declared.parts.Flush.{Flush}
use Rattle.gl_slots.specs.declared.parts.Tail.{Tail}
use Rattle.gl_slots.specs.declared.slots.SlotLines.{SlotLines}
use Rattle.gl_slots.specs.Fronts.{AddsLookup, IsLookup, column_of}
use Rattle.gl_slots.specs.Parts.{AddsFlush, AddsTail, IsFlush, IsTail, turned_to}
use Rattle.gl_slots.specs.Seeking.{Sought, asked, found, has, is_next, kept, matches}
use Rattle.gl_slots.specs.SlotLines.{AddsSlots, AreSlotLines, sought_at}
use Rattle.gl_slots.specs.Slots.{Slots, is_further, keys_at, keys_now, no_slots, same_key, slots_at}
use Rattle.gl_slots.specs.Values.{Cycle, Mirrors, Steps, Values, due_of, sought_of, tail_of}
use Rattle.gl_slots.proofs.FrontNet.{latest_is, latest_key}
use Rattle.gl_slots.proofs.MachineLemmas.{base, further_is, keys_are, mirrors_next, tuple_of}
use Rattle.gl_slots.proofs.SeekLemmas.{joined, matches_is}
use Rattle.gl_partition.specs.declared.parts.Turns.{Turns}
use Rattle.gl_partition.specs.Fronts.{AddsLook, IsLook}
use Rattle.gl_partition.specs.Machine.{is_due}
use Rattle.gl_partition.specs.Parts.{AddsTurns, IsTurns}
use Rattle.gl_partition.proofs.TurnLemmas.{Turned, and_same, any_reset, due_parts, in_flush, none_is, slot_test, some_is, some_so, tail_by, turned_next, turning, turning_is}

-- ---- the slot that has the key of what comes

module _ (count : ℕ) (key : Row → ℕ) (s : Slots) (p : Values) (m : Mirrors count s p) (e v : Bool) (x : Row) (y : ℕ) (is_key : v ≡ true → y ≡ key x) where
  abbrev seen : Sought
  seen = sought_of (record { end = e; valid = v; row = x; value = y }) p

  shown : (k : ℕ) → k < count → slice_get (base e v s) k ≡ (if kept seen k then Some (p.key k) else None)
  shown k l = ap (λ b. slice_get (if b && (v || e) then [] else s.keys) k) (sym m.flush) ∙ by (p.flush && (v || e))
    where
      by : (b : Bool) → slice_get (if b then [] else s.keys) k ≡ (if p.used k && not b then Some (p.key k) else None)
      by true = rw (and-false (p.used k)) refl
      by false = rw (and-true (p.used k)) (m.slots k l)

  few : length (base e v s) ≤ count
  few = by (s.flush && (v || e))
    where
      by : (b : Bool) → length (if b then [] else s.keys) ≤ count
      by true = omega arith
      by false = m.few

  keys_later : keys_now count key e (tuple_of v x) s ≡ joined count v y (base e v s)
  keys_later = keys_are count key e v x s ∙ by v is_key
    where
      by : (w : Bool) → (w ≡ true → y ≡ key x) → joined count w (key x) (base e v s) ≡ joined count w y (base e v s)
      by true h = ap (λ n. joined count true n (base e v s)) (sym (h refl))
      by false h = refl

  matches_now : (k : ℕ) → k < count → matches count seen k ≡ same_key (slice_get (keys_now count key e (tuple_of v x) s) k) y
  matches_now k l = matches_is count (base e v s) seen shown few k l ∙ ap (λ zs. same_key (slice_get zs k) y) (sym keys_later)

-- ---- all parts, in each cycle

-- what a register would hold that counts the turns of an end where each slot has one
counted : ℕ → (ℕ → Bool) → (ℕ → Bool) → ℕ → ℕ
counted slots e d zero = slots
counted slots e d (suc c) = counted_down (slots - 1) 0 (e c) (d c) (counted slots e d c)

module _ (run : Run) (w : Wire) (key slots copies stride : ℕ) (some : 1 ≤ slots) (some_copy : 1 ≤ copies) (f : Flush) (h : Tail) (look : Lookup) (r : SlotLines) (g : Turns) (dues ms : List Bit)
    (is_f : IsFlush run w.valid w.eos stride f) (is_h : IsTail run w.valid w.eos f.idle h) (is_look : IsLookup run w key look) (is_r : AreSlotLines run f.free w.valid (latest_key run w key look) slots r)
    (is_g : IsTurns run w.eos f.due slots copies g) (is_dues : (k t : ℕ) → k < slots → line_of run dues k t ≡ turned_to slots f.due g.rest run k t)
    (is_ms : (k t : ℕ) → k < slots → line_of run ms k t ≡ (line_of run r.seen.found k t || line_of run r.seen.takes k t)) where
  abbrev e : ℕ → Bool
  e c = line_at run w.eos c

  abbrev v : ℕ → Bool
  v c = line_at run w.valid c

  abbrev x : ℕ → Row
  x c = row_at run c w.columns

  abbrev y : ℕ → ℕ
  y = latest_key run w key look

  -- the registers in a cycle
  abbrev at : ℕ → Values
  at c = record {
    used = λ k. line_of run r.used k c;
    key = λ k. held_of run r.keys k c;
    flush = line_at run f.flush c;
    rest = counted slots (λ t. line_at run w.eos t) (λ t. line_at run f.due t) c;
    wait = held_at 0 run f.wait c;
    held = line_at run h.held c;
    row = row_at run c look.row;
  }

  abbrev cycle : ℕ → Cycle
  cycle c = record { end = e c; valid = v c; row = x c; value = y c }

  sought_is : (c : ℕ) → sought_at run r.used r.keys f.free w.valid y c ≡ sought_of (cycle c) (at c)
  sought_is c = ap (λ (b : Bool). record { used = λ k. line_of run r.used k c; key = λ k. held_of run r.keys k c; free = b; ask = v c; value = y c }) (is_f.free c)

  due_is : (c : ℕ) → line_at run f.due c ≡ due_of (cycle c) (at c)
  due_is c = is_f.due c ∙ ap (λ b. b && nat_eq (held_at 0 run f.wait c) 0) (is_f.idle c)

  row_step : (c : ℕ) → (v c || line_at run f.flush c) ≡ true → row_at run (suc c) look.row ≡ (if v c then x c else row_at run c look.row)
  unfolding line_at
  row_step zero q = absurd (cc)
  row_step (suc c) q = is_look.row c

  is_key : (c : ℕ) → v c ≡ true → y c ≡ column_of key (x c)
  is_key c q = ap (λ (b : Bool). column_of key (if b then x c else row_at run c look.row)) q

  steps : (c : ℕ) → Steps slots stride (column_of key) (cycle c) (at c) (at (suc c))
  unfolding counted
  steps c = record {
    used = λ k l. is_r.used k c l ∙ ap (λ s. has slots s k) (sought_is c);
    keys = λ k l. is_r.key k c l ∙ ap (λ s. if is_next s k then y c else held_of run r.keys k c) (sought_is c);
    flush = is_f.next c;
    rest = ap (λ b. counted_down (slots - 1) 0 (e c) b (counted slots (λ t. line_at run w.eos t) (λ t. line_at run f.due t) c)) (due_is c);
    wait = is_f.next_wait c ∙ ap (λ b. counted_down (stride - 1) (stride - 1) (e c) b (held_at 0 run f.wait c)) (is_f.idle c);
    held = is_h.next c;
    row = row_step c;
    value = λ q. refl;
  }

  abbrev s : ℕ → Slots
  s c = slots_at slots (column_of key) stride (carried run w) c

  mirrors_first : Mirrors slots no_slots (at 0)
  unfolding held_at line_at counted
  mirrors_first = record {
    slots = λ k l. ap (λ (b : Bool). if b then Some (held_of run r.keys k 0) else None) (sym (line_of-first run r.used k));
    few = omega arith;
    flush = refl;
    rest = omega arith;
    wait = refl;
    held = λ q. absurd (cc);
  }

  mirrors : (c : ℕ) → Mirrors slots (s c) (at c)
  unfolding tuple_at
  mirrors zero = mirrors_first
  mirrors (suc c) = mirrors_next slots stride (column_of key) some (s c) (at c) (mirrors c) (e c) (v c) (x c) (y c) (is_key c) (at (suc c)) (steps c)

  -- whose turn it is
  turn_now : (c : ℕ) → line_at run f.due c ≡ turning (e c) ((carried run w).tuple c) (s c)
  unfolding tuple_at
  turn_now c = due_is c ∙ turning_is (e c) (v c) (x c) (s c) (line_at run f.flush c) (held_at 0 run f.wait c) (mirrors c).flush (mirrors c).wait

  turned : (c : ℕ) → (s c).flush ≡ true → Turned slots copies (s c).turn (held_at (copies - 1) run g.within c) (held_at slots run g.rest c)
  turned zero q = absurd (cc)
  turned (suc c) q =
      let d = turning (e c) ((carried run w).tuple c) (s c) in
      let within = held_at (copies - 1) run g.within c in
      let rest = held_at slots run g.rest c in
      let next = turned_next slots copies stride some_copy (s c) (e c) ((carried run w).tuple c) (keys_at slots (column_of key) stride (carried run w) c) within rest (turned c) q in
      let is_within : held_at (copies - 1) run g.within (suc c) ≡ counted_down (copies - 1) (copies - 1) (e c) d within =
      is_g.next_within c ∙ ap (λ b. counted_down (copies - 1) (copies - 1) (e c) b within) (turn_now c) in
      let is_rest : held_at slots run g.rest (suc c) ≡ counted_down slots 0 (e c) (d && nat_eq within 0) rest =
      is_g.next_rest c ∙ ap (λ b. counted_down slots 0 (e c) (b && nat_eq within 0) rest) (turn_now c) in
      subst (λ (n : ℕ). Turned slots copies (s (suc c)).turn (held_at (copies - 1) run g.within (suc c)) n) (sym is_rest)
      (subst (λ (n : ℕ). Turned slots copies (s (suc c)).turn n (counted_down slots 0 (e c) (d && nat_eq within 0) rest)) (sym is_within) next)

  dues_are : (i c : ℕ) → i < slots → line_of run dues i c ≡ is_due copies i (e c) ((carried run w).tuple c) (s c)
  unfolding turned_to
  dues_are i c l =
      is_dues i c l ∙ any_reset run f.due g.rest slots (slots - i) c ∙ ap (λ b. b && nat_eq (held_at slots run g.rest c) (slots - i)) (turn_now c)
      ∙ and_same (turning (e c) ((carried run w).tuple c) (s c)) (nat_eq (held_at slots run g.rest c) (slots - i)) (nat_lt (i * copies) (s c).turn && nat_le (s c).turn (i * copies + copies))
      (λ q. slot_test slots copies i (s c).turn (held_at (copies - 1) run g.within c) (held_at slots run g.rest c) l (turned c (in_flush (e c) ((carried run w).tuple c) (s c) q)))
      ∙ sym (due_parts copies i (e c) ((carried run w).tuple c) (s c))

  -- whose row it is
  matches_are : (i c : ℕ) → i < slots → line_of run ms i c ≡ same_key (slice_get (keys_at slots (column_of key) stride (carried run w) c) i) (y c)
  unfolding tuple_at
  matches_are i c l =
      let z = sought_at run r.used r.keys f.free w.valid y c in
      is_ms i c l ∙ ap (λ b. b || line_of run r.seen.takes i c) ((is_r.seen c).found i l) ∙ ap (λ b. found z i || b) ((is_r.seen c).takes i l) ∙ ap (λ k. matches slots k i) (sought_is c)
      ∙ matches_now slots (column_of key) (s c) (at c) (mirrors c) (e c) (v c) (x c) (y c) (is_key c) i l

  comes_is : (c : ℕ) (z : Row) → (carried run w).tuple c ≡ Some z → y c ≡ column_of key z
  unfolding tuple_at
  comes_is c z q = is_key c (some_so (v c) (x c) z q) ∙ ap (column_of key) (some_is (v c) (x c) z q)

  rests_is : (c : ℕ) (z : Row) → (carried run w).tuple c ≡ None → (s c).flush ≡ true → (s c).held ≡ Some z → y c ≡ column_of key z
  unfolding tuple_at
  rests_is c z q on q' =
      ap (λ (b : Bool). column_of key (if b then x c else row_at run c look.row)) (none_is (v c) (x c) q)
      ∙ ap (column_of key) (some_is (line_at run h.held c) (row_at run c look.row) z (sym ((mirrors c).held on) ∙ q'))

  tail_now : (c : ℕ) → line_at run h.tail c ≡ tail_of (cycle c) (at c)
  tail_now c = is_h.tail c ∙ ap (λ b. (e c && v c) || (b && line_at run h.held c)) (is_f.idle c)

  tails_are : (c : ℕ)
      → line_at run h.tail c ≡ ((e c && is_some ((carried run w).tuple c)) || ((s c).flush && not (e c || is_some ((carried run w).tuple c)) && is_some (s c).held))
  unfolding tuple_at
  tails_are c =
      tail_now c ∙ ap (λ b. (e c && v c) || ((b && not (v c || e c)) && line_at run h.held c)) (mirrors c).flush
      ∙ tail_by (e c) (v c) (x c) (s c).flush (line_at run h.held c) (s c).held (row_at run c look.row) (mirrors c).held

  keys_shown : (i c z : ℕ) → i < slots → slice_get (s c).keys i ≡ Some z → held_of run r.keys i c ≡ z
  keys_shown i c z l there = by (line_of run r.used i c) (held_of run r.keys i c) (sym ((mirrors c).slots i l) ∙ there)
    where
      by : (b : Bool) (n : ℕ) → (if b then Some n else None) ≡ Some z → n ≡ z
      by true n q = cc
      by false n q = absurd (cc)

  further_told : (c : ℕ) → line_at run r.seen.passes c ≡ is_further (column_of key) (keys_at slots (column_of key) stride (carried run w) c) ((carried run w).tuple c)
  unfolding tuple_at
  further_told c =
      (is_r.seen c).passes ∙ ap (λ z. asked slots z slots) (sought_is c)
      ∙ further_is slots stride (column_of key) some (s c) (at c) (mirrors c) (e c) (v c) (x c) (y c) (is_key c)

  look_is : (size advance : ℕ)
      → IsLook run (record { slots = slots; key = column_of key; size = size; advance = advance; copies = copies; stride = stride }) w
      (record { row = look.row; keys = r.keys; matches = ms; dues = dues; tail = h.tail; passes = r.seen.passes })
  look_is size advance = record {
    row = λ c q. is_look.row c ∙ ap (λ (b : Bool). if b then row_at run (suc c) w.columns else row_at run (suc c) look.row) q;
    kept = λ c q. is_look.row c ∙ ap (λ (b : Bool). if b then row_at run (suc c) w.columns else row_at run (suc c) look.row) q;
    matches = λ i c z l q. matches_are i c l ∙ ap (same_key (slice_get (keys_at slots (column_of key) stride (carried run w) c) i)) (comes_is c z q);
    resting = λ i c z l q no on q'. matches_are i c l ∙ ap (same_key (slice_get (keys_at slots (column_of key) stride (carried run w) c) i)) (rests_is c z q on q');
    turns = dues_are;
    tails = tails_are;
    keys = keys_shown;
    further = further_told;
  }

-- one after another the parts look at the slots
module _ (n0 n1 n2 n3 n4 n5 n6 n7 : Net) (w : Wire) (key slots copies stride width : ℕ) (some : 1 ≤ slots) (some_copy : 1 ≤ copies) (f : Flush) (h : Tail) (look : Lookup) (r : SlotLines) (g : Turns) (dues ms : List Bit)
    (is_f : AddsFlush n0 n1 w.valid w.eos stride f) (is_h : AddsTail n1 n2 w.valid w.eos f.idle h) (is_look : AddsLookup n2 n3 w key look)
    (is_r : AddsSlots n3 n4 f.free w.valid look.here slots width r) (is_g : AddsTurns n4 n5 w.eos f.due slots copies g)
    (is_dues : AddsLines n5 n6 slots 3 dues (turned_to slots f.due g.rest)) (is_ms : AddsLines n6 n7 (length r.seen.found) 1 ms (pairs Either r.seen.found r.seen.takes)) where
  k67 : Keeps n6 n7
  k67 = is_ms.keeps

  k57 : Keeps n5 n7
  k57 = keeps_then n5 n6 n7 is_dues.keeps k67

  k47 : Keeps n4 n7
  k47 = keeps_then n4 n5 n7 is_g.keeps k57

  k37 : Keeps n3 n7
  k37 = keeps_then n3 n4 n7 is_r.keeps k47

  k27 : Keeps n2 n7
  k27 = keeps_then n2 n3 n7 is_look.keeps k37

  k17 : Keeps n1 n7
  k17 = keeps_then n1 n2 n7 is_h.keeps k27

  slots_bits : slots * (look.here.width + 1) ≡ slots * (slice_index (widths w.columns) key + 1)
  slots_bits = ap (λ n. slots * (n + 1)) is_look.here_width

  ms_line : (run : Run) → IsRun n7 run → (k t : ℕ) → k < slots → line_of run ms k t ≡ (line_of run r.seen.found k t || line_of run r.seen.takes k t)
  unfolding pairs
  ms_line run z k t l = is_ms.line run z k t (omega (arith, l, is_r.are.found_count))

  pub look_adds : AddsLook n0 n7 key slots copies stride width w (record { row = look.row; keys = r.keys; matches = ms; dues = dues; tail = h.tail; passes = r.seen.passes })
  look_adds = record {
    keeps = keeps_then n0 n1 n7 is_f.keeps k17;
    cost = record {
      nodes = omega (arith, is_f.cost.nodes, is_h.cost.nodes, is_look.cost.nodes, is_r.cost.nodes, is_g.cost.nodes, is_dues.cost.nodes, is_ms.cost.nodes, is_r.are.found_count, gates_some slots some);
      registers = omega (arith, is_f.cost.registers, is_h.cost.registers, is_look.cost.registers, is_r.cost.registers, is_g.cost.registers, is_dues.cost.registers, is_ms.cost.registers, is_f.few, is_g.few, slots_bits);
      memories = omega (arith, is_f.cost.memories, is_h.cost.memories, is_look.cost.memories, is_r.cost.memories, is_g.cost.memories, is_dues.cost.memories, is_ms.cost.memories);
    };
    row_buses = buses_kept n3 n7 look.row k37 is_look.row_buses;
    row_widths = is_look.row_widths;
    keys_count = is_r.keys_count;
    keys = λ k b e. (bus_kept n4 n7 b k47 (is_r.keys_there.each k b e), is_r.keys_width k b e ∙ is_look.here_width);
    matches_count = is_ms.count ∙ is_r.are.found_count;
    matches = is_ms.bits;
    dues_count = is_dues.count;
    dues = bits_kept n6 n7 dues k67 is_dues.bits;
    tail = bit_kept n2 n7 h.tail k27 is_h.bit;
    passes = bit_kept n4 n7 r.seen.passes k47 is_r.are.passes;
    law = λ run z size advance.
        look_is run w key slots copies stride some some_copy f h look r g dues ms
        (is_f.law run (k17.runs run z)) (is_h.law run (k27.runs run z)) (is_look.law run (k37.runs run z))
        (is_r.law run (k47.runs run z) (latest_key run w key look) (latest_is run w key look (is_look.law run (k37.runs run z))))
        (is_g.law run (k57.runs run z)) (is_dues.line run (k67.runs run z)) (ms_line run z) size advance;
  }
