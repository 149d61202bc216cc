-- What the slots make of a key, with their registers.
use Rattle.std.proofs.Common.{◌≡◌, ℕ, zero, suc, ◌*◌, ◌<◌, ◌≤◌, List, length, Bool, true, false, refl, sym, ap, ◌∙◌, subst, arith, replicate}
use Rattle.std.specs.Prelude.{not, map, ◌&&◌, ◌||◌, if◌then◌else◌, nat_eq}
use Rattle.gl_bits.specs.Words.{Word}
use Rattle.gl_bits.proofs.AllLists.{get_there, length_map}
use Rattle.gl_bits.proofs.Bools.{by_cases}
use Rattle.gl_net.specs.declared.node.Bus.{Bus}
use Rattle.gl_net.specs.declared.node.Bit.{Bit}
use Rattle.gl_net.specs.Net.{Net, Run, IsRun, IsBit, Grows, Keeps}
use Rattle.gl_net.proofs.Determined.{keeps_then}
use Rattle.gl_wire.specs.Gates.{IsGate}
use Rattle.gl_wire.specs.Wire.{line_at}
use Rattle.gl_wire.proofs.ColumnLemmas.{bit_kept, bus_kept}
use Rattle.gl_wire_registers.specs.Held.{held_at}
use Rattle.gl_wire_registers.specs.declared.lines.LineOp.TheVariants.{Either, ButNot}
use Rattle.gl_wire_registers.specs.Lines.{AddsLines, any_to, gates_of, held_of, line_of, pairs, to_bit, to_bus, with_line}
use Rattle.gl_wire_registers.specs.Registers.{DrivesAll, MayDrive, Opens}
use Rattle.gl_wire_registers.proofs.CounterLemmas.{held_by}
use Rattle.gl_wire_registers.proofs.FlagLemmas.{flag_next, flags_may, reg_start, reg_width, regs_count, same_bits, length_replicate}
use Rattle.gl_wire_registers.proofs.LineLemmas.{any_same, bits_kept}
use Rattle.gl_wire_registers.proofs.RegisterLemmas.{closed_up, grown_bus}
use Rattle.gl_slots.specs.declared.slots.Asks.{Asks}
use Rattle.gl_slots.specs.declared.slots.Found.{Found}
use Rattle.gl_slots.specs.declared.slots.KeyLines.{KeyLines}
use Rattle.gl_slots.specs.declared.slots.Seek.{Seek}
use Rattle.gl_slots.specs.declared.slots.Seen.{Seen}
use Rattle.gl_slots.specs.Seeking.{Sought, asked, asks, found, has, is_next, kept, takes}
use Rattle.gl_slots.specs.SlotLines.{AddsAsks, AddsFound, AddsKept, AddsKeys, AddsNexts, AddsSeek, AddsSeen, AreKeyLines, AreKeysOf, AreSeen, FindsKey, IsSeen, asked_of, has_key, sought_at}
use Rattle.gl_slots.proofs.SeekLemmas.{asked_last, takes_last}
use Rattle.gl_slots.proofs.SlotNet.{held_of-get, bits_opened}

-- ---- what the slots make of the key

pub seen_kept : (old new : Net) (n : ℕ) (r : Seen) → Keeps old new → AreSeen old n r → AreSeen new n r
seen_kept old new n r keeps h = record {
  kept_count = h.kept_count;
  kept = bits_kept old new r.kept keeps h.kept;
  found_count = h.found_count;
  found = bits_kept old new r.found keeps h.found;
  one = bit_kept old new r.one keeps h.one;
  nexts_count = h.nexts_count;
  nexts = bits_kept old new r.nexts keeps h.nexts;
  takes_count = h.takes_count;
  takes = bits_kept old new r.takes keeps h.takes;
  has_count = h.has_count;
  has = bits_kept old new r.has keeps h.has;
  passes = bit_kept old new r.passes keeps h.passes;
}

pub bit_opened : (old new : Net) (b : Bit) → Grows old new → IsBit old b → IsBit new b
bit_opened old new b g h = record { there = g.shapes b.node _ h.there }

pub seen_opened : (old new : Net) (n : ℕ) (r : Seen) → Grows old new → AreSeen old n r → AreSeen new n r
seen_opened old new n r g h = record {
  kept_count = h.kept_count;
  kept = bits_opened old new r.kept g h.kept;
  found_count = h.found_count;
  found = bits_opened old new r.found g h.found;
  one = bit_opened old new r.one g h.one;
  nexts_count = h.nexts_count;
  nexts = bits_opened old new r.nexts g h.nexts;
  takes_count = h.takes_count;
  takes = bits_opened old new r.takes g h.takes;
  has_count = h.has_count;
  has = bits_opened old new r.has g h.has;
  passes = bit_opened old new r.passes g h.passes;
}

module _ (n0 n1 n2 n3 n4 n5 n6 : Net) (used : List Bit) (keys : List Bus) (free ask : Bit) (here : Bus) (homes : List Bit) (f : Found) (q : Asks) (ns ts hs : List Bit) (last : Bit)
    (a : AddsFound n0 n1 used keys free ask here homes f) (b : AddsAsks n1 n2 ask f.kept (length f.kept) q) (c : AddsLines n2 n3 (length q.asks) 1 ns (pairs ButNot q.asks f.kept))
    (d : AddsLines n3 n4 (length ns) 1 ts (with_line ButNot ns f.one)) (e : AddsLines n4 n5 (length f.kept) 1 hs (pairs Either f.kept ts)) (g : IsGate n5 n6 (λ x y. x && not y) q.passes f.one last) where
  k56 : Keeps n5 n6
  k56 = g.keeps

  k46 : Keeps n4 n6
  k46 = keeps_then n4 n5 n6 e.keeps k56

  k36 : Keeps n3 n6
  k36 = keeps_then n3 n4 n6 d.keeps k46

  k26 : Keeps n2 n6
  k26 = keeps_then n2 n3 n6 c.keeps k36

  k16 : Keeps n1 n6
  k16 = keeps_then n1 n2 n6 b.keeps k26

  asks_count : length q.asks ≡ length used
  asks_count = b.count ∙ a.kept_count

  nexts_count : length ns ≡ length used
  nexts_count = c.count ∙ asks_count

  module _ (run : Run) (r : IsRun n6 run) (value : ℕ → ℕ) where
    abbrev s : ℕ → Sought
    s t = sought_at run used keys free ask value t

    kept_is : (k t : ℕ) → k < length used → line_of run f.kept k t ≡ kept (s t) k
    kept_is = (a.law run (k16.runs run r)).kept

    asked_is : (k t : ℕ) → k ≤ length used → asked_of ask f.kept run k t ≡ asks (s t) k
    unfolding asked_of
    asked_is zero t l = refl
    asked_is (suc k) t l = ap (λ x. line_at run ask t && x) (kept_is k t (omega (arith, l)))

    next_is : (k t : ℕ) → k < length used → line_of run ns k t ≡ is_next (s t) k
    unfolding pairs
    next_is k t l =
        c.line run (k36.runs run r) k t (omega (arith, l, asks_count))
        ∙ ap (λ x. x && not (line_of run f.kept k t)) (b.asks run (k26.runs run r) k t (omega (arith, l, a.kept_count)) ∙ asked_is k t (omega (arith, l)))
        ∙ ap (λ x. asks (s t) k && not x) (kept_is k t l)

    -- a cycle in which it is told which slot has the key
    module _ (t : ℕ) (finds : FindsKey run (length used) used keys ask here homes (value t) t) where
      found_is : (k : ℕ) → k < length used → line_of run f.found k t ≡ found (s t) k
      found_is k l = (a.law run (k16.runs run r)).found k t l ∙ by_cases (line_of run used k t)
          (λ e. ap (λ x. (line_of run used k t && not (line_at run free t)) && x) (finds k l e))
          (λ e. ap (λ x. (x && not (line_at run free t)) && has_key run keys ask here homes k t) e
          ∙ sym (ap (λ x. (x && not (line_at run free t)) && nat_eq (value t) (held_of run keys k t)) e))

      one_is : line_at run f.one t ≡ any_to (length used) (found (s t))
      one_is = (a.law run (k16.runs run r)).one t ∙ any_same (length used) (λ k. line_of run f.found k t) (found (s t)) (λ k l. found_is k l)

      takes_is : (k : ℕ) → k < length used → line_of run ts k t ≡ takes (length used) (s t) k
      unfolding with_line
      takes_is k l =
          d.line run (k46.runs run r) k t (omega (arith, l, nexts_count)) ∙ ap (λ x. x && not (line_at run f.one t)) (next_is k t l)
          ∙ ap (λ x. is_next (s t) k && not x) one_is ∙ sym (takes_last (length used) (s t) k)

      has_is : (k : ℕ) → k < length used → line_of run hs k t ≡ has (length used) (s t) k
      unfolding pairs
      has_is k l =
          e.line run (k56.runs run r) k t (omega (arith, l, a.kept_count)) ∙ ap (λ x. x || line_of run ts k t) (kept_is k t l) ∙ ap (λ x. kept (s t) k || x) (takes_is k l)

      passes_is : line_at run last t ≡ asked (length used) (s t) (length used)
      passes_is =
          g.line run r t
          ∙ ap (λ x. x && not (line_at run f.one t))
          (b.passes run (k26.runs run r) t ∙ ap (λ n. asked_of ask f.kept run n t) a.kept_count ∙ asked_is (length used) t (omega arith))
          ∙ ap (λ x. asks (s t) (length used) && not x) one_is ∙ sym (asked_last (length used) (s t) (length used))

      is_seen : IsSeen run (length used) (s t) (record { kept = f.kept; found = f.found; one = f.one; nexts = ns; takes = ts; has = hs; passes = last }) t
      is_seen = record {
        kept = λ k l. kept_is k t l;
        found = found_is;
        one = one_is;
        nexts = λ k l. next_is k t l;
        takes = takes_is;
        has = has_is;
        passes = passes_is;
      }

  pub seen_are : AddsSeen n0 n6 used keys free ask here homes (record { kept = f.kept; found = f.found; one = f.one; nexts = ns; takes = ts; has = hs; passes = last })
  seen_are = record {
    keeps = keeps_then n0 n1 n6 a.keeps k16;
    are = record {
      kept_count = a.kept_count;
      kept = bits_kept n1 n6 f.kept k16 a.kept_bits;
      found_count = a.found_count;
      found = bits_kept n1 n6 f.found k16 a.found_bits;
      one = bit_kept n1 n6 f.one k16 a.one_bit;
      nexts_count = nexts_count;
      nexts = bits_kept n3 n6 ns k36 c.bits;
      takes_count = d.count ∙ nexts_count;
      takes = bits_kept n4 n6 ts k46 d.bits;
      has_count = e.count ∙ a.kept_count;
      has = bits_kept n5 n6 hs k56 e.bits;
      passes = g.bit;
    };
    cost = record {
      nodes = omega (arith, a.cost.nodes, b.cost.nodes, c.cost.nodes, d.cost.nodes, e.cost.nodes, g.cost.nodes, a.kept_count, asks_count, nexts_count);
      registers = omega (arith, a.cost.registers, b.cost.registers, c.cost.registers, d.cost.registers, e.cost.registers, g.cost.registers);
      memories = omega (arith, a.cost.memories, b.cost.memories, c.cost.memories, d.cost.memories, e.cost.memories, g.cost.memories);
    };
    nexts = λ run r value k t l. next_is run r value k t l;
    law = λ run r value t finds. is_seen run r value t finds;
  }

pub seek_is : (n0 n1 n2 : Net) (used : List Bit) (keys : List Bus) (free ask : Bit) (here : Bus) (homes : List Bit) (r : Seen) (ns : List Bus) → length keys ≡ length used
    → AddsSeen n0 n1 used keys free ask here homes r → AddsNexts n1 n2 r.nexts here keys (length keys) ns → AddsSeek n0 n2 used keys free ask here homes (record { seen = r; keys = ns })
seek_is n0 n1 n2 used keys free ask here homes r ns many a b = record {
  keeps = keeps_then n0 n1 n2 a.keeps b.keeps;
  are = seen_kept n1 n2 (length used) r b.keeps a.are;
  keys_count = b.count ∙ many;
  wide = b.are;
  cost = record {
    nodes = omega (arith, a.cost.nodes, b.cost.nodes, many);
    registers = omega (arith, a.cost.registers, b.cost.registers);
    memories = omega (arith, a.cost.memories, b.cost.memories);
  };
  law = λ run z value t finds. a.law run (b.keeps.runs run z) value t finds;
  key = λ run z value k t l.
      b.next run z k t (omega (arith, l, many))
      ∙ ap (λ x. if x then held_at 0 run here (suc t) else held_of run keys k (suc t)) (a.nexts run (b.keeps.runs run z) value k (suc t) l);
}

-- ---- the keys in registers

module _ (n0 n1 : Net) (used : List Bit) (w : Word) (free ask : Bit) (here : Bus) (homes : List Bit) (regs : List Bus) (wide : w.width ≡ here.width) (zeros : w.bits ≡ 0) (o : Opens n0 n1 (replicate (length used) w) regs) where
  pub regs_are : AreKeysOf n1 here regs
  regs_are = record { each = o.each; widths = λ k b h. reg_width n0 n1 (length used) w regs o k b h ∙ wide }

  module _ (n2 : Net) (z : Seek) (h : AddsSeek n1 n2 used regs free ask here homes z) where
    pub keys_may : MayDrive n2 regs z.keys
    keys_may = record {
      count = h.keys_count ∙ sym (regs_count n0 n1 (length used) w regs o);
      each = h.wide.each;
      widths = λ k b d at_b at_d. h.wide.widths k d at_d ∙ sym (reg_width n0 n1 (length used) w regs o k b at_b ∙ wide);
    }

    module _ (n3 : Net) (v : DrivesAll n2 n3 regs z.keys) where
      -- in the reset cycle a key is 0
      key_next : (run : Run) → IsRun n3 run → (value : ℕ → ℕ) (k t : ℕ) → k < length used
          → held_of run regs k (suc t) ≡ (if is_next (sought_at run used regs free ask value t) k then held_at 0 run here t else held_of run regs k t)
      unfolding held_at line_at
      key_next run r3 value k t l =
          let r2 = v.grows.runs run r3 in
          let at = get_there regs k (omega (arith, l, regs_count n0 n1 (length used) w regs o)) in
          let next = get_there z.keys k (omega (arith, l, h.keys_count)) in
          let own = held_of-get run regs k at.0 in
          own (suc t) at.1
          ∙ held_by run at.0 0 (λ u n. if is_next (sought_at run used regs free ask value u) k then held_at 0 run here u else n)
          (reg_start n0 n1 (length used) w regs o k at.0 at.1 run (h.keeps.runs run r2) ∙ zeros)
          (λ u. v.value k at.0 next.0 at.1 next.1 run r3 u ∙ sym (held_of-get run z.keys k next.0 (suc u) next.1) ∙ h.key run r2 value k u l
          ∙ ap (λ n. if is_next (sought_at run used regs free ask value (suc u)) k then held_at 0 run here (suc u) else n) (own (suc u) at.1))
          (none_first (is_next (sought_at run used regs free ask value 0) k) 0) t
          ∙ ap (λ n. if is_next (sought_at run used regs free ask value t) k then held_at 0 run here t else n) (sym (own t at.1))
        where
          none_first : (b : Bool) (n : ℕ) → (if b then n else n) ≡ n
          none_first true n = refl
          none_first false n = refl

      pub keys_add : AddsKeys n0 n3 used free ask here homes (record { keys = regs; seen = z.seen })
      keys_add = record {
        keeps = closed_up n0 n1 n2 n3 (replicate (length used) w) regs z.keys o h.keeps v;
        keys_count = regs_count n0 n1 (length used) w regs o;
        keys = record { each = λ k b e. grown_bus n2 n3 b v.grows (bus_kept n1 n2 b h.keeps (o.each k b e)); widths = regs_are.widths };
        are = seen_opened n2 n3 (length used) z.seen v.grows h.are;
        cost = record {
          nodes = omega (arith, v.cost.nodes, h.cost.nodes, o.cost.nodes, length_replicate (length used) w);
          registers = omega (arith, v.cost.registers, h.cost.registers, o.cost.registers, same_bits (length used) w, ap (λ n. length used * n) wide);
          memories = omega (arith, v.cost.memories, h.cost.memories, o.cost.memories);
        };
        law = λ run r3. record { key = λ value k t l. key_next run r3 value k t l; seen = λ value t finds. h.law run (v.grows.runs run r3) value t finds };
      }

-- ---- the flags of the slots in registers

module _ (n0 n1 n2 n3 : Net) (count : ℕ) (w : Word) (free ask : Bit) (here : Bus) (homes : List Bit) (regs : List Bus) (r : KeyLines) (width : w.width ≡ 1) (zeros : w.bits ≡ 0)
    (o : Opens n0 n1 (replicate count w) regs) (h : AddsKeys n1 n2 (map to_bit regs) free ask here homes r) where
  many : length (map to_bit regs) ≡ count
  many = length_map to_bit regs ∙ regs_count n0 n1 count w regs o

  pub slots_may : MayDrive n2 regs (map to_bus r.seen.has)
  slots_may = flags_may n0 n1 count w regs o width zeros n2 n3 r.seen.has (h.are.has_count ∙ many) h.are.has

  module _ (v : DrivesAll n2 n3 regs (map to_bus r.seen.has)) where
    pub slots_kept : AddsKept n0 n3 free ask here homes count (record { used = map to_bit regs; keys = r.keys; seen = r.seen })
    slots_kept = record {
      keeps = closed_up n0 n1 n2 n3 (replicate count w) regs (map to_bus r.seen.has) o h.keeps v;
      used_count = many;
      keys_count = h.keys_count ∙ many;
      keys_there = record { each = λ k b e. grown_bus n2 n3 b v.grows (h.keys.each k b e) };
      keys_width = h.keys.widths;
      are = subst (λ (n : ℕ). AreSeen n3 n r.seen) many (seen_opened n2 n3 (length (map to_bit regs)) r.seen v.grows h.are);
      cost = record {
        nodes = omega (arith, v.cost.nodes, h.cost.nodes, o.cost.nodes, length_replicate count w, many, ap gates_of many);
        registers = omega (arith, v.cost.registers, h.cost.registers, o.cost.registers, same_bits count w, ap (λ n. count * n) width, ap (λ n. n * here.width) many);
        memories = omega (arith, v.cost.memories, h.cost.memories, o.cost.memories);
      };
      law = λ run r3.
          let r2 = v.grows.runs run r3 in
          let law = subst (λ (n : ℕ). AreKeyLines run n (map to_bit regs) free ask here homes r) many (h.law run r2) in
          record {
            used = λ k t l. flag_next n0 n1 count w regs o width zeros n2 n3 r.seen.has (h.are.has_count ∙ many) h.are.has v run (h.keeps.runs run r2) r3 k t l;
            key = law.key;
            seen = law.seen;
          };
    }
