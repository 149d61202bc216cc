-- Slots in registers that find a key one cycle after it came.
use Rattle.std.proofs.Common.{◌≡◌, ℕ, zero, suc, ◌+◌, ◌-◌, ◌*◌, ◌<◌, ◌≤◌, ◌^◌, List, length, Bool, true, false, refl, sym, ap, ◌∙◌, arith, map, replicate}
use Rattle.std.specs.Prelude.{not, ◌&&◌, ◌||◌, if◌then◌else◌, nat_eq}
use Rattle.gl_bits.specs.Words.{Word}
use Rattle.gl_net.specs.declared.node.Bus.{Bus}
use Rattle.gl_net.specs.declared.node.Bit.{Bit}
use Rattle.gl_net.specs.Net.{Net, Run, IsRun, Keeps, Grows}
use Rattle.gl_net.proofs.Determined.{keeps_then}
use Rattle.gl_wire.specs.Gates.{same_at}
use Rattle.gl_wire.specs.Wire.{line_at}
use Rattle.gl_wire_registers.specs.Held.{held_at}
use Rattle.gl_wire_registers.specs.Lines.{held_of, line_of, to_bit, to_bus}
use Rattle.gl_wire_registers.specs.Registers.{DrivesAll, MayDrive, Opens}
use Rattle.gl_wire_registers.proofs.FlagLemmas.{flag_next, flags_may, length_replicate, same_bits}
use Rattle.gl_wire_registers.proofs.LineLemmas.{line_of-first}
use Rattle.gl_wire_registers.proofs.RegisterLemmas.{closed_up, grown_bus}
use Rattle.gl_groups.specs.declared.finding.Asking.{Asking}
use Rattle.gl_groups.specs.declared.finding.Sought.{Sought}
use Rattle.gl_groups.specs.Ahead.{Ahead, GoesOn, sought_in}
use Rattle.gl_groups.specs.Finding.{AddsHeld, AddsSlotsFound, AddsSought, AreFound, AreSought, IsAsked, IsSought, ahead_in}
use Rattle.gl_slots.specs.Seeking.{Sought as Slots, is_next, kept}
use Rattle.gl_slots.specs.SlotLines.{asked_of, same_to}
use Rattle.gl_groups.specs.Telling.{passes_in}
use Rattle.gl_slots.proofs.SeenNet.{bit_opened}
use Rattle.gl_slots.proofs.SlotNet.{bits_opened}

pub sought_opened : (old new : Net) (n width key : ℕ) (r : Sought) → Grows old new → AreSought old n width key r → AreSought new n width key r
sought_opened old new n width key r g h = record {
  kept_count = h.kept_count;
  kept = bits_opened old new r.kept g h.kept;
  keys_count = h.keys_count;
  keys = record { each = λ k b e. grown_bus old new b g (h.keys.each k b e) };
  keys_width = h.keys_width;
  hits_count = h.hits_count;
  hits = bits_opened old new r.hits g h.hits;
  moved = bit_opened old new r.moved g h.moved;
  one = bit_opened old new r.one.one g h.one;
  had = bit_opened old new r.one.had g h.had;
  nexts_count = h.nexts_count;
  nexts = bits_opened old new r.asked.nexts g h.nexts;
  passes = bit_opened old new r.passes g h.passes;
  many = grown_bus old new r.many.many g h.many;
  many_width = h.many_width;
  number = grown_bus old new r.place.number g h.number;
  number_width = h.number_width;
  home = grown_bus old new r.place.home g h.home;
  home_width = h.home_width;
}

pub sought_kept : (old new : Net) (n width key : ℕ) (r : Sought) → Keeps old new → AreSought old n width key r → AreSought new n width key r
sought_kept old new n width key r keeps h = sought_opened old new n width key r (record { runs = keeps.runs; shapes = keeps.shapes }) h

-- ---- in one run

module _ (run : Run) (a : Asking) (used : List Bit) (n width : ℕ) (some : 1 ≤ n) (fits : n < 2 ^ width) (r : Sought) (law : IsSought run a used n width r) (asked : IsAsked run a)
    (next : (k t : ℕ) → k < n → line_of run used k (suc t) ≡ (line_of run r.kept k t || (line_of run r.asked.nexts k t && not (line_at run r.one.one t)))) where
  abbrev all : Ahead
  all = ahead_in run a used r law.met

  abbrev s : ℕ → Slots
  s t = sought_in all t

  asks_is : (k t : ℕ) → k < n → (asked_of a.ask r.kept run k t && not (line_of run r.kept k t)) ≡ is_next (s t) k
  unfolding asked_of
  asks_is zero t l = ap (λ b. line_at run a.ask t && not b) (law.kept 0 t l)
  asks_is (suc k) t l =
      ap (λ b. (line_at run a.ask t && b) && not (line_of run r.kept (suc k) t)) (law.kept k t (omega (arith, l)))
      ∙ ap (λ b. (line_at run a.ask t && kept (s t) k) && not b) (law.kept (suc k) t l)

  next_is : (k t : ℕ) → k < n → line_of run r.asked.nexts k t ≡ is_next (s t) k
  next_is k t l = law.nexts k t l ∙ asks_is k t l

  used_is : (k t : ℕ) → k < n → line_of run used k (suc t) ≡ (kept (s t) k || (is_next (s t) k && not (line_at run r.one.one t)))
  used_is k t l =
      next k t l ∙ ap (λ b. b || (line_of run r.asked.nexts k t && not (line_at run r.one.one t))) (law.kept k t l)
      ∙ ap (λ b. kept (s t) k || (b && not (line_at run r.one.one t))) (next_is k t l)

  key_is : (k t : ℕ) → k < n → held_of run r.keys k (suc t) ≡ (if is_next (s t) k then held_at 0 run a.last t else held_of run r.keys k t)
  key_is k t l = law.key k t l ∙ ap (λ b. if b then held_at 0 run a.last t else held_of run r.keys k t) (next_is k t l)

  hit_is : (k t : ℕ) → k < n → line_of run r.hits k (suc (suc t)) ≡ (kept (s (suc t)) k && nat_eq (held_at 0 run a.here (suc t)) (held_of run r.keys k (suc t)))
  unfolding same_to
  hit_is k t l = law.hit k (suc t) l ∙ ap (λ b. b && nat_eq (held_at 0 run a.here (suc t)) (held_of run r.keys k (suc t))) (law.kept k (suc t) l)

  first_hit : (k : ℕ) → k < n → line_of run r.hits k 1 ≡ false
  first_hit k l = law.hit k 0 l ∙ ap (λ b. b && same_to a.here r.keys run k 0) (line_of-first run r.kept k)

  moved_is : (t : ℕ) → line_at run r.moved (suc t) ≡ (line_at run a.ask (suc t) && not (nat_eq (held_at 0 run a.here t) (held_at 0 run a.last t)))
  unfolding line_at held_at
  moved_is t = law.moved t ∙ come t ∙ ap (λ b. b && not (nat_eq (held_at 0 run a.here t) (held_at 0 run a.last t))) (sym (asked.ask t))
    where
      come : (t : ℕ) → (line_at run a.come t && not (same_at run a.here a.last t)) ≡ (line_at run a.come t && not (nat_eq (held_at 0 run a.here t) (held_at 0 run a.last t)))
      come zero = refl
      come (suc t) = refl

  full_is : (t : ℕ) → (line_at run a.ask t && not (asked_of a.ask r.kept run n t)) ≡ (line_at run a.ask t && not (kept (s t) (n - 1)))
  unfolding asked_of
  full_is t =
      let at : n ≡ suc (n - 1) = omega (arith, some) in
      ap (λ i. line_at run a.ask t && not (asked_of a.ask r.kept run i t)) at ∙ cases (line_at run a.ask t) (line_of run r.kept (n - 1) t)
      ∙ ap (λ b. line_at run a.ask t && not b) (law.kept (n - 1) t (omega (arith, some)))
    where
      cases : (x y : Bool) → (x && not (x && y)) ≡ (x && not y)
      cases true y = refl
      cases false y = refl

  passes_are : (t : ℕ) → line_at run r.passes t ≡ passes_in n all t
  unfolding asked_of
  passes_are t =
      let at : n ≡ suc (n - 1) = omega (arith, some) in
      law.passes t ∙ ap (λ i. asked_of a.ask r.kept run i t && not (line_at run r.one.one t)) at
      ∙ ap (λ b. (line_at run a.ask t && b) && not (line_at run r.one.one t)) (law.kept (n - 1) t (omega (arith, some)))

  pub goes_on : GoesOn n all
  unfolding line_at held_at
  goes_on = record {
    first_used = λ k. line_of-first run used k;
    first_ask = refl;
    first_moved = refl;
    first_had = refl;
    first_many = refl;
    first_hit = first_hit;
    comes = asked.comes;
    stays = asked.stays;
    used = used_is;
    key = key_is;
    hit = hit_is;
    moved = moved_is;
    had = law.had;
    home = law.home;
    many = λ t few. law.many t (λ e. let l = few e in omega (arith, l, fits));
    met = law.met_one;
    one = law.one;
    new = λ t. law.new t ∙ ap (λ b. b && not (line_at run r.one.one t)) (full_is t);
    number = law.number;
  }

-- ---- the flags of the slots in registers

module _ (n0 n1 n2 n3 n4 : Net) (a : Asking) (n width : ℕ) (some : 1 ≤ n) (fits : n < 2 ^ width) (w : Word) (regs : List Bus) (r : Sought) (hs : List Bit) (wide : w.width ≡ 1) (zeros : w.bits ≡ 0)
    (o : Opens n0 n1 (replicate n w) regs) (h : AddsSought n1 n2 a (map to_bit regs) n width r) (b : AddsHeld n2 n3 r.kept r.asked.nexts r.one.one hs) where
  held_count : length hs ≡ n
  held_count = b.count ∙ h.are.kept_count

  pub found_may : MayDrive n3 regs (map to_bus hs)
  found_may = flags_may n0 n1 n w regs o wide zeros n3 n4 hs held_count b.bits

  module _ (v : DrivesAll n3 n4 regs (map to_bus hs)) where
    k13 : Keeps n1 n3
    k13 = keeps_then n1 n2 n3 h.keeps b.keeps

    next : (run : Run) → IsRun n4 run → (k t : ℕ) → k < n → line_of run (map to_bit regs) k (suc t) ≡ (line_of run r.kept k t || (line_of run r.asked.nexts k t && not (line_at run r.one.one t)))
    next run r4 k t l =
        let r3 = v.grows.runs run r4 in
        flag_next n0 n1 n w regs o wide zeros n3 n4 hs held_count b.bits v run (k13.runs run r3) r4 k t l ∙ b.line run r3 k t (omega (arith, l, h.are.kept_count))

    law : (run : Run) → IsRun n4 run → IsAsked run a → AreFound run a n (record { used = map to_bit regs; sought = r })
    law run r4 asked =
        let r3 = v.grows.runs run r4 in
        let own = h.law run (b.keeps.runs run r3) in
        record {
          met = own.met;
          goes = goes_on run a (map to_bit regs) n width some fits r own asked (next run r4);
          kept = own.kept;
          nexts = next_is run a (map to_bit regs) n width some fits r own asked (next run r4);
          passes = passes_are run a (map to_bit regs) n width some fits r own asked (next run r4);
        }

    pub slots_found : AddsSlotsFound n0 n4 a n width (record { used = map to_bit regs; sought = r })
    slots_found = record {
      keeps = closed_up n0 n1 n3 n4 (replicate n w) regs (map to_bus hs) o k13 v;
      are = sought_opened n2 n4 n width a.last.width r (after v.grows) h.are;
      cost = record {
        nodes = omega (arith, v.cost.nodes, h.cost.nodes, b.cost.nodes, o.cost.nodes, length_replicate n w, h.are.kept_count);
        registers = omega (arith, v.cost.registers, h.cost.registers, b.cost.registers, o.cost.registers, same_bits n w, ap (λ i. n * i) wide, bits);
        memories = omega (arith, v.cost.memories, h.cost.memories, b.cost.memories, o.cost.memories);
      };
      law = law;
    }
      where
        bits : n * (a.last.width + 2) ≡ n * (a.last.width + 1) + n
        bits = omega arith

        after : Grows n3 n4 → Grows n2 n4
        after g = record { runs = λ run z. b.keeps.runs run (g.runs run z); shapes = λ i s e. g.shapes i s (b.keeps.shapes i s e) }
