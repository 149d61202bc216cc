-- The slots with the register that tells which one has the key of the row that came last.
use Rattle.std.proofs.Common.{◌≡◌, ℕ, zero, suc, ◌*◌, ◌<◌, List, length, Bool, true, false, refl, sym, ap, ◌∙◌, subst, arith}
use Rattle.std.specs.Prelude.{not, if◌then◌else◌, nat_eq}
use Rattle.std.proofs.lemmas.Bool.{ne_eqb}
use Rattle.gl_bits.proofs.Bools.{and_left, by_cases}
use Rattle.gl_net.specs.Builds.{Follows, IsChoice}
use Rattle.gl_net.specs.declared.node.Bus.{Bus}
use Rattle.gl_net.specs.declared.node.Bit.{Bit}
use Rattle.gl_net.specs.Net.{Net, Run, IsRun, IsBus, Grows, Keeps}
use Rattle.gl_net.proofs.Determined.{keeps_then}
use Rattle.gl_wire.specs.Costs.{Costs, nodes_alone}
use Rattle.gl_wire.specs.Wire.{line_at}
use Rattle.gl_wire.proofs.ColumnLemmas.{bus_kept}
use Rattle.gl_wire.proofs.GateLemmas.{choose_line}
use Rattle.gl_wire_registers.specs.Held.{held_at, with_registers}
use Rattle.gl_wire_registers.specs.Lines.{AddsLines, any_to, held_of, line_of}
use Rattle.gl_wire_registers.proofs.LineLemmas.{line_of-first}
use Rattle.gl_wire_registers.proofs.RegisterLemmas.{grown_bus}
use Rattle.gl_slots.specs.declared.slots.Seen.{Seen}
use Rattle.gl_slots.specs.declared.slots.SlotLines.{SlotLines}
use Rattle.gl_slots.specs.Homes.{AddsMark, AreMarks, IsMark, keeper}
use Rattle.gl_slots.specs.Picks.{AddsNumbers, IsPicked, PicksOne}
use Rattle.gl_slots.specs.Seeking.{Sought, asks, found, has, is_next, kept}
use Rattle.gl_slots.specs.SlotLines.{AddsKept, AddsSlots, AreKept, AreSeen, AreSlotLines, FindsKey, IsLatest, IsSeen, same_to, sought_at}
use Rattle.gl_slots.proofs.HomeLemmas.{InOrder, Marks, marks_then, order_next}
use Rattle.gl_slots.proofs.SeenNet.{seen_kept, seen_opened}

-- ---- the mark

same_mark : (n mark : ℕ) (f g : ℕ → Bool) → ((k : ℕ) → k < n → f k ≡ g k) → IsMark n f mark → IsMark n g mark
same_mark n mark f g same is = record {
  none = λ low. is.none (λ k l. same k l ∙ low k l);
  one = λ k l high only. is.one k l (same k l ∙ high) (λ j m e. only j m (sym (same j m) ∙ e));
}

-- what is picked of the marks
picked_mark : (run : Run) (lines : List Bit) (marks : List Bus) (n v t : ℕ) → length lines ≡ n → ((k u : ℕ) → k < n → held_of run marks k (suc u) ≡ suc k) → IsPicked run lines marks t v
    → IsMark n (λ k. line_of run lines k t) v
picked_mark run lines marks n v zero many value p = record {
  none = λ low. p.none (λ k l. low k (omega (arith, l, many)));
  one = λ k l high only. (let z = line_of-first run lines k in absurd (cc));
}
picked_mark run lines marks n v (suc t) many value p = record {
  none = λ low. p.none (λ k l. low k (omega (arith, l, many)));
  one = λ k l high only. p.one k (omega (arith, l, many)) high (λ j m e. only j (omega (arith, m, many)) e) ∙ value k t l;
}

pub mark_is : (n0 n1 n2 n3 : Net) (seen : Seen) (n width : ℕ) (marks : List Bus) (has next b : Bus) → AreSeen n0 n seen → AreMarks n0 n width marks → PicksOne n0 n1 seen.found marks width (length seen.found * 2) has
    → PicksOne n1 n2 seen.nexts marks width (length seen.nexts * 2) next → Keeps n2 n3 → Costs n2 n3 (nodes_alone 1) → IsBus n3 b → b.width ≡ has.width → IsChoice n3 seen.one has next b → AddsMark n0 n3 seen n width b
unfolding held_at line_at
mark_is n0 n1 n2 n3 seen n width marks has next b are marked p q keeps cost bus wide chosen = record {
  keeps = keeps_then n0 n1 n3 p.keeps k13;
  bus = bus;
  same_width = wide ∙ p.same_width;
  cost = record {
    nodes = omega (arith, p.cost.nodes, q.cost.nodes, cost.nodes, are.found_count, are.nexts_count);
    registers = omega (arith, p.cost.registers, q.cost.registers, cost.registers);
    memories = omega (arith, p.cost.memories, q.cost.memories, cost.memories);
  };
  mark = mark;
}
  where
    k13 : Keeps n1 n3
    k13 = keeps_then n1 n2 n3 q.keeps keeps

    value : (run : Run) → IsRun n3 run → (t : ℕ) → held_at 0 run b t ≡ (if line_at run seen.one t then held_at 0 run has t else held_at 0 run next t)
    value run r zero = refl
    value run r (suc t) = chosen run r (suc t) ∙ choose_line run seen.one (run.at (suc t) has.node) (run.at (suc t) next.node) t

    by : (x : Bool) (f g : ℕ → Bool) (v w : ℕ) → IsMark n f v → IsMark n g w → IsMark n (λ k. if x then f k else g k) (if x then v else w)
    by true f g v w a c = a
    by false f g v w a c = c

    mark : (run : Run) → IsRun n3 run → (t : ℕ) → IsMark n (keeper run seen t) (held_at 0 run b t)
    mark run r t =
        let values = marked.value run (p.keeps.runs run (k13.runs run r)) in
        let found = picked_mark run seen.found marks n (held_at 0 run has t) t are.found_count values (p.law run (k13.runs run r) t) in
        let nexts = picked_mark run seen.nexts marks n (held_at 0 run next t) t are.nexts_count values (q.law run (keeps.runs run r) t) in
        subst (λ (v : ℕ). IsMark n (keeper run seen t) v) (sym (value run r t))
        (by (line_at run seen.one t) (λ k. line_of run seen.found k t) (λ k. line_of run seen.nexts k t) (held_at 0 run has t) (held_at 0 run next t) found nexts)

-- ---- in one run

next_asks : (s : Sought) (k : ℕ) → is_next s k ≡ true → s.ask ≡ true
next_asks s zero h = and_left s.ask (not (kept s 0)) h
next_asks s (suc k) h = and_left s.ask (kept s k) (and_left (asks s (suc k)) (not (kept s (suc k))) h)

module _ (run : Run) (free ask : Bit) (here : Bus) (count : ℕ) (home : Bus) (homes : List Bit) (r : SlotLines) (law : AreKept run free ask here homes count r)
    (lines : (k t : ℕ) → k < count → line_of run homes k t ≡ nat_eq (held_at 0 run home t) (suc k)) (marked : (t : ℕ) → IsMark count (keeper run r.seen t) (held_at 0 run home (suc t)))
    (value : ℕ → ℕ) (latest : IsLatest run ask here value) where
  abbrev s : ℕ → Sought
  s t = sought_at run r.used r.keys free ask value t

  -- the key of the row that came last
  abbrev last : ℕ → ℕ
  last zero = 0
  last (suc t) = value t

  -- up to the cycle behind the reset no slot is used
  same_last : (t k : ℕ) → k < count → line_of run r.used k t ≡ true → line_at run ask t ≡ false → last t ≡ value t
  same_last zero k l h e = let z = line_of-first run r.used k in absurd (cc)
  same_last (suc zero) k l h e = let z : line_of run r.used k 1 ≡ false = law.used k 0 l ∙ line_of-first run r.seen.has k in absurd (cc)
  same_last (suc (suc t)) k l h e = sym (latest.stays t e)

  module _ (t : ℕ) (told : Marks count (s t) (last t) (held_at 0 run home t)) where
    finds : FindsKey run count r.used r.keys ask here homes (value t) t
    finds k l h = by_cases (line_at run ask t)
        (λ e. ap (λ (b : Bool). if b then nat_eq (held_at 0 run here t) (held_of run r.keys k t) else line_of run homes k t) e
        ∙ ap (λ n. nat_eq n (held_of run r.keys k t)) (sym (latest.comes t e)))
        (λ e. ap (λ (b : Bool). if b then nat_eq (held_at 0 run here t) (held_of run r.keys k t) else line_of run homes k t) e
        ∙ lines k t l ∙ told k l h ∙ ap (λ n. nat_eq n (held_of run r.keys k t)) (same_last t k l h e))

    seen : IsSeen run count (s t) r.seen t
    seen = law.seen value t finds

    used_next : (k : ℕ) → k < count → line_of run r.used k (suc t) ≡ has count (s t) k
    used_next k l = law.used k t l ∙ seen.has k l

    key_next : (k : ℕ) → k < count → held_of run r.keys k (suc t) ≡ (if is_next (s t) k then value t else held_of run r.keys k t)
    key_next k l = law.key value k t l ∙ by (is_next (s t) k) (λ e. sym (latest.comes t (next_asks (s t) k e)))
      where
        by : (b : Bool) → (b ≡ true → held_at 0 run here t ≡ value t) → (if b then held_at 0 run here t else held_of run r.keys k t) ≡ (if b then value t else held_of run r.keys k t)
        by true e = e refl
        by false e = refl

    mark_next : IsMark count (λ k. if any_to count (found (s t)) then found (s t) k else is_next (s t) k) (held_at 0 run home (suc t))
    mark_next =
        same_mark count (held_at 0 run home (suc t)) (keeper run r.seen t) (λ k. if any_to count (found (s t)) then found (s t) k else is_next (s t) k)
        (λ k l. ap (λ (b : Bool). if b then line_of run r.seen.found k t else line_of run r.seen.nexts k t) seen.one
        ∙ ap (λ b. if any_to count (found (s t)) then b else line_of run r.seen.nexts k t) (seen.found k l)
        ∙ ap (λ b. if any_to count (found (s t)) then found (s t) k else b) (seen.nexts k l))
        (marked t)

    then_order : InOrder count (s t) → InOrder count (s (suc t))
    then_order order = order_next count (s t) order (s (suc t)) used_next key_next

    then_told : InOrder count (s t) → Marks count (s (suc t)) (value t) (held_at 0 run home (suc t))
    then_told order = marks_then count (s t) order (s (suc t)) used_next key_next (held_at 0 run home (suc t)) mark_next

  -- in each cycle slots are in order, and the register tells which one has the key
  told_at : (t : ℕ) → InOrder count (s t) × Marks count (s t) (last t) (held_at 0 run home t)
  told_at zero = (
    record {
      before = λ k l h. (let z = line_of-first run r.used (suc k) in absurd (cc));
      apart = λ j k l m g h e. (let z = line_of-first run r.used j in absurd (cc));
    },
    λ k l h. (let z = line_of-first run r.used k in absurd (cc)),
  )
  told_at (suc t) = let h = told_at t in (then_order t h.1 h.0, then_told t h.1 h.0)

  pub slot_lines : AreSlotLines run free ask value count r
  slot_lines = record {
    used = λ k t l. used_next t (told_at t).1 k l;
    key = λ k t l. key_next t (told_at t).1 k l;
    seen = λ t. seen t (told_at t).1;
  }

-- ---- the register

module _ (n0 n1 n2 n3 n4 n5 n6 : Net) (free ask : Bit) (here : Bus) (count width : ℕ) (marks : List Bus) (home : Bus) (homes : List Bit) (r : SlotLines) (next : Bus)
    (is_m : AddsNumbers n0 n1 (λ k. suc k) count width marks) (start : (run : Run) → IsRun n2 run → run.at 1 home.node ≡ 0) (open_cost : Costs n1 n2 (with_registers 1 width)) (opened : Grows n1 n2)
    (is_l : AddsLines n2 n3 (length marks) 1 homes (same_to home marks)) (is_r : AddsKept n3 n4 free ask here homes count r) (is_n : AddsMark n4 n5 r.seen (length marks) width next)
    (drives : Grows n5 n6) (drive_cost : Costs n5 n6 (nodes_alone 0)) (follows : Follows n6 home next) (closed : Keeps n1 n6) where
  k45 : Keeps n4 n5
  k45 = is_n.keeps

  k35 : Keeps n3 n5
  k35 = keeps_then n3 n4 n5 is_r.keeps k45

  k25 : Keeps n2 n5
  k25 = keeps_then n2 n3 n5 is_l.keeps k35

  module _ (run : Run) (z : IsRun n6 run) where
    at_n5 : IsRun n5 run
    at_n5 = drives.runs run z

    home_line : (k t : ℕ) → k < count → line_of run homes k t ≡ nat_eq (held_at 0 run home t) (suc k)
    unfolding same_to held_at
    home_line k zero l = line_of-first run homes k ∙ sym (ne_eqb 0 (suc k) (λ e. omega (arith, e)))
    home_line k (suc t) l =
        is_l.line run (k35.runs run at_n5) k (suc t) (omega (arith, l, is_m.count))
        ∙ ap (nat_eq (held_at 0 run home (suc t))) (is_m.value run (opened.runs run (k25.runs run at_n5)) k t l)

    home_next : (t : ℕ) → held_at 0 run home (suc t) ≡ held_at 0 run next t
    unfolding held_at
    home_next zero = start run (k25.runs run at_n5)
    home_next (suc t) = follows run z t

    mark_held : (t : ℕ) → IsMark count (keeper run r.seen t) (held_at 0 run home (suc t))
    mark_held t =
        subst (λ (v : ℕ). IsMark count (keeper run r.seen t) v) (sym (home_next t))
        (subst (λ (n : ℕ). IsMark n (keeper run r.seen t) (held_at 0 run next t)) is_m.count (is_n.mark run at_n5 t))

    lines_law : (value : ℕ → ℕ) → IsLatest run ask here value → AreSlotLines run free ask value count r
    lines_law value latest = slot_lines run free ask here count home homes r (is_r.law run (k45.runs run at_n5)) home_line mark_held value latest

  pub slots_add : AddsSlots n0 n6 free ask here count width r
  slots_add = record {
    keeps = keeps_then n0 n1 n6 is_m.keeps closed;
    used_count = is_r.used_count;
    keys_count = is_r.keys_count;
    keys_there = record { each = λ k b e. grown_bus n5 n6 b drives (bus_kept n4 n5 b k45 (is_r.keys_there.each k b e)) };
    keys_width = is_r.keys_width;
    are = seen_opened n5 n6 count r.seen drives (seen_kept n4 n5 count r.seen k45 is_r.are);
    cost = record {
      nodes = omega (arith, is_m.cost.nodes, open_cost.nodes, is_l.cost.nodes, is_r.cost.nodes, is_n.cost.nodes, drive_cost.nodes, is_m.count);
      registers = omega (arith, is_m.cost.registers, open_cost.registers, is_l.cost.registers, is_r.cost.registers, is_n.cost.registers, drive_cost.registers);
      memories = omega (arith, is_m.cost.memories, open_cost.memories, is_l.cost.memories, is_r.cost.memories, is_n.cost.memories, drive_cost.memories);
    };
    law = λ run z value latest. lines_law run z value latest;
  }

-- marks are there behind the register, and what reads it
pub marks_there : (n0 n1 n2 n3 : Net) (n width : ℕ) (bs : List Bus) → AddsNumbers n0 n1 (λ k. suc k) n width bs → Grows n1 n2 → Keeps n2 n3 → AreMarks n3 (length bs) width bs
marks_there n0 n1 n2 n3 n width bs h g keeps = record {
  count = refl;
  alike = record { each = λ k b e. bus_kept n2 n3 b keeps (grown_bus n1 n2 b g (h.alike.each k b e)); widths = h.alike.widths };
  value = λ run r k t l. h.value run (g.runs run (keeps.runs run r)) k t (omega (arith, l, h.count));
}
