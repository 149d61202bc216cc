-- A tree of buses, each masked by its line, gives the bus whose line is 1.
use Rattle.std.proofs.Common.{◌≡◌, ℕ, zero, suc, ◌+◌, ◌-◌, ◌*◌, ◌<◌, ◌≤◌, List, [], ◌∷◌, ◌++◌, length, Some, Bool, true, refl, sym, ap, ◌∙◌, subst, arith, inl, inr, ◌/◌, ◌^◌, take, drop, length-append}
use Rattle.std.specs.Prelude.{slice_get, if◌then◌else◌, bit_or}
use Rattle.std.specs.Int.Bits.{or_zero_r}
use Rattle.std.proofs.Math.Pow.{pow-lt}
use Rattle.std.proofs.lemmas.Bool.{cases_lt}
use Rattle.gl_bits.specs.Words.{IsWidth, choose_of}
use Rattle.gl_bits.proofs.AllLists.{get_front, get_there}
use Rattle.gl_bits.proofs.Bools.{by_cases}
use Rattle.gl_net.specs.declared.node.Bus.{Bus}
use Rattle.gl_net.specs.declared.node.Bit.{Bit}
use Rattle.gl_net.specs.Net.{Net, Run, IsRun, IsBus, Keeps}
use Rattle.gl_net.proofs.Determined.{keeps_then}
use Rattle.gl_net.proofs.Growth.{same_keeps}
use Rattle.gl_net.proofs.Lists.{get_push_cases}
use Rattle.gl_wire.specs.Costs.{Costs, nodes_alone}
use Rattle.gl_wire.specs.Wire.{line_at}
use Rattle.gl_wire.proofs.ColumnLemmas.{bus_kept}
use Rattle.gl_wire.proofs.GateLemmas.{choose_line}
use Rattle.gl_wire_registers.specs.Held.{held_at}
use Rattle.gl_wire_registers.specs.Lines.{held_of, line_of}
use Rattle.gl_wire_registers.proofs.HalfLemmas.{AreHalves, get_behind, halves}
use Rattle.gl_wire_registers.proofs.LineLemmas.{line_of-get}
use Rattle.gl_wire_registers.proofs.RegisterLemmas.{length_taken}
use Rattle.gl_slots.specs.Picks.{AddsNumbers, AreAlike, CarriesZero, IsNumber, IsPicked, Masks, Merges, PicksOne}
use Rattle.gl_slots.proofs.SlotNet.{held_of-get, held_of-new, held_of-old}

pub masks_are : (old new : Net) (line : Bit) (bus z b : Bus) → Keeps old new → Costs old new (nodes_alone 1) → IsBus new b → b.width ≡ bus.width → CarriesZero old z
    → ((run : Run) → IsRun new run → (t : ℕ) → run.at t b.node ≡ choose_of (run.at t line.node) (run.at t bus.node) (run.at t z.node)) → Masks old new line bus b
unfolding held_at line_at
masks_are old new line bus z b keeps cost is width none value = record { keeps = keeps; there = is; same_width = width; cost = cost; value = at }
  where
    at : (run : Run) → IsRun new run → (t : ℕ) → held_at 0 run b t ≡ (if line_at run line t then held_at 0 run bus t else 0)
    at run r zero = refl
    at run r (suc t) =
        value run r (suc t) ∙ choose_line run line (run.at (suc t) bus.node) (run.at (suc t) z.node) t
        ∙ ap (λ n. if line_at run line (suc t) then run.at (suc t) bus.node else n) (none run (keeps.runs run r) (suc t))

pub merges_are : (old new : Net) (left right b : Bus) → Keeps old new → Costs old new (nodes_alone 1) → IsBus new b → b.width ≡ left.width
    → ((run : Run) → IsRun new run → (t : ℕ) → run.at t b.node ≡ bit_or (run.at t left.node) (run.at t right.node)) → Merges old new left right b
unfolding held_at
merges_are old new left right b keeps cost is width value = record { keeps = keeps; bus = is; same_width = width; cost = cost; value = at }
  where
    at : (run : Run) → IsRun new run → (t : ℕ) → held_at 0 run b t ≡ bit_or (held_at 0 run left t) (held_at 0 run right t)
    at run r zero = refl
    at run r (suc t) = value run r (suc t)

pub carries_zero : (old new : Net) (width : ℕ) (b : Bus) → IsNumber old new 0 width b → CarriesZero new b
unfolding held_at
carries_zero old new width b h run r zero = refl
carries_zero old new width b h run r (suc t) = h.value run r t

pub alike_kept : (old new : Net) (width : ℕ) (bs : List Bus) → Keeps old new → AreAlike old width bs → AreAlike new width bs
alike_kept old new width bs keeps h = record { each = λ k b e. bus_kept old new b keeps (h.each k b e); widths = h.widths }

-- a half of some buses are buses
pub alike_part : (net : Net) (width : ℕ) (bs cs : List Bus) → AreAlike net width (bs ++ cs) → AreAlike net width bs × AreAlike net width cs
alike_part net width bs cs h = (
  record { each = λ k b e. h.each k b (get_front bs cs k b e); widths = λ k b e. h.widths k b (get_front bs cs k b e) },
  record { each = λ k b e. h.each (length bs + k) b (get_behind bs cs k b e); widths = λ k b e. h.widths (length bs + k) b (get_behind bs cs k b e) },
)

pub picks_only : (old new : Net) (lines : List Bit) (buses : List Bus) (width : ℕ) (x : Bit) (b only : Bus) → AreAlike old width buses → slice_get lines 0 ≡ Some x → slice_get buses 0 ≡ Some b
    → length lines < 2 → Masks old new x b only → PicksOne old new lines buses width (length lines * 2 - 1) only
picks_only old new [] buses width x b only alike at at_bus few h = absurd (cc)
picks_only old new (y ∷ z ∷ lines) buses width x b only alike at at_bus few h = absurd (omega (arith, few))
picks_only old new (y ∷ []) buses width x b only alike at at_bus few h = record {
  keeps = h.keeps;
  bus = h.there;
  same_width = h.same_width ∙ alike.widths 0 b at_bus;
  cost = record { nodes = omega (arith, h.cost.nodes); registers = omega (arith, h.cost.registers); memories = omega (arith, h.cost.memories) };
  law = λ run r t. record {
    none = λ low. h.value run r t ∙ ap (λ (q : Bool). if q then held_at 0 run b t else 0) (sym (here run 0 t refl) ∙ low 0 (omega arith));
    one = λ k l high only_one.
        let e : k ≡ 0 = omega (arith, l) in
        h.value run r t ∙ ap (λ (q : Bool). if q then held_at 0 run b t else 0) (sym (here run k t e) ∙ high)
        ∙ sym (held_of-get run buses 0 b t at_bus) ∙ ap (λ i. held_of run buses i t) (sym e);
  };
}
  where
    here : (run : Run) (k t : ℕ) → k ≡ 0 → line_of run (y ∷ []) k t ≡ line_at run x t
    here run k t e = ap (λ i. line_of run (y ∷ []) i t) e ∙ line_of-get run (y ∷ []) 0 x t at

module _ (run : Run) (ls ms : List Bit) (bs cs : List Bus) (t : ℕ) (same_left : length bs ≡ length ls) (same_right : length cs ≡ length ms) where
  left_line : (k : ℕ) → k < length ls → line_of run (ls ++ ms) k t ≡ line_of run ls k t
  left_line k l = let x = get_there ls k l in line_of-get run (ls ++ ms) k x.0 t (get_front ls ms k x.0 x.1) ∙ sym (line_of-get run ls k x.0 t x.1)

  right_line : (k : ℕ) → k < length ms → line_of run (ls ++ ms) (length ls + k) t ≡ line_of run ms k t
  right_line k l = let x = get_there ms k l in line_of-get run (ls ++ ms) (length ls + k) x.0 t (get_behind ls ms k x.0 x.1) ∙ sym (line_of-get run ms k x.0 t x.1)

  left_bus : (k : ℕ) → k < length ls → held_of run bs k t ≡ held_of run (bs ++ cs) k t
  left_bus k l = let x = get_there bs k (omega (arith, l, same_left)) in held_of-get run bs k x.0 t x.1 ∙ sym (held_of-get run (bs ++ cs) k x.0 t (get_front bs cs k x.0 x.1))

  right_bus : (k : ℕ) → k < length ms → held_of run cs k t ≡ held_of run (bs ++ cs) (length ls + k) t
  right_bus k l =
      let x = get_there cs k (omega (arith, l, same_right)) in
      held_of-get run cs k x.0 t x.1 ∙ sym (held_of-get run (bs ++ cs) (length bs + k) x.0 t (get_behind bs cs k x.0 x.1))
      ∙ ap (λ n. held_of run (bs ++ cs) (n + k) t) same_left

  module _ (v w : ℕ) (p : IsPicked run ls bs t v) (q : IsPicked run ms cs t w) where
    -- where a line of one half is 1, none of the other is
    one_left : (k : ℕ) → k < length ls → line_of run ls k t ≡ true → ((j : ℕ) → j < length (ls ++ ms) → line_of run (ls ++ ms) j t ≡ true → j ≡ k) → bit_or v w ≡ held_of run (bs ++ cs) k t
    one_left k l high only =
        let mine : v ≡ held_of run bs k t = p.one k l high (λ j m e. only j (omega (arith, m, length-append ls ms)) (left_line j m ∙ e)) in
        let other : w ≡ 0 = q.none (λ j m. by_cases (line_of run ms j t)
        (λ e. let z = only (length ls + j) (omega (arith, m, length-append ls ms)) (right_line j m ∙ e) in absurd (omega (arith, z, l))) (λ e. e)) in
        ap (bit_or v) other ∙ or_zero_r v ∙ mine ∙ left_bus k l

    one_right : (k : ℕ) → k < length ms → line_of run ms k t ≡ true → ((j : ℕ) → j < length (ls ++ ms) → line_of run (ls ++ ms) j t ≡ true → j ≡ length ls + k)
        → bit_or v w ≡ held_of run (bs ++ cs) (length ls + k) t
    one_right k l high only =
        let mine : w ≡ held_of run cs k t = q.one k l high
        (λ j m e. let z = only (length ls + j) (omega (arith, m, length-append ls ms)) (right_line j m ∙ e) in omega (arith, z)) in
        let other : v ≡ 0 = p.none (λ j m. by_cases (line_of run ls j t)
        (λ e. let z = only j (omega (arith, m, length-append ls ms)) (left_line j m ∙ e) in absurd (omega (arith, z, m))) (λ e. e)) in
        ap (λ n. bit_or n w) other ∙ mine ∙ right_bus k l

    picked_both : IsPicked run (ls ++ ms) (bs ++ cs) t (bit_or v w)
    picked_both = record {
      none = λ low.
          let left : v ≡ 0 = p.none (λ k l. sym (left_line k l) ∙ low k (omega (arith, l, length-append ls ms))) in
          let right : w ≡ 0 = q.none (λ k l. sym (right_line k l) ∙ low (length ls + k) (omega (arith, l, length-append ls ms))) in
          ap (λ n. bit_or n w) left ∙ right;
      one = λ k l high only. elim (cases_lt k (length ls)) [
        | inl m ↦ one_left k m (sym (left_line k m) ∙ high) only
        | inr m ↦
            (let at : k ≡ length ls + (k - length ls) = omega (arith, m) in
            let rest : k - length ls < length ms = omega (arith, l, m, length-append ls ms) in
            one_right (k - length ls) rest (sym (right_line (k - length ls) rest) ∙ ap (λ i. line_of run (ls ++ ms) i t) (sym at) ∙ high)
            (λ j n e. only j n e ∙ at)
            ∙ ap (λ i. held_of run (bs ++ cs) i t) (sym at))
      ];
    }

pub picks_both : (n0 n1 n2 n3 : Net) (ls ms : List Bit) (bs cs : List Bus) (width : ℕ) (one other r : Bus) → length bs ≡ length ls → length cs ≡ length ms → 1 ≤ length ls → 1 ≤ length ms
    → PicksOne n0 n1 ls bs width (length ls * 2 - 1) one → PicksOne n1 n2 ms cs width (length ms * 2 - 1) other → Merges n2 n3 one other r
    → PicksOne n0 n3 (ls ++ ms) (bs ++ cs) width (length (ls ++ ms) * 2 - 1) r
picks_both n0 n1 n2 n3 ls ms bs cs width one other r same_left same_right some_left some_right a b g = record {
  keeps = keeps_then n0 n1 n3 a.keeps (keeps_then n1 n2 n3 b.keeps g.keeps);
  bus = g.bus;
  same_width = g.same_width ∙ a.same_width;
  cost = record {
    nodes = omega (arith, a.cost.nodes, b.cost.nodes, g.cost.nodes, length-append ls ms, some_left, some_right);
    registers = omega (arith, a.cost.registers, b.cost.registers, g.cost.registers);
    memories = omega (arith, a.cost.memories, b.cost.memories, g.cost.memories);
  };
  law = λ run r3 t.
      let r2 = g.keeps.runs run r3 in
      subst (IsPicked run (ls ++ ms) (bs ++ cs) t) (sym (g.value run r3 t))
      (picked_both run ls ms bs cs t same_left same_right (held_at 0 run one t) (held_at 0 run other t) (a.law run (b.keeps.runs run r2) t) (b.law run r2 t));
}

pub first_wide : (net : Net) (width : ℕ) (bs : List Bus) → AreAlike net width bs → 0 < length bs → IsWidth width
first_wide net width bs h some = let x = get_there bs 0 some in subst IsWidth (h.widths 0 x.0 x.1) (h.each 0 x.0 x.1).width

-- with the bus of 0
pub picks_all : (old mid new : Net) (lines : List Bit) (buses : List Bus) (width : ℕ) (z b : Bus) → 1 ≤ length lines → IsNumber old mid 0 width z
    → PicksOne mid new lines buses z.width (length lines * 2 - 1) b → PicksOne old new lines buses width (length lines * 2) b
picks_all old mid new lines buses width z b some h p = record {
  keeps = keeps_then old mid new h.keeps p.keeps;
  bus = p.bus;
  same_width = p.same_width ∙ h.same_width;
  cost = record {
    nodes = omega (arith, h.cost.nodes, p.cost.nodes, some);
    registers = omega (arith, h.cost.registers, p.cost.registers);
    memories = omega (arith, h.cost.memories, p.cost.memories);
  };
  law = p.law;
}

-- lines and buses are cut at one place
pub cut_both : (ls first second : List Bit) (bs left right : List Bus) → length bs ≡ length ls → 2 ≤ length ls → first ≡ take (length ls / 2) ls → second ≡ drop (length ls / 2) ls
    → left ≡ take (length ls / 2) bs → right ≡ drop (length ls / 2) bs → AreHalves ls first second × AreHalves bs left right × (length left ≡ length first) × (length right ≡ length second)
cut_both ls first second bs left right many some front back front_bus back_bus =
    let cut = halves ls first second some front back in
    let cut_bus = halves bs left right (omega (arith, some, many)) (front_bus ∙ ap (λ n. take (n / 2) bs) (sym many)) (back_bus ∙ ap (λ n. drop (n / 2) bs) (sym many)) in
    let one : length first ≡ length ls / 2 = ap length front ∙ length_taken ls (length ls / 2) (omega (arith, some)) in
    let two : length left ≡ length ls / 2 = ap length front_bus ∙ length_taken bs (length ls / 2) (omega (arith, some, many)) in
    let all : length first + length second ≡ length ls = sym (length-append first second) ∙ ap length cut.whole in
    let all_bus : length left + length right ≡ length bs = sym (length-append left right) ∙ ap length cut_bus.whole in
    (cut, cut_bus, two ∙ sym one, omega (arith, one, two, all, all_bus, many))

-- ---- the bits of a number

-- one bit more has room for one number more
pub room_for_mark : (slots width : ℕ) → slots ≤ 2 ^ width → slots < 2 ^ (width + 1)
room_for_mark slots width h = let l = pow-lt {i = width} {j = width + 1} (omega arith) in omega (arith, l, h)

-- ---- numbers

pub numbers_none : (net : Net) (of : ℕ → ℕ) (width : ℕ) → AddsNumbers net net of 0 width []
numbers_none net of width = record {
  keeps = same_keeps net;
  count = refl;
  alike = record { each = λ k b h. absurd (cc); widths = λ k b h. absurd (cc) };
  cost = record { nodes = omega arith; registers = omega arith; memories = omega arith };
  value = λ run r k t l. absurd (omega (arith, l));
}

pub numbers_more : (old mid new : Net) (of : ℕ → ℕ) (n width : ℕ) (bs : List Bus) (b : Bus) → AddsNumbers old mid of n width bs → IsNumber mid new (of n) width b → AddsNumbers old new of (n + 1) width (bs ++ b ∷ [])
numbers_more old mid new of n width bs b h one = record {
  keeps = keeps_then old mid new h.keeps one.keeps;
  count = length-append bs (b ∷ []) ∙ ap (λ i. i + 1) h.count;
  alike = record {
    each = λ k x e. elim (get_push_cases bs b k x e) [ inl q ↦ bus_kept mid new x one.keeps (h.alike.each k x q) | inr q ↦ subst (IsBus new) q.1 one.bus ];
    widths = λ k x e. elim (get_push_cases bs b k x e) [ inl q ↦ h.alike.widths k x q | inr q ↦ ap (λ (y : Bus). y.width) (sym q.1) ∙ one.same_width ];
  };
  cost = record { nodes = omega (arith, one.cost.nodes, h.cost.nodes); registers = omega (arith, one.cost.registers, h.cost.registers); memories = omega (arith, one.cost.memories, h.cost.memories) };
  value = λ run r k t l. elim (cases_lt k n) [
    | inl m ↦ held_of-old run bs b k (suc t) (omega (arith, m, h.count)) ∙ h.value run (one.keeps.runs run r) k t m
    | inr m ↦ (let e : k ≡ n = omega (arith, l, m) in ap (λ i. held_of run (bs ++ b ∷ []) i (suc t)) (e ∙ sym h.count) ∙ held_of-new run bs b (suc t) ∙ one.value run r t ∙ sym (ap of e))
  ];
}
