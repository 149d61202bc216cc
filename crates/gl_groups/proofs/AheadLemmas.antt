-- Slots that are found one cycle later are found as if they were looked at when the row comes.
use Rattle.std.proofs.Common.{◌≡◌, ℕ, zero, suc, ◌+◌, ◌-◌, ◌<◌, ◌≤◌, Bool, true, false, sym, ap, ◌∙◌, subst, arith, inl, inr, eqb-true, eq-eqb}
use Rattle.std.specs.Prelude.{not, ◌&&◌, ◌||◌, if◌then◌else◌, nat_eq, nat_lt}
use Rattle.std.proofs.Math.Bool.{and-true, and-false}
use Rattle.std.proofs.lemmas.Bool.{le-ltb}
use Rattle.gl_bits.proofs.Bools.{and_both, and_left, and_parts, and_right, and_so, by_cases, not_both, not_true, or_cases, same_when}
use Rattle.gl_wire_registers.specs.Lines.{any_to}
use Rattle.gl_wire_registers.proofs.LineLemmas.{any_same}
use Rattle.gl_groups.specs.Ahead.{Ahead, Finds, GoesOn, many_kept, sought_in}
use Rattle.gl_slots.specs.Seeking.{Sought, found, has, is_next, kept, matches, takes}
use Rattle.gl_slots.proofs.OneLemmas.{any_here, any_there}
use Rattle.gl_slots.proofs.SeekLemmas.{takes_last}
use Rattle.gl_slots.proofs.HomeLemmas.{InOrder, found_kept, order_next}
use Rattle.gl_groups.proofs.AheadSteps.{any_either, any_both, any_nowhere, found_holds, holds, holds_moved, holds_same, takes_any, takes_at, takes_new, takes_room, then_counted, then_few}

-- what is so in a cycle: which slot has the key, whether it is set free or not, is known
pub record IsKnown (n : ℕ) (a : Ahead) (t : ℕ) : Type 0 where
  pub order : InOrder n (sought_in a t)
  pub counted : (k : ℕ) → k < n → a.used k t ≡ nat_lt k (a.many t)
  pub few : a.many t ≤ n
  pub hit : a.moved t ≡ true → (k : ℕ) → k < n → a.hit k t ≡ holds (sought_in a t) k
  pub had : a.moved t ≡ false → a.had t ≡ any_to n (holds (sought_in a t))
  pub home : a.moved t ≡ false → (k : ℕ) → k < n → holds (sought_in a t) k ≡ true → a.home t ≡ k

module _ (n : ℕ) (a : Ahead) (some : 1 ≤ n) (g : GoesOn n a) where
  abbrev s : ℕ → Sought
  s t = sought_in a t

  -- ---- in such a cycle

  module _ (t : ℕ) (is : IsKnown n a t) where
    kept_counted : (k : ℕ) → k < n → kept (s t) k ≡ nat_lt k (many_kept a t)
    kept_counted k l = by (a.free t) (a.used k t) (is.counted k l)
      where
        by : (f u : Bool) → u ≡ nat_lt k (a.many t) → (u && not f) ≡ nat_lt k (if f then 0 else a.many t)
        by true u e = and-false u ∙ sym (le-ltb k 0 (omega arith))
        by false u e = and-true u ∙ e

    kept_few : many_kept a t ≤ n
    kept_few = by (a.free t)
      where
        by : (f : Bool) → (if f then 0 else a.many t) ≤ n
        by true = omega arith
        by false = is.few

    holds_only : (j k : ℕ) → j < n → k < n → holds (s t) j ≡ true → holds (s t) k ≡ true → j ≡ k
    holds_only j k l m p q =
        let x = and_parts (a.used j t) (nat_eq (a.value t) (a.key j t)) p in
        let y = and_parts (a.used k t) (nat_eq (a.value t) (a.key k t)) q in
        is.order.apart j k l m x.0 y.0 (sym (eqb-true (a.value t) (a.key j t) x.1) ∙ eqb-true (a.value t) (a.key k t) y.1)

    one_holds : (if a.moved t then any_to n (λ k. a.hit k t) else a.had t) ≡ any_to n (holds (s t))
    one_holds = by_cases (a.moved t)
        (λ e. ap (λ (b : Bool). if b then any_to n (λ k. a.hit k t) else a.had t) e ∙ any_same n (λ k. a.hit k t) (holds (s t)) (is.hit e))
        (λ e. ap (λ (b : Bool). if b then any_to n (λ k. a.hit k t) else a.had t) e ∙ is.had e)

    one_is : a.one t ≡ any_to n (found (s t))
    one_is =
        g.one t ∙ ap (λ b. b && not (a.free t)) one_holds ∙ any_both n (holds (s t)) (not (a.free t))
        ∙ any_same n (λ k. holds (s t) k && not (a.free t)) (found (s t)) (λ k l. found_holds (s t) k)

    new_is : a.new t ≡ any_to n (takes n (s t))
    new_is =
        g.new t ∙ ap (λ b. (a.ask t && not (kept (s t) (n - 1))) && not b) one_is
        ∙ takes_any n (s t) (many_kept a t) kept_few kept_counted some

    used_next : (k : ℕ) → k < n → a.used k (suc t) ≡ has n (s t) k
    used_next k l =
        g.used k t l ∙ ap (λ b. kept (s t) k || (is_next (s t) k && not b)) one_is ∙ ap (λ b. kept (s t) k || b) (sym (takes_last n (s t) k))

    many_next : a.many (suc t) ≡ (if any_to n (takes n (s t)) then many_kept a t + 1 else many_kept a t)
    many_next = g.many t (λ e. takes_room n (s t) (many_kept a t) kept_few kept_counted (sym new_is ∙ e)) ∙ ap (λ (b : Bool). if b then many_kept a t + 1 else many_kept a t) new_is

    -- the one that has the key
    place : (k : ℕ) → k < n → holds (s t) k ≡ true → (if a.moved t then a.met t else a.home t) ≡ k
    place k l h = by_cases (a.moved t)
        (λ e. ap (λ (b : Bool). if b then a.met t else a.home t) e
        ∙ g.met k t l (is.hit e k l ∙ h) (λ j m f. holds_only j k m l (sym (is.hit e j m) ∙ f) h))
        (λ e. ap (λ (b : Bool). if b then a.met t else a.home t) e ∙ is.home e k l h)

    home_tells : (k : ℕ) → k < n → a.moved t ≡ false → (a.had t && nat_eq (a.home t) k) ≡ holds (s t) k
    home_tells k l e = same_when (a.had t && nat_eq (a.home t) k) (holds (s t) k)
        (λ h.
        let p = and_parts (a.had t) (nat_eq (a.home t) k) h in
        let j = any_there n (holds (s t)) (sym (is.had e) ∙ p.0) in
        subst (λ i. holds (s t) i ≡ true) (sym (is.home e j.0 j.1 j.2) ∙ eqb-true (a.home t) k p.1) j.2)
        (λ h. and_both (a.had t) (nat_eq (a.home t) k) (is.had e ∙ any_here n (holds (s t)) k l h) (eq-eqb (a.home t) k (is.home e k l h)))

    -- where nothing is set free, what has the key is found
    holds_found : (k : ℕ) → a.free t ≡ false → holds (s t) k ≡ found (s t) k
    holds_found k e = sym (and-true (holds (s t) k)) ∙ ap (λ f. holds (s t) k && not f) (sym e) ∙ found_holds (s t) k

    head_is : kept (s t) 0 ≡ true → (if a.moved t then a.hit 0 t else (a.had t && nat_eq (a.home t) 0)) ≡ found (s t) 0
    head_is h = by_cases (a.moved t)
        (λ e. ap (λ (b : Bool). if b then a.hit 0 t else (a.had t && nat_eq (a.home t) 0)) e ∙ is.hit e 0 some)
        (λ e. ap (λ (b : Bool). if b then a.hit 0 t else (a.had t && nat_eq (a.home t) 0)) e ∙ home_tells 0 some e)
        ∙ holds_found 0 (not_true (a.free t) (and_right (a.used 0 t) (not (a.free t)) h))

  -- ---- the number

  number_is : (t : ℕ) → IsKnown n a t → (k : ℕ) → k < n → matches n (s t) k ≡ true → a.number t ≡ k
  number_is zero is k l h = elim (or_cases (found (s 0) k) (takes n (s 0) k) h) [
    | inl p ↦ absurd (not_both (a.used k 0) (and_left (a.used k 0) (not (a.free 0)) (found_kept n (s 0) is.order k p)) (g.first_used k))
    | inr p ↦ absurd (not_both (a.ask 0) (and_left (a.ask 0) (not (any_to n (found (s 0)))) (takes_new n (s 0) k p)) g.first_ask)
  ]
  number_is (suc t) is k l h =
      g.number t ∙ elim (or_cases (found (s (suc t)) k) (takes n (s (suc t)) k) h) [
        | inl p ↦
            (let one = one_is (suc t) is ∙ any_here n (found (s (suc t))) k l p in
            ap (λ (b : Bool). if b then (if a.moved (suc t) then a.met (suc t) else a.home (suc t)) else many_kept a (suc t)) one
            ∙ place (suc t) is k l (and_left (holds (s (suc t)) k) (not (a.free (suc t))) (found_holds (s (suc t)) k ∙ p)))
        | inr p ↦
            (let q = and_right (a.ask (suc t)) (not (any_to n (found (s (suc t))))) (takes_new n (s (suc t)) k p) in
            let none = one_is (suc t) is ∙ not_true (any_to n (found (s (suc t)))) q in
            ap (λ (b : Bool). if b then (if a.moved (suc t) then a.met (suc t) else a.home (suc t)) else many_kept a (suc t)) none
            ∙ takes_at n (s (suc t)) (many_kept a (suc t)) (kept_few (suc t) is) (kept_counted (suc t) is) k l p)
      ]

  -- ---- a cycle later

  -- up to the cycle behind the first one no slot is used
  not_kept_first : (k : ℕ) → kept (s 0) k ≡ false
  not_kept_first k = ap (λ b. b && not (a.free 0)) (g.first_used k)

  hit_next : (t k : ℕ) → k < n → a.hit k (suc t) ≡ (kept (s t) k && nat_eq (a.here t) (a.key k t))
  hit_next zero k l = g.first_hit k l ∙ sym (ap (λ b. b && nat_eq (a.here 0) (a.key k 0)) (not_kept_first k))
  hit_next (suc t) k l = g.hit k t l

  not_used_second : IsKnown n a 0 → (k : ℕ) → k < n → a.used k 1 ≡ true → ⊥
  not_used_second is k l h = elim (or_cases (kept (s 0) k) (takes n (s 0) k) (sym (used_next 0 is k l) ∙ h)) [
    | inl p ↦ not_both (kept (s 0) k) p (not_kept_first k)
    | inr p ↦ not_both (a.ask 0) (and_left (a.ask 0) (not (any_to n (found (s 0)))) (takes_new n (s 0) k p)) g.first_ask
  ]

  -- the key that is looked for stays where it is not another one
  value_stays : (t : ℕ) → IsKnown n a t → a.moved (suc t) ≡ false → (k : ℕ) → k < n → a.used k (suc t) ≡ true → a.value (suc t) ≡ a.value t
  value_stays t is e k l h = by_cases (a.ask (suc t))
      (λ asks. g.comes t asks ∙ eqb-true (a.here t) (a.value t) (and_so (a.ask (suc t)) (nat_eq (a.here t) (a.value t)) (sym (g.moved t) ∙ e) asks))
      (λ rests. by t is rests h)
    where
      by : (t : ℕ) → IsKnown n a t → a.ask (suc t) ≡ false → a.used k (suc t) ≡ true → a.value (suc t) ≡ a.value t
      by zero is rests h = absurd (not_used_second is k l h)
      by (suc t) is rests h = g.stays t rests

  home_next : (t : ℕ) → IsKnown n a t → (k : ℕ) → k < n → a.used k (suc t) ≡ true → a.home (suc t) ≡ a.number t
  home_next zero is k l h = absurd (not_used_second is k l h)
  home_next (suc t) is k l h = g.home t

  module _ (t : ℕ) (is : IsKnown n a t) where
    matches_next : a.moved (suc t) ≡ false → (k : ℕ) → k < n → matches n (s t) k ≡ holds (s (suc t)) k
    matches_next e k l = holds_same n (s t) is.order (s (suc t)) (used_next t is) (λ j m. g.key j t m) k l (value_stays t is e k l)

    hit_then : a.moved (suc t) ≡ true → (k : ℕ) → k < n → a.hit k (suc t) ≡ holds (s (suc t)) k
    hit_then e k l =
        let p = and_parts (a.ask (suc t)) (not (nat_eq (a.here t) (a.value t))) (sym (g.moved t) ∙ e) in
        hit_next t k l
        ∙ holds_moved n (s t) is.order (s (suc t)) (used_next t is) (λ j m. g.key j t m) (a.here t) (g.comes t p.0)
        (λ f. not_both (nat_eq (a.here t) (a.value t)) (eq-eqb (a.here t) (a.value t) f) (not_true (nat_eq (a.here t) (a.value t)) p.1)) k l

    had_then : a.moved (suc t) ≡ false → a.had (suc t) ≡ any_to n (holds (s (suc t)))
    had_then e =
        g.had t ∙ ap (λ b. b || a.new t) (one_is t is) ∙ ap (λ b. any_to n (found (s t)) || b) (new_is t is)
        ∙ any_either n (found (s t)) (takes n (s t)) ∙ any_same n (matches n (s t)) (holds (s (suc t))) (matches_next e)

    home_then : a.moved (suc t) ≡ false → (k : ℕ) → k < n → holds (s (suc t)) k ≡ true → a.home (suc t) ≡ k
    home_then e k l h =
        home_next t is k l (and_left (a.used k (suc t)) (nat_eq (a.value (suc t)) (a.key k (suc t))) h) ∙ number_is t is k l (matches_next e k l ∙ h)

    known_next : IsKnown n a (suc t)
    known_next = record {
      order = order_next n (s t) is.order (s (suc t)) (used_next t is) (λ k l. g.key k t l);
      counted = λ k l. used_next t is k l ∙ then_counted n (s t) (many_kept a t) (kept_few t is) (kept_counted t is) k l ∙ ap (nat_lt k) (sym (many_next t is));
      few = subst (λ m. m ≤ n) (sym (many_next t is)) (then_few n (s t) (many_kept a t) (kept_few t is) (kept_counted t is));
      hit = hit_then;
      had = had_then;
      home = home_then;
    }

  not_first : (k : ℕ) → a.used k 0 ≡ true → ⊥
  not_first k h = not_both (a.used k 0) h (g.first_used k)

  not_held_first : (k : ℕ) → holds (s 0) k ≡ true → ⊥
  not_held_first k h = not_first k (and_left (a.used k 0) (nat_eq (a.value 0) (a.key k 0)) h)

  known_first : IsKnown n a 0
  known_first = record {
    order = record {
      before = λ k l h. absurd (not_first (suc k) h);
      apart = λ j k l m h. absurd (not_first j h);
    };
    counted = λ k l. g.first_used k ∙ sym (le-ltb k 0 (omega arith)) ∙ ap (nat_lt k) (sym g.first_many);
    few = omega (arith, g.first_many);
    hit = λ e. absurd (not_both (a.moved 0) e g.first_moved);
    had = λ e. g.first_had ∙ sym (any_nowhere n (holds (s 0)) (λ k l h. not_held_first k h));
    home = λ e k l h. absurd (not_held_first k h);
  }

  known : (t : ℕ) → IsKnown n a t
  known zero = known_first
  known (suc t) = known_next t (known t)

  not_moved : (t : ℕ) → a.ask t ≡ false → a.moved t ≡ false
  not_moved zero e = g.first_moved
  not_moved (suc t) e = g.moved t ∙ ap (λ b. b && not (nat_eq (a.here t) (a.value t))) e

  finds : Finds n a
  finds = record {
    used = λ k t l. used_next t (known t) k l;
    one = λ t. one_is t (known t);
    new = λ t. new_is t (known t);
    number = λ k t. number_is t (known t) k;
    many = λ k t. (known t).counted k;
    few = λ t. (known t).few;
    home = λ k t l rests keeps. home_tells t (known t) k l (not_moved t rests) ∙ holds_found t (known t) k keeps;
    head = λ t some h. head_is t (known t) h;
  }

pub ahead_finds : (n : ℕ) (a : Ahead) → 1 ≤ n → GoesOn n a → Finds n a
ahead_finds n a some g = finds n a some g
