-- Slots of which so many are kept: which one is next, and what the slots have a cycle later.
use Rattle.std.proofs.Common.{◌≡◌, ℕ, zero, suc, ◌+◌, ◌-◌, ◌<◌, ◌≤◌, Bool, true, false, refl, sym, ap, ◌∙◌, subst, arith, inl, inr, eqb-true, eq-eqb}
use Rattle.std.specs.Prelude.{not, ◌&&◌, ◌||◌, if◌then◌else◌, nat_eq, nat_lt}
use Rattle.std.proofs.lemmas.Bool.{cases_lt, le-ltb, lt-ltb, ltb-true, ltb-false}
use Rattle.gl_bits.proofs.Bools.{and_both, and_left, and_parts, and_right, by_cases, else_false, not_both, not_false, not_true, or_cases, or_left, or_none, or_right, same_when}
use Rattle.gl_wire_registers.specs.Lines.{any_to}
use Rattle.gl_slots.specs.Seeking.{Sought, asked, found, has, is_new, is_next, kept, matches, takes}
use Rattle.gl_slots.proofs.OneLemmas.{any_here, any_there}
use Rattle.gl_slots.proofs.HomeLemmas.{InOrder, comes_from, found_here, found_kept, found_key, key_kept, key_taken}

-- ---- one of n

pub any_either : (n : ℕ) (f g : ℕ → Bool) → (any_to n f || any_to n g) ≡ any_to n (λ k. f k || g k)
any_either n f g = same_when (any_to n f || any_to n g) (any_to n (λ k. f k || g k))
    (λ h. elim (or_cases (any_to n f) (any_to n g) h) [
      | inl a ↦ (let p = any_there n f a in any_here n (λ k. f k || g k) p.0 p.1 (or_left (f p.0) (g p.0) p.2))
      | inr a ↦ (let p = any_there n g a in any_here n (λ k. f k || g k) p.0 p.1 (or_right (f p.0) (g p.0) p.2))
    ])
    (λ h.
    let p = any_there n (λ k. f k || g k) h in
    elim (or_cases (f p.0) (g p.0) p.2) [
      | inl a ↦ or_left (any_to n f) (any_to n g) (any_here n f p.0 p.1 a)
      | inr a ↦ or_right (any_to n f) (any_to n g) (any_here n g p.0 p.1 a)
    ])

pub any_both : (n : ℕ) (f : ℕ → Bool) (b : Bool) → (any_to n f && b) ≡ any_to n (λ k. f k && b)
any_both zero f b = refl
any_both (suc n) f b = by (any_to n f) (f n) b ∙ ap (λ c. c || (f n && b)) (any_both n f b)
  where
    by : (x y b : Bool) → ((x || y) && b) ≡ ((x && b) || (y && b))
    by true true true = refl
    by true true false = refl
    by true false true = refl
    by true false false = refl
    by false y b = refl

pub any_nowhere : (n : ℕ) (f : ℕ → Bool) → ((k : ℕ) → k < n → f k ≡ true → ⊥) → any_to n f ≡ false
any_nowhere n f none = else_false (any_to n f) (λ h. let p = any_there n f h in none p.0 p.1 p.2)

nowhere : (n : ℕ) (f : ℕ → Bool) → any_to n f ≡ false → (k : ℕ) → k < n → f k ≡ false
nowhere n f none k l = else_false (f k) (λ h. not_both (any_to n f) (any_here n f k l h) none)

-- ---- one cycle

-- whether a slot is used and has the key, also where it is set free
abbrev pub holds : Sought → ℕ → Bool
holds s k = s.used k && nat_eq s.value (s.key k)

pub found_holds : (s : Sought) (k : ℕ) → (holds s k && not s.free) ≡ found s k
found_holds s k = by (s.used k) (nat_eq s.value (s.key k)) (not s.free)
  where
    by : (a b c : Bool) → ((a && b) && c) ≡ ((a && c) && b)
    by true true true = refl
    by true true false = refl
    by true false true = refl
    by true false false = refl
    by false b c = refl

pub takes_new : (n : ℕ) (s : Sought) (k : ℕ) → takes n s k ≡ true → is_new n s ≡ true
takes_new n s zero h = and_left (is_new n s) (not (kept s 0)) h
takes_new n s (suc k) h = and_left (is_new n s) (kept s k) (and_left (asked n s (suc k)) (not (kept s (suc k))) h)

-- as many are kept
module _ (n : ℕ) (s : Sought) (many : ℕ) (few : many ≤ n) (counted : (k : ℕ) → k < n → kept s k ≡ nat_lt k many) where
  kept_there : (k : ℕ) → k < many → kept s k ≡ true
  kept_there k l = counted k (omega (arith, l, few)) ∙ lt-ltb k many l

  kept_low : (k : ℕ) → k < n → kept s k ≡ true → k < many
  kept_low k l h = ltb-true k many (sym (counted k l) ∙ h)

  free_high : (k : ℕ) → k < n → kept s k ≡ false → many ≤ k
  free_high k l h = ltb-false k many (sym (counted k l) ∙ h)

  -- the slot that takes a key is the first one behind them
  pub takes_at : (k : ℕ) → k < n → takes n s k ≡ true → many ≡ k
  takes_at zero l h =
      let low = free_high 0 l (not_true (kept s 0) (and_right (asked n s 0) (not (kept s 0)) h)) in
      omega (arith, low)
  takes_at (suc k) l h =
      let p = and_parts (asked n s (suc k)) (not (kept s (suc k))) h in
      let low = free_high (suc k) l (not_true (kept s (suc k)) p.1) in
      let high = kept_low k (omega (arith, l)) (and_right (is_new n s) (kept s k) p.0) in
      omega (arith, low, high)

  pub takes_room : any_to n (takes n s) ≡ true → many < n
  takes_room e =
      let p = any_there n (takes n s) e in
      let at = takes_at p.0 p.1 p.2 in
      omega (arith, at, p.1)

  takes_there : (k : ℕ) → k < n → many ≡ k → is_new n s ≡ true → takes n s k ≡ true
  takes_there k l e new = and_both (asked n s k) (not (kept s k)) (asks k e) (not_false (kept s k) (counted k l ∙ le-ltb k many (omega (arith, e))))
    where
      asks : (k : ℕ) → many ≡ k → asked n s k ≡ true
      asks zero e = new
      asks (suc k) e = and_both (is_new n s) (kept s k) new (kept_there k (omega (arith, e)))

  -- one takes the key exactly where it is new and the last one is free
  pub takes_any : 1 ≤ n → ((s.ask && not (kept s (n - 1))) && not (any_to n (found s))) ≡ any_to n (takes n s)
  takes_any some = same_when ((s.ask && not (kept s (n - 1))) && not (any_to n (found s))) (any_to n (takes n s))
      (λ h.
      let p = and_parts (s.ask && not (kept s (n - 1))) (not (any_to n (found s))) h in
      let q = and_parts s.ask (not (kept s (n - 1))) p.0 in
      let low = free_high (n - 1) (omega (arith, some)) (not_true (kept s (n - 1)) q.1) in
      let room : many < n = omega (arith, low, some) in
      any_here n (takes n s) many room (takes_there many room refl (and_both s.ask (not (any_to n (found s))) q.0 p.1)))
      (λ h.
      let p = any_there n (takes n s) h in
      let q = and_parts s.ask (not (any_to n (found s))) (takes_new n s p.0 p.2) in
      let room = takes_room h in
      let free : kept s (n - 1) ≡ false = counted (n - 1) (omega (arith, some)) ∙ le-ltb (n - 1) many (omega (arith, room)) in
      and_both (s.ask && not (kept s (n - 1))) (not (any_to n (found s))) (and_both s.ask (not (kept s (n - 1))) q.0 (not_false (kept s (n - 1)) free)) q.1)

  -- so many are used a cycle later
  abbrev then_many : ℕ
  then_many = if any_to n (takes n s) then many + 1 else many

  pub then_few : then_many ≤ n
  then_few = by_cases (any_to n (takes n s))
      (λ e. let room = takes_room e in subst (λ (b : Bool). (if b then many + 1 else many) ≤ n) (sym e) (omega (arith, room)))
      (λ e. subst (λ (b : Bool). (if b then many + 1 else many) ≤ n) (sym e) few)

  pub then_counted : (k : ℕ) → k < n → has n s k ≡ nat_lt k then_many
  then_counted k l = by_cases (any_to n (takes n s))
      (λ e. with_one (any_there n (takes n s) e) ∙ ap (λ (b : Bool). nat_lt k (if b then many + 1 else many)) (sym e))
      (λ e.
      ap (λ b. kept s k || b) (nowhere n (takes n s) e k l) ∙ or_none (kept s k) ∙ counted k l
      ∙ ap (λ (b : Bool). nat_lt k (if b then many + 1 else many)) (sym e))
    where
      with_one : ((j : ℕ) × (j < n) × (takes n s j ≡ true)) → has n s k ≡ nat_lt k (many + 1)
      with_one p = same_when (has n s k) (nat_lt k (many + 1))
          (λ h. lt-ltb k (many + 1) (elim (or_cases (kept s k) (takes n s k) h) [
            | inl a ↦ (let low = kept_low k l a in omega (arith, low))
            | inr a ↦ (let at = takes_at k l a in omega (arith, at))
          ]))
          (λ h. elim (cases_lt k many) [
            | inl a ↦ or_left (kept s k) (takes n s k) (kept_there k a)
            | inr a ↦ (let low = ltb-true k (many + 1) h in or_right (kept s k) (takes n s k) (takes_there k l (omega (arith, a, low)) (takes_new n s p.0 p.2)))
          ])

-- ---- a cycle later

module _ (n : ℕ) (s : Sought) (order : InOrder n s) (q : Sought) (used : (k : ℕ) → k < n → q.used k ≡ has n s k) (keys : (k : ℕ) → k < n → q.key k ≡ (if is_next s k then s.value else s.key k)) where
  -- where the key is another one, a slot has it that is kept and had it then
  pub holds_moved : (here : ℕ) → q.value ≡ here → (here ≡ s.value → ⊥) → (k : ℕ) → k < n → (kept s k && nat_eq here (s.key k)) ≡ holds q k
  holds_moved here is other k l = same_when (kept s k && nat_eq here (s.key k)) (holds q k)
      (λ h.
      let p = and_parts (kept s k) (nat_eq here (s.key k)) h in
      and_both (q.used k) (nat_eq q.value (q.key k)) (used k l ∙ or_left (kept s k) (takes n s k) p.0)
      (eq-eqb q.value (q.key k) (is ∙ eqb-true here (s.key k) p.1 ∙ sym (key_kept n s order q used keys k l p.0))))
      (λ h.
      let p = and_parts (q.used k) (nat_eq q.value (q.key k)) h in
      let e = eqb-true q.value (q.key k) p.1 in
      elim (or_cases (kept s k) (takes n s k) (comes_from n s order q used keys k l p.0)) [
        | inl a ↦ and_both (kept s k) (nat_eq here (s.key k)) a (eq-eqb here (s.key k) (sym is ∙ e ∙ key_kept n s order q used keys k l a))
        | inr a ↦ absurd (other (sym is ∙ e ∙ key_taken n s order q used keys k l a))
      ])

  -- where it is the same one, a slot has it that had it then or took it
  pub holds_same : (k : ℕ) → k < n → (q.used k ≡ true → q.value ≡ s.value) → matches n s k ≡ holds q k
  holds_same k l same = same_when (matches n s k) (holds q k)
      (λ h. elim (or_cases (found s k) (takes n s k) h) [
        | inl a ↦
            (let there : q.used k ≡ true = used k l ∙ or_left (kept s k) (takes n s k) (found_kept n s order k a) in
            and_both (q.used k) (nat_eq q.value (q.key k)) there
            (eq-eqb q.value (q.key k) (same there ∙ found_key n s order k a ∙ sym (key_kept n s order q used keys k l (found_kept n s order k a)))))
        | inr a ↦
            (let there : q.used k ≡ true = used k l ∙ or_right (kept s k) (takes n s k) a in
            and_both (q.used k) (nat_eq q.value (q.key k)) there (eq-eqb q.value (q.key k) (same there ∙ sym (key_taken n s order q used keys k l a))))
      ])
      (λ h.
      let p = and_parts (q.used k) (nat_eq q.value (q.key k)) h in
      let e = sym (same p.0) ∙ eqb-true q.value (q.key k) p.1 in
      elim (or_cases (kept s k) (takes n s k) (comes_from n s order q used keys k l p.0)) [
        | inl a ↦ or_left (found s k) (takes n s k) (found_here n s order k a (e ∙ key_kept n s order q used keys k l a))
        | inr a ↦ or_right (found s k) (takes n s k) a
      ])
