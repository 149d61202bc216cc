-- Slots fill in order and their keys differ, so one mark tells which of them has the key of the row that came last.
use Rattle.std.proofs.Common.{◌≡◌, ℕ, zero, suc, ◌<◌, ◌≤◌, Bool, true, false, sym, ap, ◌∙◌, subst, arith, inl, inr, eqb-true, eq-eqb}
use Rattle.std.specs.Prelude.{not, ◌||◌, if◌then◌else◌, nat_eq}
use Rattle.std.proofs.lemmas.Bool.{cases_lt}
use Rattle.gl_bits.proofs.Bools.{and_both, and_left, and_parts, and_right, by_cases, else_false, not_both, not_true, or_cases, or_left, same_test}
use Rattle.gl_wire_registers.specs.Lines.{any_to}
use Rattle.gl_slots.specs.Homes.{IsMark}
use Rattle.gl_slots.specs.Seeking.{Sought, asks, found, has, is_next, kept, takes}
use Rattle.gl_slots.proofs.OneLemmas.{any_here, any_there}
use Rattle.gl_slots.proofs.SeekLemmas.{takes_last}

-- of n slots the used ones come first, and their keys differ
pub record InOrder (n : ℕ) (s : Sought) : Type 0 where
  pub before : (k : ℕ) → suc k < n → s.used (suc k) ≡ true → s.used k ≡ true
  pub apart : (j k : ℕ) → j < n → k < n → s.used j ≡ true → s.used k ≡ true → s.key j ≡ s.key k → j ≡ k

-- the mark tells which one has this key
abbrev pub Marks : ℕ → Sought → ℕ → ℕ → Type 0
Marks n s last mark = (k : ℕ) → k < n → s.used k ≡ true → nat_eq mark (suc k) ≡ nat_eq last (s.key k)

module _ (n : ℕ) (s : Sought) (order : InOrder n s) where
  is_used : (k : ℕ) → kept s k ≡ true → s.used k ≡ true
  is_used k h = and_left (s.used k) (not s.free) h

  kept_before : (k : ℕ) → suc k < n → kept s (suc k) ≡ true → kept s k ≡ true
  kept_before k l h = and_both (s.used k) (not s.free) (order.before k l (is_used (suc k) h)) (and_right (s.used (suc k)) (not s.free) h)

  kept_below : (j k : ℕ) → j ≤ k → k < n → kept s k ≡ true → kept s j ≡ true
  kept_below j zero l m h = let e : 0 ≡ j = omega (arith, l) in subst (λ i. kept s i ≡ true) e h
  kept_below j (suc k) l m h = elim (cases_lt j (suc k)) [
    | inl q ↦ kept_below j k (omega (arith, q)) (omega (arith, m)) (kept_before k m h)
    | inr q ↦ (let e : suc k ≡ j = omega (arith, l, q) in subst (λ i. kept s i ≡ true) e h)
  ]

  -- all slots before the next one are used, and it is not
  next_free : (k : ℕ) → is_next s k ≡ true → kept s k ≡ false
  next_free k h = not_true (kept s k) (and_right (asks s k) (not (kept s k)) h)

  next_behind : (j k : ℕ) → j < k → k < n → is_next s k ≡ true → kept s j ≡ true
  next_behind j zero l m h = absurd (omega (arith, l))
  next_behind j (suc k) l m h = kept_below j k (omega (arith, l)) (omega (arith, m)) (and_right s.ask (kept s k) (and_left (asks s (suc k)) (not (kept s (suc k))) h))

  next_only : (j k : ℕ) → j < n → k < n → is_next s j ≡ true → is_next s k ≡ true → j ≡ k
  next_only j k l m p q = elim (cases_lt j k) [
    | inl a ↦ absurd (not_both (kept s j) (next_behind j k a m q) (next_free j p))
    | inr a ↦ elim (cases_lt k j) [
      | inl b ↦ absurd (not_both (kept s k) (next_behind k j b l p) (next_free k q))
      | inr b ↦ omega (arith, a, b)
    ]
  ]

  pub found_key : (k : ℕ) → found s k ≡ true → s.value ≡ s.key k
  found_key k h = eqb-true s.value (s.key k) (and_right (kept s k) (nat_eq s.value (s.key k)) h)

  pub found_kept : (k : ℕ) → found s k ≡ true → kept s k ≡ true
  found_kept k h = and_left (kept s k) (nat_eq s.value (s.key k)) h

  pub found_here : (k : ℕ) → kept s k ≡ true → s.value ≡ s.key k → found s k ≡ true
  found_here k h e = and_both (kept s k) (nat_eq s.value (s.key k)) h (eq-eqb s.value (s.key k) e)

  found_only : (j k : ℕ) → j < n → k < n → found s j ≡ true → found s k ≡ true → j ≡ k
  found_only j k l m p q = order.apart j k l m (is_used j (found_kept j p)) (is_used k (found_kept k q)) (sym (found_key j p) ∙ found_key k q)

  takes_parts : (k : ℕ) → takes n s k ≡ true → (is_next s k ≡ true) × (any_to n (found s) ≡ false)
  takes_parts k h =
      let p = and_parts (is_next s k) (not (any_to n (found s))) (sym (takes_last n s k) ∙ h) in
      (p.0, not_true (any_to n (found s)) p.1)

  none_kept : any_to n (found s) ≡ false → (k : ℕ) → k < n → kept s k ≡ true → s.value ≡ s.key k → ⊥
  none_kept none k l h e = not_both (any_to n (found s)) (any_here n (found s) k l (found_here k h e)) none

  -- a cycle later
  module _ (q : Sought) (used : (k : ℕ) → k < n → q.used k ≡ has n s k) (keys : (k : ℕ) → k < n → q.key k ≡ (if is_next s k then s.value else s.key k)) where
    pub comes_from : (k : ℕ) → k < n → q.used k ≡ true → (kept s k || takes n s k) ≡ true
    comes_from k l h = sym (used k l) ∙ h

    pub key_kept : (k : ℕ) → k < n → kept s k ≡ true → q.key k ≡ s.key k
    key_kept k l h = keys k l ∙ ap (λ (b : Bool). if b then s.value else s.key k) (else_false (is_next s k) (λ e. not_both (kept s k) h (next_free k e)))

    pub key_taken : (k : ℕ) → k < n → takes n s k ≡ true → q.key k ≡ s.value
    key_taken k l h = keys k l ∙ ap (λ (b : Bool). if b then s.value else s.key k) (takes_parts k h).0

    -- one that is used and one that takes the key differ
    not_mixed : (j k : ℕ) → j < n → k < n → kept s j ≡ true → takes n s k ≡ true → q.key j ≡ q.key k → ⊥
    not_mixed j k l m h g e = none_kept (takes_parts k g).1 j l h (sym (key_taken k m g) ∙ sym e ∙ key_kept j l h)

    before_next : (k : ℕ) → suc k < n → q.used (suc k) ≡ true → q.used k ≡ true
    before_next k l h =
        let was : kept s k ≡ true = elim (or_cases (kept s (suc k)) (takes n s (suc k)) (comes_from (suc k) l h)) [
          | inl a ↦ kept_before k l a
          | inr a ↦ next_behind k (suc k) (omega arith) l (takes_parts (suc k) a).0
        ] in
        used k (omega (arith, l)) ∙ or_left (kept s k) (takes n s k) was

    apart_next : (j k : ℕ) → j < n → k < n → q.used j ≡ true → q.used k ≡ true → q.key j ≡ q.key k → j ≡ k
    apart_next j k l m g h e = elim (or_cases (kept s j) (takes n s j) (comes_from j l g)) [
      | inl a ↦ elim (or_cases (kept s k) (takes n s k) (comes_from k m h)) [
        | inl b ↦ order.apart j k l m (is_used j a) (is_used k b) (sym (key_kept j l a) ∙ e ∙ key_kept k m b)
        | inr b ↦ absurd (not_mixed j k l m a b e)
      ]
      | inr a ↦ elim (or_cases (kept s k) (takes n s k) (comes_from k m h)) [
        | inl b ↦ absurd (not_mixed k j m l b a (sym e))
        | inr b ↦ next_only j k l m (takes_parts j a).0 (takes_parts k b).0
      ]
    ]

    pub order_next : InOrder n q
    order_next = record { before = before_next; apart = apart_next }

    -- where one has the key, the mark is its
    marks_found : (mark : ℕ) → any_to n (found s) ≡ true → IsMark n (found s) mark → Marks n q s.value mark
    marks_found mark one is k l h = elim (or_cases (kept s k) (takes n s k) (comes_from k l h)) [
      | inl a ↦
          (let p = any_there n (found s) one in
          let at : mark ≡ suc p.0 = is.one p.0 p.1 p.2 (λ j m e. found_only j p.0 m p.1 e p.2) in
          same_test mark (suc k) s.value (s.key k)
          (λ e. let same : p.0 ≡ k = omega (arith, at, e) in found_key k (subst (λ i. found s i ≡ true) same p.2))
          (λ e. let same : p.0 ≡ k = found_only p.0 k p.1 l p.2 (found_here k a e) in omega (arith, at, same))
          ∙ ap (nat_eq s.value) (sym (key_kept k l a)))
      | inr a ↦ absurd (not_both (any_to n (found s)) one (takes_parts k a).1)
    ]

    next_marked : (mark : ℕ) → IsMark n (is_next s) mark → (k : ℕ) → k < n → is_next s k ≡ true → mark ≡ suc k
    next_marked mark is k l h = is.one k l h (λ j m e. next_only j k m l e h)

    -- one that was used before has not the mark of the next one
    other_marked : (mark : ℕ) → IsMark n (is_next s) mark → (k : ℕ) → k < n → kept s k ≡ true → mark ≡ suc k → ⊥
    other_marked mark is k l h e = by_cases (any_to n (is_next s))
        (λ a.
        let p = any_there n (is_next s) a in
        let at : mark ≡ suc p.0 = next_marked mark is p.0 p.1 p.2 in
        let same : p.0 ≡ k = omega (arith, at, e) in
        not_both (kept s k) h (next_free k (subst (λ i. is_next s i ≡ true) same p.2)))
        (λ a.
        let none : mark ≡ 0 = is.none (λ j m. else_false (is_next s j) (λ f. not_both (any_to n (is_next s)) (any_here n (is_next s) j m f) a)) in
        absurd (omega (arith, none, e)))

    -- and else that of the one that may take it
    marks_next : (mark : ℕ) → any_to n (found s) ≡ false → IsMark n (is_next s) mark → Marks n q s.value mark
    marks_next mark none is k l h = elim (or_cases (kept s k) (takes n s k) (comes_from k l h)) [
      | inl a ↦
          same_test mark (suc k) s.value (q.key k)
          (λ e. absurd (other_marked mark is k l a e))
          (λ e. absurd (none_kept none k l a (e ∙ key_kept k l a)))
      | inr a ↦
          same_test mark (suc k) s.value (q.key k)
          (λ e. sym (key_taken k l a))
          (λ e. next_marked mark is k l (takes_parts k a).0)
    ]

    pub marks_then : (mark : ℕ) → IsMark n (λ k. if any_to n (found s) then found s k else is_next s k) mark → Marks n q s.value mark
    marks_then mark is = by_cases (any_to n (found s))
        (λ e. marks_found mark e (subst (λ (b : Bool). IsMark n (λ k. if b then found s k else is_next s k) mark) e is))
        (λ e. marks_next mark e (subst (λ (b : Bool). IsMark n (λ k. if b then found s k else is_next s k) mark) e is))
