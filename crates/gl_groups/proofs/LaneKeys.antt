-- How keys come to the slots of a machine one cycle behind its source.
use Rattle.std.proofs.Common.{◌≡◌, ℕ, zero, suc, ◌<◌, Bool, true, false, refl, sym, ap, ◌∙◌, arith, inl, inr, lt-ltb, ltb-true}
use Rattle.std.specs.Prelude.{not, ◌&&◌, ◌||◌, if◌then◌else◌}
use Rattle.std.proofs.lemmas.Bool.{cases_lt}
use Rattle.gl_bits.proofs.Bools.{and_left, and_right, not_both, not_true}
use Rattle.gl_groups.specs.Ahead.{Ahead, Finds, GoesOn, sought_in}
use Rattle.gl_slots.specs.Seeking.{asks, is_next, kept}

module _ (n : ℕ) (a : Ahead) (g : GoesOn n a) (f : Finds n a) where
  -- slots fill in order, so all before the next one are kept
  kept_below : (j k t : ℕ) → j < k → k < n → is_next (sought_in a t) k ≡ true → kept (sought_in a t) j ≡ true
  kept_below j zero t l m h = absurd (omega (arith, l))
  kept_below j (suc k) t l m h =
      let before : kept (sought_in a t) k ≡ true = and_right (a.ask t) (kept (sought_in a t) k) (and_left (asks (sought_in a t) (suc k)) (not (kept (sought_in a t) (suc k))) h) in
      let used : a.used k t ≡ true = and_left (a.used k t) (not (a.free t)) before in
      let far = ltb-true k (a.many t) (sym (f.many k t (omega (arith, m))) ∙ used) in
      let own : a.used j t ≡ true = f.many j t (omega (arith, l, m)) ∙ lt-ltb j (a.many t) (omega (arith, l, far)) in
      ap (λ b. b && not (a.free t)) (own ∙ sym used) ∙ before

  not_kept : (k t : ℕ) → is_next (sought_in a t) k ≡ true → kept (sought_in a t) k ≡ false
  not_kept k t h = not_true (kept (sought_in a t) k) (and_right (asks (sought_in a t) k) (not (kept (sought_in a t) k)) h)

  pub one_next : (j k t : ℕ) → j < n → k < n → is_next (sought_in a t) j ≡ true → is_next (sought_in a t) k ≡ true → j ≡ k
  one_next j k t l m p q = elim (cases_lt j k) [
    | inl z ↦ absurd (not_both (kept (sought_in a t) j) (kept_below j k t z m q) (not_kept j t p))
    | inr z ↦ elim (cases_lt k j) [
      | inl w ↦ absurd (not_both (kept (sought_in a t) k) (kept_below k j t w l p) (not_kept k t q))
      | inr w ↦ omega (arith, z, w)
    ]
  ]

  -- up to the cycle behind the reset no slot is used
  none_next : (k : ℕ) → is_next (sought_in a 0) k ≡ false
  none_next zero = ap (λ b. b && not (kept (sought_in a 0) 0)) g.first_ask
  none_next (suc k) = ap (λ b. (b && kept (sought_in a 0) k) && not (kept (sought_in a 0) (suc k))) g.first_ask

  pub none_used : (k : ℕ) → k < n → a.used k 1 ≡ false
  none_used k l =
      g.used k 0 l ∙ ap (λ b. (b && not (a.free 0)) || (is_next (sought_in a 0) k && not (a.one 0))) (g.first_used k)
      ∙ ap (λ b. b && not (a.one 0)) (none_next k)

  -- numbers that take the key where a slot may take it are the keys of the slots that are used
  module _ (words : ℕ → ℕ → ℕ) (take : (k t : ℕ) → k < n → words k (suc (suc t)) ≡ (if is_next (sought_in a (suc t)) k then a.value (suc t) else words k (suc t))) where
    pub same_words : (k t : ℕ) → k < n → a.used k t ≡ true → words k t ≡ a.key k t
    same_words k zero l u = absurd (not_both (a.used k 0) u (g.first_used k))
    same_words k (suc zero) l u = absurd (not_both (a.used k 1) u (none_used k l))
    same_words k (suc (suc t)) l u =
        take k t l
        ∙ by (is_next (sought_in a (suc t)) k) (λ e. same_words k (suc t) l (still (a.used k (suc t)) (a.free (suc t)) (is_next (sought_in a (suc t)) k) (not (a.one (suc t))) e (sym (g.used k (suc t) l) ∙ u)))
        ∙ sym (g.key k (suc t) l)
      where
        by : (b : Bool) → (b ≡ false → words k (suc t) ≡ a.key k (suc t)) → (if b then a.value (suc t) else words k (suc t)) ≡ (if b then a.value (suc t) else a.key k (suc t))
        by true q = refl
        by false q = q refl

        -- one that is not next has been used before
        still : (u v x o : Bool) → x ≡ false → ((u && not v) || (x && o)) ≡ true → u ≡ true
        still true v x o e q = refl
        still false v true o e q = absurd (cc)
        still false v false o e q = absurd (cc)
