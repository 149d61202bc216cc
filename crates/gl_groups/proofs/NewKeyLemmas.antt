-- The slots of keys with one more: the one that takes it was not used before, and no other is new.
use Rattle.std.proofs.Common.{◌≡◌, ℕ, suc, ◌<◌, List, [], ◌∷◌, ◌++◌, length, Option, Some, None, Bool, true, false, ◌&&◌, ◌||◌, refl, sym, ap, ◌∙◌, arith, inl, inr, ◌⊎◌, eqb-true, eq-eqb}
use Rattle.std.specs.Prelude.{if◌then◌else◌, not, nat_eq, nat_lt, slice_get}
use Rattle.std.specs.List.{list_any}
use Rattle.std.proofs.lemmas.Bool.{lt-ltb, ltb-false, ltb-true}
use Rattle.gl_values.specs.Tables.{with_key}
use Rattle.gl_bits.proofs.AllLists.{get_below, get_front, get_last, get_there}
use Rattle.gl_bits.proofs.Bools.{and_both, and_parts, by_cases, not_both, not_false, not_true, or_cases, or_left, or_right, same_when}
use Rattle.gl_slots.specs.Slots.{same_key}
use Rattle.gl_slots.proofs.OneLemmas.{not_listed}

same_some : (o : Option ℕ) (x : ℕ) → same_key o x ≡ true → o ≡ Some x
same_some None x h = absurd (cc)
same_some (Some y) x h = ap Some (sym (eqb-true x y h))

length_one_more : (ks : List ℕ) (x : ℕ) → length (ks ++ x ∷ []) ≡ suc (length ks)
length_one_more [] x = refl
length_one_more (k ∷ ks) x = ap suc (length_one_more ks x)

module _ (count : ℕ) (ks : List ℕ) (x : ℕ) where
  abbrev more : List ℕ
  more = with_key count ks x

  abbrev known : Bool
  known = list_any (nat_eq x) ks

  -- whether a slot was used, whether it is now, and whether it has the key
  abbrev old : ℕ → Bool
  old k = nat_lt k (length ks)

  abbrev now : ℕ → Bool
  now k = nat_lt k (length more)

  abbrev has : ℕ → Bool
  has k = same_key (slice_get more k) x

  grown : (more ≡ ks) ⊎ ((more ≡ ks ++ x ∷ []) × (known ≡ false))
  unfolding with_key
  grown = by (nat_lt (length ks) count) known refl
    where
      by : (room there : Bool) → known ≡ there
          → ((if room && not there then ks ++ x ∷ [] else ks) ≡ ks) ⊎ (((if room && not there then ks ++ x ∷ [] else ks) ≡ ks ++ x ∷ []) × (known ≡ false))
      by false there e = inl refl
      by true true e = inl refl
      by true false e = inr (refl, e)

  pub old_now : (k : ℕ) → old k ≡ true → now k ≡ true
  old_now k e = elim grown [
    | inl p ↦ ap (λ (l : List ℕ). nat_lt k (length l)) p ∙ e
    | inr p ↦
        ap (λ (l : List ℕ). nat_lt k (length l)) p.0 ∙ ap (nat_lt k) (length_one_more ks x)
        ∙ lt-ltb k (suc (length ks)) (let l : k < length ks = ltb-true k (length ks) e in omega (arith, l))
  ]

  kept_key : (k y : ℕ) → slice_get ks k ≡ Some y → slice_get more k ≡ Some y
  kept_key k y e = elim grown [
    | inl p ↦ ap (λ l. slice_get l k) p ∙ e
    | inr p ↦ ap (λ l. slice_get l k) p.0 ∙ get_front ks (x ∷ []) k y e
  ]

  -- a new key has a slot that was not used
  pub new_slot : (k : ℕ) → has k ≡ true → known ≡ false → old k ≡ false
  new_slot k h none = by_cases (old k) (λ e. absurd (there e)) (λ e. e)
    where
      there : old k ≡ true → ⊥
      there e =
          let y = get_there ks k (ltb-true k (length ks) e) in
          let same : Some y.0 ≡ Some x = sym (kept_key k y.0 y.1) ∙ same_some (slice_get more k) x h in
          not_listed ks x k none (y.1 ∙ same)

  -- a slot that is used now and was not has the key, and it was new
  pub slot_new : (k : ℕ) → now k ≡ true → old k ≡ false → (has k ≡ true) × (known ≡ false)
  slot_new k n o = elim grown [
    | inl p ↦ absurd (not_both (old k) (sym (ap (λ (l : List ℕ). nat_lt k (length l)) p) ∙ n) o)
    | inr p ↦
        (let l : k < suc (length ks) = ltb-true k (suc (length ks)) (sym (ap (λ (l : List ℕ). nat_lt k (length l)) p.0 ∙ ap (nat_lt k) (length_one_more ks x)) ∙ n) in
        let at : length ks ≡ k = omega (arith, l, ltb-false k (length ks) o) in
        let got : slice_get more k ≡ Some x = ap (λ z. slice_get z k) p.0 ∙ ap (slice_get (ks ++ x ∷ [])) (sym at) ∙ get_last ks x in
        (ap (λ z. same_key z x) got ∙ eq-eqb x x refl, p.1))
  ]

  pub has_now : (k : ℕ) → has k ≡ true → now k ≡ true
  has_now k h = lt-ltb k (length more) (get_below more k x (same_some (slice_get more k) x h))

  pub old_has : (k : ℕ) → (has k || old k) ≡ now k
  old_has k = same_when (has k || old k) (now k)
      (λ e. elim (or_cases (has k) (old k) e) [ inl h ↦ has_now k h | inr o ↦ old_now k o ])
      (λ n. by_cases (old k) (λ o. or_right (has k) (old k) o) (λ o. or_left (has k) (old k) (slot_new k n o).0))

  pub old_is : (k : ℕ) → old k ≡ (now k && not (not known && has k))
  old_is k = by_cases (old k)
      (λ o. o ∙ sym (and_both (now k) (not (not known && has k)) (old_now k o) (not_false (not known && has k) (unlike k o))))
      (λ o. o ∙ sym (by_cases (now k)
      (λ n. let p = slot_new k n o in low (now k) known (has k) p.1 p.0)
      (λ n. ap (λ b. b && not (not known && has k)) n)))
    where
      unlike : (k : ℕ) → old k ≡ true → (not known && has k) ≡ false
      unlike k o = by_cases (not known && has k)
          (λ e. let p = and_parts (not known) (has k) e in absurd (not_both (old k) o (new_slot k p.1 (not_true known p.0))))
          (λ e. e)

      low : (n g h : Bool) → g ≡ false → h ≡ true → (n && not (not g && h)) ≡ false
      low true false true p q = refl
      low false g h p q = refl
      low true true h p q = absurd (cc)
      low true false false p q = absurd (cc)
