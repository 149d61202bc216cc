-- The line of further keys: it tells of a stream of which rows are left out, and of no other.
use Rattle.std.proofs.Common.{◌≡◌, ℕ, zero, suc, ◌+◌, ◌<◌, ◌≤◌, List, [], ◌∷◌, ◌++◌, take, Option, Some, None, Bool, true, false, ◌||◌, refl, sym, ap, ◌∙◌, arith, inl, inr, ◌⊎◌}
use Rattle.std.specs.Prelude.{option_to_list, not, nat_eq}
use Rattle.std.specs.List.{list_any}
use Rattle.std.proofs.lemmas.Bool.{or_cases, or_left, or_right}
use Rattle.std.proofs.lemmas.List.{append-nil}
use Rattle.gl_values.specs.Lists.{keys_of, has_further}
use Rattle.gl_values.specs.Results.{Row}
use Rattle.gl_bits.proofs.Bools.{or_none}
use Rattle.gl_wire.specs.Apart.{Carries, a_tuple}
use Rattle.gl_wire.specs.Wire.{Carried, pending, stream}
use Rattle.gl_slots.specs.Slots.{keys_at, is_further, further_line, came_further}
use Rattle.gl_slots.proofs.Setting.{Setting}
use Rattle.gl_slots.proofs.KeyLemmas.{further-push, further-none}
use Rattle.gl_slots.proofs.PhaseLemmas.{keys_are}

module _ (count : ℕ) (key : Row → ℕ) (a : Carried) where
  -- the first keys of the stream with what comes in a cycle
  abbrev first : ℕ → List ℕ
  first c = take count (keys_of key (stream a c))

  -- the line
  abbrev own : ℕ → Bool
  own = came_further count key a

  further_step : (c : ℕ) → has_further count key (stream a c) ≡ (has_further count key (pending a c) || own (suc c))
  further_step c = by (a.tuple c) refl
    where
      by : (o : Option Row) → a.tuple c ≡ o → has_further count key (stream a c) ≡ (has_further count key (pending a c) || own (suc c))
      by None p =
          let line : own (suc c) ≡ false = ap (is_further key (first c)) p in
          let same : stream a c ≡ pending a c = ap (λ z. pending a c ++ option_to_list z) p ∙ append-nil (pending a c) in
          ap (has_further count key) same ∙ sym (or_none (has_further count key (pending a c))) ∙ ap (λ z. has_further count key (pending a c) || z) (sym line)
      by (Some r) p =
          let same : stream a c ≡ pending a c ++ r ∷ [] = ap (λ z. pending a c ++ option_to_list z) p in
          let line : own (suc c) ≡ not (list_any (nat_eq (key r)) (take count (keys_of key (pending a c ++ r ∷ [])))) =
          ap (is_further key (first c)) p ∙ ap (λ z. not (list_any (nat_eq (key r)) (take count (keys_of key z)))) same
          in
          ap (has_further count key) same ∙ further-push count key (pending a c) r ∙ ap (λ z. has_further count key (pending a c) || z) (sym line)

  -- where rows of a stream are left out, the line has told
  pub further_told : (d : ℕ) → has_further count key (stream a d) ≡ true → (c : ℕ) × (own c ≡ true)
  further_told zero h = elim (or_cases (has_further count key []) (own 1) (sym (further_step 0) ∙ h)) [ inl e ↦ absurd (let z = further-none count key in cc (e, z)) | inr e ↦ (1, e) ]
  further_told (suc c) h = by (a.ends c) refl (or_cases (has_further count key (pending a (suc c))) (own (suc (suc c))) (sym (further_step (suc c)) ∙ h)) (λ e. further_told c e)
    where
      by : (x : Bool) → a.ends c ≡ x → ((has_further count key (pending a (suc c)) ≡ true) ⊎ (own (suc (suc c)) ≡ true)) → (has_further count key (stream a c) ≡ true → (c : ℕ) × (own c ≡ true)) → (c : ℕ) × (own c ≡ true)
      by x p (inr e) ih = (suc (suc c), e)
      by true p (inl e) ih = absurd (let z = further-none count key in let y : pending a (suc c) ≡ [] = rw p refl in let w = ap (has_further count key) y in cc (e, w, z))
      by false p (inl e) ih = let y : pending a (suc c) ≡ stream a c = rw p refl in ih (sym (ap (has_further count key) y) ∙ e)

  -- where the line tells, rows of the stream that ends next are left out
  pub further_so : (n x : ℕ) → own (suc x) ≡ true → ((j : ℕ) → x ≤ j → j < x + n → a.ends j ≡ false) → has_further count key (stream a (x + n)) ≡ true
  further_so zero x h quiet = let e : x ≡ x + zero = omega arith in ap (λ i. has_further count key (stream a i)) (sym e) ∙ further_step x ∙ or_right (has_further count key (pending a x)) (own (suc x)) h
  further_so (suc n) x h quiet =
      let e : suc (x + n) ≡ x + suc n = omega arith in
      let q = quiet (x + n) (omega arith) (omega arith) in
      let same : pending a (suc (x + n)) ≡ stream a (x + n) = rw q refl in
      let ih = further_so n x h (λ j l m. quiet j l (omega (arith, m))) in
      ap (λ i. has_further count key (stream a i)) (sym e) ∙ further_step (suc (x + n))
      ∙ or_left (has_further count key (pending a (suc (x + n)))) (own (suc (suc (x + n)))) (ap (has_further count key) same ∙ ih)

  pub further_carries : (x : ℕ) → own (suc x) ≡ true → Carries a x
  further_carries x h = by (a.tuple x) refl
    where
      by : (o : Option Row) → a.tuple x ≡ o → Carries a x
      by (Some r) p = a_tuple r p
      by None p = absurd (let z = ap (is_further key (first x)) p in cc (h, z))

-- of no tuple lists of keys tell the same, and of one where they are one list
same_further : (key : Row → ℕ) (ks js : List ℕ) (o : Option Row) → ((r : Row) → o ≡ Some r → ks ≡ js) → is_further key ks o ≡ is_further key js o
same_further key ks js None same = refl
same_further key ks js (Some r) same = ap (λ (xs : List ℕ). is_further key xs (Some r)) (same r refl)

-- the machine's line tells the same, where a stream's slots are free when it begins
pub further_came : (front : Setting) (c : ℕ) → further_line front.count front.key front.stride front.a c ≡ came_further front.count front.key front.a c
further_came front zero = refl
further_came front (suc c) =
    same_further front.key (keys_at front.count front.key front.stride front.a c) (take front.count (keys_of front.key (stream front.a c)))
    (front.a.tuple c) (keys_are front c)
