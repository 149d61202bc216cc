-- The last value that passes of the last rows, by its age.
use Rattle.std.proofs.Common.{◌≡◌, ℕ, zero, suc, ◌-◌, List, [], ◌∷◌, ◌++◌, Some, None, Bool, true, false, length, refl, sym, ap, ◌∙◌, arith, append-nil, inl, inr}
use Rattle.std.specs.Prelude.{filter, if◌then◌else◌, nat_le}
use Rattle.std.proofs.lemmas.Bool.{cases_lt, le-leb, lt-leb}
use Rattle.std.proofs.lemmas.List.{drop_all}
use Rattle.std.proofs.lemmas.List.Elements.{filter-append}
use Rattle.std.proofs.lemmas.List.Sums.{fold-append}
use Rattle.gl_frames.specs.Frames.{last_ones, last_value_of, number_or, row_before}
use Rattle.gl_frames.proofs.LastLemmas.{ends_with, last_more}
use Rattle.gl_frames_stages.specs.RecentNets.{age}
use Rattle.gl_frames_stages.proofs.ChangeLemmas.{by_rows}

next_le : (j n : ℕ) → nat_le (suc j) (suc n) ≡ nat_le j n
next_le j n = elim (cases_lt n j) [
  | inl lt ↦ lt-leb (suc j) (suc n) (omega (arith, lt)) ∙ sym (lt-leb j n lt)
  | inr le ↦ le-leb (suc j) (suc n) (omega (arith, le)) ∙ sym (le-leb j n le)
]

module _ {B : Type 0} (v : B → ℕ) (p : B → Bool) where
  pub age_more : (xs : List B) (x : B) → age p (xs ++ x ∷ []) ≡ (if p x then 0 else suc (age p xs))
  age_more xs x = fold-append (λ n y. if p y then 0 else suc n) 0 xs (x ∷ [])

  -- the last value of some rows
  abbrev last : List B → ℕ
  last xs = number_or v (row_before 0 (filter p xs))

  last_by : (b : Bool) (xs : List B) (x : B) → p x ≡ b → last (xs ++ x ∷ []) ≡ (if b then v x else last xs)
  last_by true xs x e =
      ap (λ l. number_or v (row_before 0 l)) (filter-append p xs (x ∷ []) ∙ ap (λ (b : Bool). filter p xs ++ (if b then x ∷ [] else [])) e)
      ∙ ap (number_or v) (ends_with (filter p xs) x)
  last_by false xs x e =
      ap (λ l. number_or v (row_before 0 l)) (filter-append p xs (x ∷ []) ∙ ap (λ (b : Bool). filter p xs ++ (if b then x ∷ [] else [])) e ∙ append-nil (filter p xs))

  chosen : (b : Bool) (x y : ℕ) → (if b then 0 else x) ≡ y → b ≡ true → y ≡ 0
  chosen true x y e q = sym e
  chosen false x y e q = absurd (cc)

  none_left : (k : ℕ) → last (last_ones k []) ≡ (if nat_le k (age p []) then 0 else last [])
  none_left k = ap last (drop_all (0 - k) [] (omega arith)) ∙ by (nat_le k 0)
    where
      by : (b : Bool) → zero ≡ (if b then zero else zero)
      by true = refl
      by false = refl

  nothing_left : (xs : List B) → last (last_ones 0 xs) ≡ (if nat_le 0 (age p xs) then 0 else last xs)
  nothing_left xs =
      ap last (drop_all (length xs - 0) xs (omega arith))
      ∙ sym (ap (λ (b : Bool). if b then 0 else last xs) (le-leb 0 (age p xs) (omega arith)))

  one_more : (xs : List B) (x : B) (b : Bool) → p x ≡ b → ((k : ℕ) → last (last_ones k xs) ≡ (if nat_le k (age p xs) then 0 else last xs))
      → (j : ℕ) → last (last_ones (suc j) (xs ++ x ∷ [])) ≡ (if nat_le (suc j) (age p (xs ++ x ∷ [])) then 0 else last (xs ++ x ∷ []))
  one_more xs x true e h j =
      ap last (last_more j xs x) ∙ last_by true (last_ones j xs) x e
      ∙ sym (ap (λ (n : ℕ). if nat_le (suc j) n then 0 else last (xs ++ x ∷ [])) (age_more xs x ∙ ap (λ (b : Bool). if b then 0 else suc (age p xs)) e)
      ∙ ap (λ (b : Bool). if b then 0 else last (xs ++ x ∷ [])) (lt-leb (suc j) 0 (omega arith))
      ∙ last_by true xs x e)
  one_more xs x false e h j =
      ap last (last_more j xs x) ∙ last_by false (last_ones j xs) x e ∙ h j
      ∙ sym (ap (λ (n : ℕ). if nat_le (suc j) n then 0 else last (xs ++ x ∷ [])) (age_more xs x ∙ ap (λ (b : Bool). if b then 0 else suc (age p xs)) e)
      ∙ ap (λ (b : Bool). if b then 0 else last (xs ++ x ∷ [])) (next_le j (age p xs))
      ∙ ap (λ (n : ℕ). if nat_le j (age p xs) then 0 else n) (last_by false xs x e))

  aged : (xs : List B) (k : ℕ) → last (last_ones k xs) ≡ (if nat_le k (age p xs) then 0 else last xs)
  aged =
      by_rows (λ xs. (k : ℕ) → last (last_ones k xs) ≡ (if nat_le k (age p xs) then 0 else last xs)) none_left
      (λ xs x h k. by xs x h k)
    where
      by : (xs : List B) (x : B) → ((k : ℕ) → last (last_ones k xs) ≡ (if nat_le k (age p xs) then 0 else last xs))
          → (k : ℕ) → last (last_ones k (xs ++ x ∷ [])) ≡ (if nat_le k (age p (xs ++ x ∷ [])) then 0 else last (xs ++ x ∷ []))
      by xs x h zero = nothing_left (xs ++ x ∷ [])
      by xs x h (suc j) = one_more xs x (p x) refl h j

  -- with a row: its value where it passes, and else the last one of all rows before, where that is no older than the frame
  pub recent_value : (k : ℕ) (xs : List B) (x : B) → last_value_of v (Some k) p (xs ++ x ∷ [])
      ≡ (if p x then v x else if nat_le k (age p xs) then 0 else last_value_of v None p xs)
  recent_value k xs x = ap last (last_more k xs x) ∙ last_by (p x) (last_ones k xs) x refl ∙ ap (λ (n : ℕ). if p x then v x else n) (aged xs k)
