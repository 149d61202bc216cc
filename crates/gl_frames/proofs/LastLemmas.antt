-- The last row of a frame, and how many rows it has.
use Rattle.std.proofs.Common.{◌≡◌, ℕ, suc, ◌-◌, List, [], ◌∷◌, ◌++◌, Some, None, Bool, true, false, length, drop, refl, sym, ap, ◌∙◌, arith, append-nil, inl, inr}
use Rattle.std.specs.Prelude.{filter, if◌then◌else◌, slice_get}
use Rattle.std.proofs.lemmas.Bool.{cases_lt, le-leb, lt-leb}
use Rattle.std.proofs.lemmas.List.{drop-append-le, length-append, length-drop}
use Rattle.std.proofs.lemmas.List.Elements.{filter-append}
use Rattle.gl_frames.specs.Frames.{last_ones, number_or, row_before}
use Rattle.gl_frames.specs.Laws.{FramesAreCounted, LastValuesAreOwn, LastValuesStay}
use Rattle.gl_frames.proofs.ListLemmas.{one_more}

module _ {A : Type 0} where
  -- with a row more a frame has that row behind one row less
  pub last_more : (k : ℕ) (xs : List A) (x : A) → last_ones (suc k) (xs ++ x ∷ []) ≡ last_ones k xs ++ x ∷ []
  last_more k xs x =
      let long = length-append xs (x ∷ []) in
      let cut : length (xs ++ x ∷ []) - suc k ≡ length xs - k = omega (arith, long) in
      ap (λ n. drop n (xs ++ x ∷ [])) cut ∙ drop-append-le (length xs - k) xs (x ∷ []) (omega arith)

  pub ends_with : (xs : List A) (x : A) → row_before 0 (xs ++ x ∷ []) ≡ Some x
  ends_with xs x = ap (λ l. slice_get l 0) (one_more xs x)

  all_pass : (xs : List A) → filter (λ (y : A). true) xs ≡ xs
  all_pass [] = refl
  all_pass (x ∷ xs) = ap (λ l. x ∷ l) (all_pass xs)

  pub last_values_own : LastValuesAreOwn A
  last_values_own value None xs x = ap (λ l. number_or value (row_before 0 l)) (all_pass (xs ++ x ∷ [])) ∙ ap (number_or value) (ends_with xs x)
  last_values_own value (Some k) xs x =
      ap (λ l. number_or value (row_before 0 l)) (all_pass (last_ones (suc k) (xs ++ x ∷ [])) ∙ last_more k xs x)
      ∙ ap (number_or value) (ends_with (last_ones k xs) x)

  pub last_values_stay : LastValuesStay A
  last_values_stay value passes xs x =
      ap (λ l. number_or value (row_before 0 l)) (filter-append passes xs (x ∷ [])) ∙ by (passes x)
    where
      by : (b : Bool) → number_or value (row_before 0 (filter passes xs ++ (if b then x ∷ [] else [])))
          ≡ (if b then value x else number_or value (row_before 0 (filter passes xs)))
      by true = ap (number_or value) (ends_with (filter passes xs) x)
      by false = ap (λ l. number_or value (row_before 0 l)) (append-nil (filter passes xs))

  pub frames_counted : FramesAreCounted A
  frames_counted k xs = length-drop (length xs - suc k) xs ∙ elim (cases_lt k (length xs)) [
    | inl more ↦ (let n : length xs - (length xs - suc k) ≡ suc k = omega (arith, more) in
        n ∙ sym (ap (λ (b : Bool). if b then suc k else length xs) (le-leb (suc k) (length xs) (omega (arith, more)))))
    | inr few ↦ (let n : length xs - (length xs - suc k) ≡ length xs = omega (arith, few) in
        n ∙ sym (ap (λ (b : Bool). if b then suc k else length xs) (lt-leb (suc k) (length xs) (omega (arith, few)))))
  ]
