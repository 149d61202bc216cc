-- Of a column of bests of so many rows, two windows of it are the best of more rows.
use Rattle.std.proofs.Common.{◌≡◌, ℕ, ◌+◌, ◌-◌, ◌<◌, ◌≤◌, List, [], ◌∷◌, Some, None, Bool, length, take, refl, sym, ap, ◌∙◌, arith, inl, inr}
use Rattle.std.specs.Prelude.{if◌then◌else◌}
use Rattle.std.proofs.lemmas.Bool.{cases_lt, le-ltb, lt-ltb}
use Rattle.std.proofs.lemmas.List.{drop_all, length-drop, length-take, take_all}
use Rattle.gl_frames.specs.Frames.{IsChoice, best_of, better_of, but_last, framed, lag_of, last_ones, number_or, row_before}
use Rattle.gl_frames.proofs.BestLemmas.{bests_overlap}
use Rattle.gl_frames.proofs.ListLemmas.{rings_earlier}
use Rattle.gl_frames_stages.specs.Laws.{BestsDouble, best_in, itself, picked}

module _ (op : ℕ → ℕ → ℕ) (n : ℕ) (some : 1 ≤ n) where
  -- where there is a row there is a best one
  there : (xs : List ℕ) → 0 < length xs → Some (best_in op n xs) ≡ best_of op (last_ones n xs)
  there xs lt = by (last_ones n xs) refl
    where
      by : (ys : List ℕ) → last_ones n xs ≡ ys → Some (number_or itself (best_of op (last_ones n xs))) ≡ best_of op (last_ones n xs)
      by [] e = absurd (let long = length-drop (length xs - n) xs in let none : length (last_ones n xs) ≡ 0 = ap length e in omega (arith, long, none, lt, some))
      by (y ∷ ys) e = ap (λ l. Some (number_or itself (best_of op l))) e ∙ sym (ap (best_of op) e)

  own_is : (xs : List ℕ) → 0 < length xs → lag_of itself 0 (framed (best_in op n) xs) ≡ best_in op n xs
  own_is xs lt =
      let whole : but_last 0 xs ≡ xs = take_all (length xs - 0) xs (omega arith) in
      ap (number_or itself) (rings_earlier (best_in op n) 0 xs)
      ∙ ap (λ (b : Bool). number_or itself (if b then Some (best_in op n (but_last 0 xs)) else None)) (lt-ltb 0 (length xs) lt)
      ∙ ap (best_in op n) whole

  module _ (choice : IsChoice op) (d : ℕ) (le : d ≤ n) (xs : List ℕ) (lt : 0 < length xs) where
    met : best_in op (n + d) xs ≡ number_or itself (better_of op (best_of op (last_ones n (but_last d xs))) (best_of op (last_ones n xs)))
    met =
        let back : n + d - n ≡ d = omega arith in
        ap (number_or itself) (bests_overlap op choice (n + d) n xs (omega (arith, le)) (omega (arith, le))
        ∙ ap (λ k. better_of op (best_of op (last_ones n (but_last k xs))) (best_of op (last_ones n xs))) back)

    near : d < length xs → picked op (row_before d (framed (best_in op n) xs)) (lag_of itself 0 (framed (best_in op n) xs)) ≡ best_in op (n + d) xs
    near more =
        let left : 0 < length (but_last d xs) = (let e = length-take (length xs - d) xs in omega (arith, e, more)) in
        ap (λ o. picked op o (lag_of itself 0 (framed (best_in op n) xs)))
        (rings_earlier (best_in op n) d xs ∙ ap (λ (b : Bool). if b then Some (best_in op n (but_last d xs)) else None) (lt-ltb d (length xs) more))
        ∙ ap (op (best_in op n (but_last d xs))) (own_is xs lt)
        ∙ ap (λ o. number_or itself (better_of op o (Some (best_in op n xs)))) (there (but_last d xs) left)
        ∙ ap (λ o. number_or itself (better_of op (best_of op (last_ones n (but_last d xs))) o)) (there xs lt)
        ∙ sym met

    far : length xs ≤ d → picked op (row_before d (framed (best_in op n) xs)) (lag_of itself 0 (framed (best_in op n) xs)) ≡ best_in op (n + d) xs
    far less =
        let none : length xs - d ≡ 0 = omega (arith, less) in
        let gone : best_of op (last_ones n (but_last d xs)) ≡ None = ap (λ k. best_of op (last_ones n (take k xs))) none ∙ ap (best_of op) (drop_all (0 - n) [] (omega arith)) in
        ap (λ o. picked op o (lag_of itself 0 (framed (best_in op n) xs)))
        (rings_earlier (best_in op n) d xs ∙ ap (λ (b : Bool). if b then Some (best_in op n (but_last d xs)) else None) (le-ltb d (length xs) less))
        ∙ own_is xs lt
        ∙ sym (met ∙ ap (λ o. number_or itself (better_of op o (best_of op (last_ones n xs)))) gone)

pub bests_double : BestsDouble
bests_double op choice n d some le [] = sym (ap (λ l. number_or itself (best_of op l)) (drop_all (0 - (n + d)) [] (omega arith)))
bests_double op choice n d some le (x ∷ xs) = elim (cases_lt d (length (x ∷ xs))) [
  | inl more ↦ near op n some choice d le (x ∷ xs) (omega arith) more
  | inr less ↦ far op n some choice d le (x ∷ xs) (omega arith) less
]
