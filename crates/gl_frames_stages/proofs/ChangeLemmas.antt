-- The sum of all changes of a sum over the last words is that sum.
use Rattle.std.proofs.Common.{◌≡◌, ℕ, ◌+◌, ◌-◌, ◌%◌, ◌^◌, ◌<◌, List, [], ◌∷◌, ◌++◌, Option, Some, None, map, refl, sym, ap, ◌∙◌, subst, arith, append_assoc, append-nil}
use Rattle.std.specs.Prelude.{sum, reverse, slice_get}
use Rattle.std.specs.Option.{option_map}
use Rattle.std.proofs.Math.Nat.{mod-add-mod}
use Rattle.std.proofs.lemmas.List.{drop_all, map-append, reverse-append}
use Rattle.std.proofs.lemmas.List.Sums.{sum_by-append, sum_by-cons}
use Rattle.std.proofs.lemmas.Option.{slice_get-map}
use Rattle.gl_values.specs.Totals.{sum_total}
use Rattle.gl_bits.specs.Words.{difference_of, sum_of}
use Rattle.gl_frames.specs.Frames.{framed, lag_of, last_ones, number_or, row_before}
use Rattle.gl_frames.proofs.LastLemmas.{ends_with}
use Rattle.gl_frames.proofs.ListLemmas.{each_more}
use Rattle.gl_frames.proofs.SumLemmas.{sums_slide}
use Rattle.gl_frames_stages.specs.Laws.{ChangesSum, change_of, itself}

-- ---- lists, the last row first

module _ {A : Type 0} (P : List A → Type 0) (more : (xs : List A) (x : A) → P xs → P (xs ++ x ∷ [])) where
  climbed : (seen xs : List A) → P seen → P (seen ++ xs)
  climbed seen [] p = subst P (sym (append-nil seen)) p
  climbed seen (x ∷ xs) p = subst P (append_assoc seen (x ∷ []) xs) (climbed (seen ++ x ∷ []) xs (more seen x p))

-- what holds of no rows, and of one row more where it holds of some, holds of all
pub by_rows : {A : Type 0} (P : List A → Type 0) → P [] → ((xs : List A) (x : A) → P xs → P (xs ++ x ∷ [])) → (xs : List A) → P xs
by_rows P none more xs = climbed P more [] xs none

reverse_map : {A B : Type 0} (f : A → B) (xs : List A) → reverse (map f xs) ≡ map f (reverse xs)
reverse_map f [] = refl
reverse_map f (x ∷ xs) =
    reverse-append (f x ∷ []) (map f xs) ∙ ap (λ l. l ++ f x ∷ []) (reverse_map f xs) ∙ sym (map-append f (reverse xs) (x ∷ []))
    ∙ ap (map f) (sym (reverse-append (x ∷ []) xs))

pub row_map : {A B : Type 0} (f : A → B) (n : ℕ) (xs : List A) → row_before n (map f xs) ≡ option_map f (row_before n xs)
row_map f n xs = ap (λ l. slice_get l n) (reverse_map f xs) ∙ slice_get-map f (reverse xs) n

pub lag_map : (of : ℕ → ℕ) → of 0 ≡ 0 → (n : ℕ) (xs : List ℕ) → lag_of itself n (map of xs) ≡ of (lag_of itself n xs)
lag_map of none n xs = ap (number_or itself) (row_map of n xs) ∙ by (row_before n xs)
  where
    by : (o : Option ℕ) → number_or itself (option_map of o) ≡ of (number_or itself o)
    by None = sym none
    by (Some x) = refl

pub framed_more : {A B : Type 0} (f : List A → B) (xs : List A) (x : A) → framed f (xs ++ x ∷ []) ≡ framed f xs ++ f (xs ++ x ∷ []) ∷ []
framed_more f xs x = each_more (λ zs. Some (f zs)) [] xs x

-- ---- sums

sum_one_more : (w : ℕ) (ys : List ℕ) (y : ℕ) → sum_total w (ys ++ y ∷ []) ≡ sum_of w (sum_total w ys) y
unfolding sum_total sum_of
sum_one_more w ys y =
    let all : sum (ys ++ y ∷ []) ≡ sum ys + sum (y ∷ []) = sum_by-append (λ z. z) ys (y ∷ []) in
    let one : sum (y ∷ []) ≡ y + sum [] = sum_by-cons (λ z. z) y [] in
    let none : sum [] ≡ 0 = refl in
    let e : sum (ys ++ y ∷ []) ≡ sum ys + y = omega (arith, all, one, none) in
    ap (λ n. n % 2 ^ w) e ∙ sym (mod-add-mod (sum ys) (2 ^ w) y)

-- to add what comes without what leaves, or to add what comes and take off what leaves
moved : (w s a b : ℕ) → sum_of w s (difference_of w a b) ≡ difference_of w (sum_of w s a) b
unfolding sum_of difference_of
moved w s a b =
    let turned : s + (a + (2 ^ w - b)) % 2 ^ w ≡ (a + (2 ^ w - b)) % 2 ^ w + s = omega arith in
    let parts : a + (2 ^ w - b) + s ≡ s + a + (2 ^ w - b) = omega arith in
    ap (λ n. n % 2 ^ w) turned ∙ mod-add-mod (a + (2 ^ w - b)) (2 ^ w) s ∙ ap (λ n. n % 2 ^ w) parts ∙ sym (mod-add-mod (s + a) (2 ^ w) (2 ^ w - b))

module _ (w n : ℕ) (of : ℕ → ℕ) (none : of 0 ≡ 0) (below : (x : ℕ) → of x < 2 ^ w) where
  -- the change with a row
  changed : (xs : List ℕ) (x : ℕ) → change_of of w n (xs ++ x ∷ []) ≡ difference_of w (of x) (lag_of itself n (map of xs ++ of x ∷ []))
  changed xs x =
      ap (λ k. difference_of w (of (number_or itself k)) (of (lag_of itself n (xs ++ x ∷ [])))) (ends_with xs x)
      ∙ ap (difference_of w (of x)) (sym (lag_map of none n (xs ++ x ∷ [])) ∙ ap (lag_of itself n) (map-append of xs (x ∷ [])))

  fits : (xs : List ℕ) (x : ℕ) → lag_of itself n (map of xs ++ of x ∷ []) < 2 ^ w
  fits xs x = subst (λ k. k < 2 ^ w) (sym (lag_map of none n (xs ++ x ∷ [])) ∙ ap (lag_of itself n) (map-append of xs (x ∷ []))) (below (lag_of itself n (xs ++ x ∷ [])))

  one_more : (xs : List ℕ) (x : ℕ) → sum_total w (framed (change_of of w n) xs) ≡ sum_total w (last_ones n (map of xs))
      → sum_total w (framed (change_of of w n) (xs ++ x ∷ [])) ≡ sum_total w (last_ones n (map of (xs ++ x ∷ [])))
  one_more xs x e =
      ap (sum_total w) (framed_more (change_of of w n) xs x)
      ∙ sum_one_more w (framed (change_of of w n) xs) (change_of of w n (xs ++ x ∷ []))
      ∙ ap (λ s. sum_of w s (change_of of w n (xs ++ x ∷ []))) e
      ∙ ap (sum_of w (sum_total w (last_ones n (map of xs)))) (changed xs x)
      ∙ moved w (sum_total w (last_ones n (map of xs))) (of x) (lag_of itself n (map of xs ++ of x ∷ []))
      ∙ sym (sums_slide w n (of x) (map of xs) (fits xs x))
      ∙ ap (λ l. sum_total w (last_ones n l)) (sym (map-append of xs (x ∷ [])))

  pub all_changes : (xs : List ℕ) → sum_total w (framed (change_of of w n) xs) ≡ sum_total w (last_ones n (map of xs))
  all_changes xs =
      by_rows (λ ys. sum_total w (framed (change_of of w n) ys) ≡ sum_total w (last_ones n (map of ys)))
      (sym (ap (sum_total w) (drop_all (0 - n) [] (omega arith)))) one_more xs

pub changes_sum : ChangesSum
changes_sum w n of none below xs = all_changes w n of none below xs

-- ---- the words of a width

-- a sum of what fits is that of all
pub sum_rests : (w : ℕ) (xs : List ℕ) → sum_total w (map (λ x. x % 2 ^ w) xs) ≡ sum_total w xs
unfolding sum_total
sum_rests w [] = refl
sum_rests w (x ∷ xs) =
    let rest : sum (map (λ y. y % 2 ^ w) xs) % 2 ^ w ≡ sum xs % 2 ^ w = sum_rests w xs in
    let left : sum (x % 2 ^ w ∷ map (λ y. y % 2 ^ w) xs) ≡ x % 2 ^ w + sum (map (λ y. y % 2 ^ w) xs) = sum_by-cons (λ z. z) (x % 2 ^ w) (map (λ y. y % 2 ^ w) xs) in
    let right : sum (x ∷ xs) ≡ x + sum xs = sum_by-cons (λ z. z) x xs in
    let turned : x + sum (map (λ y. y % 2 ^ w) xs) ≡ sum (map (λ y. y % 2 ^ w) xs) + x = omega arith in
    let back : sum xs + x ≡ x + sum xs = omega arith in
    ap (λ n. n % 2 ^ w) left ∙ mod-add-mod x (2 ^ w) (sum (map (λ y. y % 2 ^ w) xs)) ∙ ap (λ n. n % 2 ^ w) turned
    ∙ sym (mod-add-mod (sum (map (λ y. y % 2 ^ w) xs)) (2 ^ w) x) ∙ ap (λ n. (n + x) % 2 ^ w) rest ∙ mod-add-mod (sum xs) (2 ^ w) x
    ∙ ap (λ n. n % 2 ^ w) (back ∙ sym right)
