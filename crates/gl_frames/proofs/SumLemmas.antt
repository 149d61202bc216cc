-- A sum over the last words of a list goes on by the word that comes and the one that leaves.
use Rattle.std.proofs.Common.{◌≡◌, ℕ, zero, suc, ◌+◌, ◌-◌, ◌%◌, ◌^◌, ◌<◌, List, [], ◌∷◌, ◌++◌, Some, None, Bool, true, false, length, take, drop, refl, sym, ap, ◌∙◌, arith}
use Rattle.std.specs.Prelude.{sum, map, filter, reverse, slice_get, if◌then◌else◌}
use Rattle.std.proofs.Math.Nat.{add-mod_right, mod-add-mod}
use Rattle.std.proofs.lemmas.List.{drop-map, length-map, reverse-append}
use Rattle.std.proofs.lemmas.List.Sums.{sum_by-append, sum_by-cons}
use Rattle.gl_values.specs.Totals.{count_of, sum_total}
use Rattle.gl_bits.specs.Words.{difference_of, sum_of}
use Rattle.gl_frames.specs.Frames.{lag_of, last_ones, number_or}
use Rattle.gl_frames.specs.Laws.{CountsAreSums, FiltersAreMasks, SumsSlide, masked}
use Rattle.gl_frames.proofs.ListLemmas.{last_is, one_more}

sum_cons : (x : ℕ) (xs : List ℕ) → sum (x ∷ xs) ≡ x + sum xs
sum_cons x xs = sum_by-cons (λ y. y) x xs

sum_reverse : (xs : List ℕ) → sum (reverse xs) ≡ sum xs
sum_reverse [] = refl
sum_reverse (x ∷ xs) =
    let more : reverse (x ∷ xs) ≡ reverse xs ++ x ∷ [] = turned x xs in
    let e : sum (reverse xs ++ x ∷ []) ≡ sum (reverse xs) + sum (x ∷ []) = sum_by-append (λ y. y) (reverse xs) (x ∷ []) in
    let one : sum (x ∷ []) ≡ x + sum [] = sum_cons x [] in
    let none : sum [] ≡ 0 = refl in
    ap sum more ∙ omega (arith, e, one, none, sum_reverse xs, sum_cons x xs)
  where
    turned : (y : ℕ) (ys : List ℕ) → reverse (y ∷ ys) ≡ reverse ys ++ y ∷ []
    turned y ys = reverse-append (y ∷ []) ys

-- so many words and the next one
one_further : (n : ℕ) (h : List ℕ) → sum (take n h) + number_or (λ y. y) (slice_get h n) ≡ sum (take (suc n) h)
one_further zero [] = refl
one_further (suc n) [] = refl
one_further zero (x ∷ h) = let e = sum_cons x [] in let none : sum [] ≡ 0 = refl in omega (arith, e, none)
one_further (suc n) (x ∷ h) = omega (arith, one_further n h, sum_cons x (take n h), sum_cons x (take (suc n) h))

slides : (w a b x y : ℕ) → y < 2 ^ w → a + y ≡ x + b → a % 2 ^ w ≡ difference_of w (sum_of w (b % 2 ^ w) x) y
unfolding sum_of difference_of
slides w a b x y fits e =
    let far : b + x + (2 ^ w - y) ≡ a + 2 ^ w = omega (arith, fits, e) in
    sym (ap (λ n. (n + (2 ^ w - y)) % 2 ^ w) (mod-add-mod b (2 ^ w) x) ∙ mod-add-mod (b + x) (2 ^ w) (2 ^ w - y)
    ∙ ap (λ n. n % 2 ^ w) far ∙ add-mod_right a (2 ^ w))

pub sums_slide : SumsSlide
unfolding sum_total
sums_slide w n x xs fits = slides w (sum (last_ones n (xs ++ x ∷ []))) (sum (last_ones n xs)) x (lag_of (λ y. y) n (xs ++ x ∷ [])) fits moved
  where
    moved : sum (last_ones n (xs ++ x ∷ [])) + lag_of (λ y. y) n (xs ++ x ∷ []) ≡ x + sum (last_ones n xs)
    moved =
        let h : List ℕ = reverse xs in
        let a : sum (last_ones n (xs ++ x ∷ [])) ≡ sum (take n (x ∷ h)) = ap sum (last_is n (xs ++ x ∷ [])) ∙ sum_reverse (take n (reverse (xs ++ x ∷ []))) ∙ ap (λ l. sum (take n l)) (one_more xs x) in
        let b : sum (last_ones n xs) ≡ sum (take n h) = ap sum (last_is n xs) ∙ sum_reverse (take n h) in
        let y : lag_of (λ z. z) n (xs ++ x ∷ []) ≡ number_or (λ z. z) (slice_get (x ∷ h) n) = ap (λ l. number_or (λ z. z) (slice_get l n)) (one_more xs x) in
        omega (arith, a, b, y, one_further n (x ∷ h), sum_cons x (take n h))

sum_masked : {A : Type 0} (value : A → ℕ) (passes : A → Bool) (xs : List A) → sum (map value (filter passes xs)) ≡ sum (map (masked value passes) xs)
sum_masked value passes [] = refl
sum_masked {A = A} value passes (x ∷ xs) = by (passes x) (sum_masked value passes xs) ∙ sym (sum_cons (masked value passes x) (map (masked value passes) xs))
  where
    by : (b : Bool) → sum (map value (filter passes xs)) ≡ sum (map (masked value passes) xs)
        → sum (map value (if b then x ∷ filter passes xs else filter passes xs)) ≡ (if b then value x else 0) + sum (map (masked value passes) xs)
    by true h = sum_cons (value x) (map value (filter passes xs)) ∙ omega (arith, h)
    by false h = omega (arith, h)

pub last_map : {A B : Type 0} (n : ℕ) (f : A → B) (xs : List A) → last_ones n (map f xs) ≡ map f (last_ones n xs)
last_map n f xs = ap (λ k. drop (k - n) (map f xs)) (length-map xs f) ∙ drop-map f (length xs - n) xs

pub filters_mask : {A : Type 0} → FiltersAreMasks A
unfolding sum_total
filters_mask w None value passes xs = ap (λ s. s % 2 ^ w) (sum_masked value passes xs)
filters_mask w (Some k) value passes xs =
    ap (λ s. s % 2 ^ w) (sum_masked value passes (last_ones (suc k) xs))
    ∙ ap (λ l. sum l % 2 ^ w) (sym (last_map (suc k) (masked value passes) xs))

sum_ones : {A : Type 0} (xs : List A) → length xs ≡ sum (map (λ (x : A). 1) xs)
sum_ones [] = refl
sum_ones {A = A} (x ∷ xs) = omega (arith, sum_ones xs, sum_cons 1 (map (λ (y : A). 1) xs))

pub counts_sum : {A : Type 0} → CountsAreSums A
unfolding sum_total count_of
counts_sum xs = ap (λ n. n % 2 ^ 32) (sum_ones xs)
