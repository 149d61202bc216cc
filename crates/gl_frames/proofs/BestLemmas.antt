-- The best of windows that meet or overlap is the best of them together.
use Rattle.std.proofs.Common.{◌≡◌, ℕ, ◌+◌, ◌-◌, ◌≤◌, List, [], ◌∷◌, ◌++◌, Option, Some, None, Bool, true, false, take, drop, refl, sym, ap, ◌∙◌, arith, drop-drop}
use Rattle.std.specs.Prelude.{ℤ, fold, reverse, int_lt, if◌then◌else◌}
use Rattle.std.proofs.Math.Seq.{take-add}
use Rattle.std.proofs.lemmas.Int.{ints}
use Rattle.std.proofs.lemmas.List.{reverse-append, reverse-reverse}
use Rattle.std.proofs.lemmas.List.Sums.{fold-append}
use Rattle.gl_values.specs.declared.kind.Kind.{Kind}
use Rattle.gl_values.specs.Kinds.{number_of}
use Rattle.gl_values.specs.Totals.{greater, greatest_of, least_of, lesser}
use Rattle.gl_frames.specs.Frames.{IsChoice, best_of, better_of, but_last, last_ones, number_or}
use Rattle.gl_frames.specs.Laws.{BestsMeet, BestsOverlap, ExtremesAreBests}
use Rattle.gl_frames.proofs.ListLemmas.{but_last_is, last_is}

module _ {A : Type 0} (op : A → A → A) (c : IsChoice op) where
  fold_from : (a y : A) (ys : List A) → fold op (op a y) ys ≡ op a (fold op y ys)
  fold_from a y [] = refl
  fold_from a y (z ∷ ys) = ap (λ b. fold op b ys) (c.together a y z) ∙ fold_from a (op y z) ys

  pub best_append : (xs ys : List A) → best_of op (xs ++ ys) ≡ better_of op (best_of op xs) (best_of op ys)
  best_append [] ys = refl
  best_append (x ∷ xs) [] = ap Some (fold-append op x xs [])
  best_append (x ∷ xs) (y ∷ ys) = ap Some (fold-append op x xs (y ∷ ys) ∙ fold_from (fold op x xs) y ys)

  twice : (x y z : Option A) → better_of op x (better_of op y z) ≡ better_of op (better_of op x y) (better_of op y z)
  twice None None z = refl
  twice None (Some y) None = ap Some (sym (c.once y))
  twice None (Some y) (Some z) = ap Some (ap (λ a. op a z) (sym (c.once y)) ∙ c.together y y z)
  twice (Some x) None z = refl
  twice (Some x) (Some y) None = ap Some (ap (op x) (sym (c.once y)) ∙ sym (c.together x y y))
  twice (Some x) (Some y) (Some z) = ap Some (ap (λ a. op x (op a z)) (sym (c.once y)) ∙ ap (op x) (c.together y y z) ∙ sym (c.together x y (op y z)))

  -- the last p + q rows are q of those up to p before, and p
  parted : (p q : ℕ) (xs : List A) → last_ones (p + q) xs ≡ last_ones q (but_last p xs) ++ last_ones p xs
  parted p q xs =
      let h : List A = reverse xs in
      last_is (p + q) xs ∙ ap reverse (take-add p q h) ∙ reverse-append (take p h) (take q (drop p h))
      ∙ ap (λ l. reverse (take q l) ++ reverse (take p h)) (sym (reverse-reverse (drop p h)))
      ∙ ap (λ l. reverse (take q (reverse l)) ++ reverse (take p h)) (sym (but_last_is p xs))
      ∙ ap (λ l. l ++ reverse (take p h)) (sym (last_is q (but_last p xs)))
      ∙ ap (λ l. last_ones q (but_last p xs) ++ l) (sym (last_is p xs))

  pub bests_meet : (p q : ℕ) (xs : List A) → best_of op (last_ones (p + q) xs) ≡ better_of op (best_of op (last_ones q (but_last p xs))) (best_of op (last_ones p xs))
  bests_meet p q xs = ap (best_of op) (parted p q xs) ∙ best_append (last_ones q (but_last p xs)) (last_ones p xs)

  -- rows before rows
  further_back : (p q : ℕ) (xs : List A) → but_last q (but_last p xs) ≡ but_last (p + q) xs
  further_back p q xs =
      let h : List A = reverse xs in
      but_last_is q (but_last p xs) ∙ ap (λ l. reverse (drop q (reverse l))) (but_last_is p xs) ∙ ap (λ l. reverse (drop q l)) (reverse-reverse (drop p h))
      ∙ ap reverse (drop-drop q p h) ∙ sym (but_last_is (p + q) xs)

  pub bests_overlap : (n p : ℕ) (xs : List A) → p ≤ n → n ≤ p + p
      → best_of op (last_ones n xs) ≡ better_of op (best_of op (last_ones p (but_last (n - p) xs))) (best_of op (last_ones p xs))
  bests_overlap n p xs le far =
      let q : ℕ = n - p in
      let r : ℕ = p - q in
      let whole : n ≡ p + q = omega (arith, le) in
      let left : p ≡ r + q = omega (arith, le, far) in
      let right : p ≡ q + r = omega (arith, le, far) in
      let back : q + r ≡ p = omega (arith, le, far) in
      let x : Option A = best_of op (last_ones q (but_last p xs)) in
      let y : Option A = best_of op (last_ones r (but_last q xs)) in
      let z : Option A = best_of op (last_ones q xs) in
      let late : best_of op (last_ones p xs) ≡ better_of op y z = ap (λ k. best_of op (last_ones k xs)) right ∙ bests_meet q r xs in
      let early : best_of op (last_ones p (but_last q xs)) ≡ better_of op x y =
      ap (λ k. best_of op (last_ones k (but_last q xs))) left ∙ bests_meet r q (but_last q xs)
      ∙ ap (λ l. better_of op (best_of op (last_ones q l)) y) (further_back q r xs ∙ ap (λ k. but_last k xs) back) in
      ap (λ k. best_of op (last_ones k xs)) whole ∙ bests_meet p q xs ∙ ap (better_of op x) late ∙ twice x y z
      ∙ ap (λ o. better_of op o (better_of op y z)) (sym early) ∙ ap (better_of op (best_of op (last_ones p (but_last q xs)))) (sym late)

pub meets : {A : Type 0} → BestsMeet A
meets op c p q xs = bests_meet op c p q xs

pub overlaps : {A : Type 0} → BestsOverlap A
overlaps op c n p xs le far = bests_overlap op c n p xs le far

-- ---- the extremes of a kind

kept : {A : Type 0} (b : Bool) (x : A) → (if b then x else x) ≡ x
kept true x = refl
kept false x = refl

-- three numbers: which of two is below, told by truth values
chosen : (f : ℕ → ℤ) (x y z : ℕ) (a b d : Bool) → int_lt (f y) (f x) ≡ a → int_lt (f z) (f y) ≡ b → int_lt (f z) (f x) ≡ d
    → (if (if a then b else d) then z else (if a then y else x)) ≡ (if (if b then d else a) then (if b then z else y) else x)
chosen f x y z true true true p q r = refl
chosen f x y z true true false p q r = absurd (grind (arith, ints))
chosen f x y z true false true p q r = refl
chosen f x y z true false false p q r = refl
chosen f x y z false true true p q r = refl
chosen f x y z false true false p q r = refl
chosen f x y z false false true p q r = absurd (grind (arith, ints))
chosen f x y z false false false p q r = refl

pushed : {A C : Type 0} (g : A → C) (b : Bool) (x y : A) → g (if b then x else y) ≡ (if b then g x else g y)
pushed g true x y = refl
pushed g false x y = refl

-- to keep the second of two exactly where f puts it below the first is such a choice
least_by : (f : ℕ → ℤ) → IsChoice (λ x y. if int_lt (f y) (f x) then y else x)
least_by f = record {
  together = λ x y z.
      let a : Bool = int_lt (f y) (f x) in
      let b : Bool = int_lt (f z) (f y) in
      let d : Bool = int_lt (f z) (f x) in
      ap (λ (t : Bool). if t then z else (if a then y else x)) (pushed (λ (v : ℕ). int_lt (f z) (f v)) a y x)
      ∙ chosen f x y z a b d refl refl refl
      ∙ sym (ap (λ (t : Bool). if t then (if b then z else y) else x) (pushed (λ (v : ℕ). int_lt (f v) (f x)) b z y));
  once = λ x. kept (int_lt (f x) (f x)) x;
}

chosen_up : (f : ℕ → ℤ) (x y z : ℕ) (a b d : Bool) → int_lt (f x) (f y) ≡ a → int_lt (f y) (f z) ≡ b → int_lt (f x) (f z) ≡ d
    → (if (if a then b else d) then z else (if a then y else x)) ≡ (if (if b then d else a) then (if b then z else y) else x)
chosen_up f x y z true true true p q r = refl
chosen_up f x y z true true false p q r = absurd (grind (arith, ints))
chosen_up f x y z true false true p q r = refl
chosen_up f x y z true false false p q r = refl
chosen_up f x y z false true true p q r = refl
chosen_up f x y z false true false p q r = refl
chosen_up f x y z false false true p q r = absurd (grind (arith, ints))
chosen_up f x y z false false false p q r = refl

greatest_by : (f : ℕ → ℤ) → IsChoice (λ x y. if int_lt (f x) (f y) then y else x)
greatest_by f = record {
  together = λ x y z.
      let a : Bool = int_lt (f x) (f y) in
      let b : Bool = int_lt (f y) (f z) in
      let d : Bool = int_lt (f x) (f z) in
      ap (λ (t : Bool). if t then z else (if a then y else x)) (pushed (λ (v : ℕ). int_lt (f v) (f z)) a y x)
      ∙ chosen_up f x y z a b d refl refl refl
      ∙ sym (ap (λ (t : Bool). if t then (if b then z else y) else x) (pushed (λ (v : ℕ). int_lt (f x) (f v)) b z y));
  once = λ x. kept (int_lt (f x) (f x)) x;
}

least_is : (kind : Kind) (xs : List ℕ) → least_of kind xs ≡ number_or (λ x. x) (best_of (lesser kind) xs)
unfolding least_of
least_is kind [] = refl
least_is kind (x ∷ xs) = refl

greatest_is : (kind : Kind) (xs : List ℕ) → greatest_of kind xs ≡ number_or (λ x. x) (best_of (greater kind) xs)
unfolding greatest_of
greatest_is kind [] = refl
greatest_is kind (x ∷ xs) = refl

pub extremes : ExtremesAreBests
extremes = record {
  lesser_chooses = λ kind. least_by (number_of kind);
  greater_chooses = λ kind. greatest_by (number_of kind);
  least = least_is;
  greatest = greatest_is;
}
