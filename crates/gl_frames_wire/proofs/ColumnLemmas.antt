-- Columns of frames: what a ring gives of a column, the sum of the last words, and the best of the last rows.
use Rattle.std.proofs.Common.{◌≡◌, ℕ, zero, suc, ◌-◌, ◌<◌, ◌≤◌, ◌^◌, ◌%◌, List, [], ◌∷◌, ◌++◌, Option, Some, None, Bool, true, false, length, take, refl, sym, ap, ◌∙◌, subst, arith}
use Rattle.std.specs.Prelude.{if◌then◌else◌, nat_eq, nat_le, nat_lt, sum}
use Rattle.std.proofs.Math.Nat.{zero-mod}
use Rattle.std.proofs.lemmas.Bool.{eqb-true, leb-false, leb-true, ltb-false}
use Rattle.std.proofs.lemmas.List.{append-nil, drop_all}
use Rattle.std.proofs.lemmas.Nat.{pow_pos}
use Rattle.gl_bits.proofs.Options.{some_same}
use Rattle.gl_values.specs.Totals.{sum_total}
use Rattle.gl_bits.specs.Words.{difference_of, sum_of}
use Rattle.gl_wire_lanes.specs.Keeping.{IsKept}
use Rattle.gl_wire_lanes.specs.Lanes.{Lane, row_in}
use Rattle.gl_frames.specs.Frames.{best_of, better_of, but_last, framed, lag_of, last_ones, number_or, row_before}
use Rattle.gl_frames.proofs.BestLemmas.{bests_overlap}
use Rattle.gl_frames.proofs.ListLemmas.{each_more}
use Rattle.gl_frames.specs.Laws.{RingsGiveEarlier, SumsSlide}
use Rattle.gl_frames_wire.specs.Laws.{BestsAreFramed, ColumnsAreFramed, GivesLag, LagsAreGiven, SumsAreFramed}
use Rattle.gl_frames_wire.specs.Since.{rows_here, rows_past, rows_since}
use Rattle.gl_frames_wire.proofs.RingLemmas.{none_in, one_in, rings_give, rings_tell}
use Rattle.gl_frames_wire.proofs.SinceLemmas.{slots_are}

-- ---- what is made of the rows so far, cycle by cycle

module _ {A B : Type 0} (f : List B → A) (over : ℕ → ℕ → Bool) (l : Lane) (row : ℕ → B) (made : ℕ → A) (no_row : l.valid 0 ≡ false)
    (h : (c : ℕ) → l.valid (suc c) ≡ true → made (suc c) ≡ f (rows_here over l row (suc c))) where
  one_more_row : (v : Bool) (xs : List B) (ys : List A) (x : B) (y : A) → ys ≡ framed f xs → (v ≡ true → y ≡ f (xs ++ x ∷ []))
      → ys ++ (if v then y ∷ [] else []) ≡ framed f (xs ++ (if v then x ∷ [] else []))
  one_more_row true xs ys x y e g = ap (λ zs. zs ++ y ∷ []) e ∙ ap (λ z. framed f xs ++ z ∷ []) (g refl) ∙ sym (each_more (λ zs. Some (f zs)) [] xs x)
  one_more_row false xs ys x y e g = append-nil ys ∙ e ∙ sym (ap (framed f) (append-nil xs))

  here_is : (c k : ℕ) → nat_eq (l.slot (suc c)) k ≡ true → l.valid (suc c) ≡ true → made (suc c) ≡ f (rows_since over l row k (suc c) ++ row (suc c) ∷ [])
  here_is c k s v =
      h c v ∙ ap (λ own. f (rows_past over l row (suc c) ++ own)) (one_in (l.valid (suc c)) (row (suc c)) v)
      ∙ ap (λ j. f (rows_since over l row j (suc c) ++ row (suc c) ∷ [])) (eqb-true (l.slot (suc c)) k s)

  framed_next : (e s : Bool) (xs ys : List B) (zs ws : List A) → (e ≡ false → s ≡ true → zs ≡ framed f xs) → (e ≡ false → s ≡ false → ws ≡ framed f ys)
      → (if e then [] else (if s then zs else ws)) ≡ framed f (if e then [] else (if s then xs else ys))
  framed_next true s xs ys zs ws p q = refl
  framed_next false true xs ys zs ws p q = p refl refl
  framed_next false false xs ys zs ws p q = q refl refl

  pub framed_since : (k c : ℕ) → rows_since over l made k c ≡ framed f (rows_since over l row k c)
  framed_since k zero = refl
  framed_since k (suc zero) = by (over 0 k) (nat_eq (l.slot 0) k) (row_in l row 0) (row_in l made 0) (none_in (l.valid 0) (row 0) no_row) (none_in (l.valid 0) (made 0) no_row)
    where
      by : (e s : Bool) (own : List B) (mine : List A) → own ≡ [] → mine ≡ [] → (if e then [] else (if s then [] ++ mine else [])) ≡ framed f (if e then [] else (if s then [] ++ own else []))
      by true s own mine p q = refl
      by false true own mine p q = q ∙ sym (ap (framed f) p)
      by false false own mine p q = refl
  framed_since k (suc (suc c)) =
      let xs : List B = rows_since over l row k (suc c) in
      let ih : rows_since over l made k (suc c) ≡ framed f xs = framed_since k (suc c) in
      split (over (suc c) k) (nat_eq (l.slot (suc c)) k) refl ih
    where
      split : (e s : Bool) → nat_eq (l.slot (suc c)) k ≡ s → rows_since over l made k (suc c) ≡ framed f (rows_since over l row k (suc c))
          → (if e then [] else (if s then rows_since over l made k (suc c) ++ row_in l made (suc c) else rows_since over l made k (suc c)))
          ≡ framed f (if e then [] else (if s then rows_since over l row k (suc c) ++ row_in l row (suc c) else rows_since over l row k (suc c)))
      split true s p ih = refl
      split false true p ih = one_more_row (l.valid (suc c)) (rows_since over l row k (suc c)) (rows_since over l made k (suc c)) (row (suc c)) (made (suc c)) ih (here_is c k p)
      split false false p ih = ih

  pub framed_here : (c : ℕ) → l.valid (suc c) ≡ true → rows_here over l made (suc c) ≡ framed f (rows_here over l row (suc c))
  framed_here c v =
      one_more_row (l.valid (suc c)) (rows_past over l row (suc c)) (rows_past over l made (suc c)) (row (suc c)) (made (suc c)) (framed_since (l.slot (suc c)) (suc c))
      (λ p. h c p ∙ ap (λ own. f (rows_past over l row (suc c) ++ own)) (one_in (l.valid (suc c)) (row (suc c)) p))

pub columns_framed : {A B : Type 0} → ColumnsAreFramed A B
columns_framed f over l row made no_row h k c = framed_since f over l row made no_row h k c

-- ---- lags

pub lags_given : {B : Type 0} → LagsAreGiven B
lags_given {B = B} size k over l row out many g c v = by (nat_le k (length (rows_past over l row (suc c)))) refl
  where
    by : (b : Bool) → nat_le k (length (rows_past over l row (suc c))) ≡ b → row_before k (rows_here over l row (suc c)) ≡ (if many (suc c) then Some (out (suc c)) else None)
    by true p =
        rings_give size k over l row g.place out g.some' g.few g.no_row g.ring g.places c v (leb-true k (length (rows_past over l row (suc c))) p)
        ∙ sym (ap (λ (b : Bool). if b then Some (out (suc c)) else None) (g.tells c v ∙ p))
    by false p =
        rings_tell k over l row c v (leb-false k (length (rows_past over l row (suc c))) p)
        ∙ sym (ap (λ (b : Bool). if b then Some (out (suc c)) else None) (g.tells c v ∙ p))

-- ---- sums

pub sum_none : (w k : ℕ) → sum_total w (last_ones k []) ≡ 0
unfolding sum_total
sum_none w k = ap (λ (xs : List ℕ). sum xs % 2 ^ w) (drop_all (0 - k) [] (omega arith)) ∙ zero-mod (2 ^ w)

pub sums_framed : SumsSlide → SumsAreFramed
sums_framed sums_slide w size k over l word out many before now opens g kept fits steps c v =
    (slots_are (λ xs. sum_total w (last_ones k xs)) over l word before now opens (subst (λ n. IsKept n l before now) (sym (sum_none w k)) kept) (record {
      with_row = λ d p e. steps d ∙ ap (λ (b : Bool). if b then difference_of w (sum_of w (before (suc d)) (word (suc d))) (if many (suc d) then out (suc d) else 0) else before (suc d)) p ∙ slid d p e;
      without = λ d p. steps d ∙ ap (λ (b : Bool). if b then difference_of w (sum_of w (before (suc d)) (word (suc d))) (if many (suc d) then out (suc d) else 0) else before (suc d)) p;
    }) c v).here
  where
    lag : (d : ℕ) → l.valid (suc d) ≡ true → lag_of (λ y. y) k (rows_past over l word (suc d) ++ word (suc d) ∷ []) ≡ (if many (suc d) then out (suc d) else 0)
    lag d p =
        ap (λ own. lag_of (λ y. y) k (rows_past over l word (suc d) ++ own)) (sym (one_in (l.valid (suc d)) (word (suc d)) p))
        ∙ ap (number_or (λ y. y)) (lags_given size k over l word out many g d p) ∙ chosen (many (suc d))
      where
        chosen : (b : Bool) → number_or (λ (y : ℕ). y) (if b then Some (out (suc d)) else None) ≡ (if b then out (suc d) else 0)
        chosen true = refl
        chosen false = refl

    small : (d : ℕ) → l.valid (suc d) ≡ true → (if many (suc d) then out (suc d) else 0) < 2 ^ w
    small d p = by (many (suc d))
      where
        by : (b : Bool) → (if b then out (suc d) else 0) < 2 ^ w
        by true = fits d p
        by false = pow_pos w

    slid : (d : ℕ) → l.valid (suc d) ≡ true → before (suc d) ≡ sum_total w (last_ones k (rows_past over l word (suc d)))
        → difference_of w (sum_of w (before (suc d)) (word (suc d))) (if many (suc d) then out (suc d) else 0) ≡ sum_total w (last_ones k (rows_here over l word (suc d)))
    slid d p e =
        let xs : List ℕ = rows_past over l word (suc d) in
        ap (λ s. difference_of w (sum_of w s (word (suc d))) (if many (suc d) then out (suc d) else 0)) e
        ∙ ap (difference_of w (sum_of w (sum_total w (last_ones k xs)) (word (suc d)))) (sym (lag d p))
        ∙ sym (sums_slide w k (word (suc d)) xs (subst (λ n. n < 2 ^ w) (sym (lag d p)) (small d p)))
        ∙ ap (λ own. sum_total w (last_ones k (xs ++ own))) (sym (one_in (l.valid (suc d)) (word (suc d)) p))

-- ---- extremes

-- what a ring gives of a column is what the column had so many rows before, and nothing where there were fewer
module _ {B : Type 0} (rings_earlier : RingsGiveEarlier B (Option B)) (of : List B → Option B) (none : of [] ≡ None) (size k : ℕ) (over : ℕ → ℕ → Bool) (l : Lane) (row : ℕ → B) (best out : ℕ → Option B) (many : ℕ → Bool)
    (g : GivesLag size k over l best out many) (is : (c : ℕ) → l.valid (suc c) ≡ true → best (suc c) ≡ of (rows_here over l row (suc c))) where
  short : (xs : List B) → length xs ≤ k → but_last k xs ≡ []
  short xs le = let e : length xs - k ≡ 0 = omega (arith, le) in ap (λ n. take n xs) e

  told : (xs : List B) (m : Bool) (o : Option B) (b : Bool) → nat_lt k (length xs) ≡ b
      → (if m then Some o else None) ≡ (if b then Some (of (but_last k xs)) else None) → (if m then o else None) ≡ of (but_last k xs)
  told xs true o true p e = some_same _ _ e
  told xs true o false p e = absurd (cc)
  told xs false o true p e = absurd (cc)
  told xs false o false p e = sym (ap of (short xs (ltb-false k (length xs) p)) ∙ none)

  pub earlier : (c : ℕ) → l.valid (suc c) ≡ true → (if many (suc c) then out (suc c) else None) ≡ of (but_last k (rows_here over l row (suc c)))
  earlier c v =
      let xs : List B = rows_here over l row (suc c) in
      told xs (many (suc c)) (out (suc c)) (nat_lt k (length xs)) refl
      (sym (lags_given size k over l best out many g c v) ∙ ap (row_before k) (framed_here of over l row best g.no_row is c v) ∙ rings_earlier of k xs)

pub bests_framed : {B : Type 0} → RingsGiveEarlier B (Option B) → BestsAreFramed B
bests_framed {B = B} rings_earlier op choice size n p over l row best out many le far g is c v =
    let xs : List B = rows_here over l row (suc c) in
    let none : best_of op (last_ones p []) ≡ None = ap (best_of op) (drop_all (0 - p) [] (omega arith)) in
    ap (λ o. better_of op o (best (suc c))) (earlier rings_earlier (λ ys. best_of op (last_ones p ys)) none size (n - p) over l row best out many g is c v)
    ∙ ap (better_of op (best_of op (last_ones p (but_last (n - p) xs)))) (is c v) ∙ sym (bests_overlap op choice n p xs le far)
