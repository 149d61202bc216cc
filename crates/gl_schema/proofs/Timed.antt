-- The times and places of the rows that beats bring.
use Rattle.std.proofs.Common.{◌≡◌, ℕ, suc, ◌+◌, ◌≤◌, List, [], ◌∷◌, length, Option, Some, None, refl, ap, arith}
use Rattle.std.specs.Prelude.{option_map}
use Rattle.std.specs.List.{AllByRecursion, cons_option}
use Rattle.gl_bits.proofs.AllLists.{all_weaker}
use Rattle.gl_bits.specs.Words.{bit}
use Rattle.gl_schema.specs.Beats.{AreInOrder, Beat, Beats, HavePlaces, HaveTimes, NeverFall, input_of, inputs_of, places_of, row_in, ticks_of, times_from}

-- one row more, or none
long_cons : (o : Option (List ℕ)) (t : ℕ) (ts : List ℕ) (rows : List (List ℕ)) → length ts ≡ length rows → length (cons_option (option_map (λ row. t) o) ts) ≡ length (cons_option o rows)
long_cons None t ts rows e = e
long_cons (Some r) t ts rows e = ap suc e

all_cons : (P : ℕ → Type 0) (o : Option (List ℕ)) (t : ℕ) (ts : List ℕ) → P t → AllByRecursion P ts → AllByRecursion P (cons_option (option_map (λ row. t) o) ts)
all_cons P None t ts h hs = hs
all_cons P (Some r) t ts h hs = (h, hs)

never_cons : (o : Option (List ℕ)) (t : ℕ) (ts : List ℕ) → AllByRecursion (λ s. t ≤ s) ts → NeverFall ts → NeverFall (cons_option (option_map (λ row. t) o) ts)
never_cons None t ts low h = h
never_cons (Some r) t ts low h = (low, h)

times_long : (before k : ℕ) (bs : List Beat) → length (times_from before k bs) ≡ length (input_of k bs)
times_long before k [] = refl
times_long before k (b ∷ bs) =
    let now = before + bit b.tick in
    long_cons (row_in k b) now (times_from now k bs) (input_of k bs) (times_long now k bs)

-- no time is below the ticks before
times_low : (before k : ℕ) (bs : List Beat) → AllByRecursion (λ t. before ≤ t) (times_from before k bs)
times_low before k [] = tt
times_low before k (b ∷ bs) =
    let now = before + bit b.tick in
    all_cons (λ t. before ≤ t) (row_in k b) now (times_from now k bs) (omega arith)
    (all_weaker (λ t. now ≤ t) (λ t. before ≤ t) (λ t h. omega (arith, h)) (times_from now k bs) (times_low now k bs))

times_order : (before k : ℕ) (bs : List Beat) → NeverFall (times_from before k bs)
times_order before k [] = tt
times_order before k (b ∷ bs) =
    let now = before + bit b.tick in
    never_cons (row_in k b) now (times_from now k bs) (times_low now k bs) (times_order now k bs)

-- and none is above those of all
times_high : (before k : ℕ) (bs : List Beat) → AllByRecursion (λ t. t ≤ before + ticks_of bs) (times_from before k bs)
times_high before k [] = tt
times_high before k (b ∷ bs) =
    let now = before + bit b.tick in
    let all = before + (bit b.tick + ticks_of bs) in
    all_cons (λ t. t ≤ all) (row_in k b) now (times_from now k bs) (omega arith)
    (all_weaker (λ t. t ≤ now + ticks_of bs) (λ t. t ≤ all) (λ t h. omega (arith, h)) (times_from now k bs) (times_high now k bs))

pub have_times : (beats : Beats) → HaveTimes (inputs_of beats)
have_times beats =
    let all = beats.list in
    record {
      each = λ k. times_long 0 k all;
      order = λ k. times_order 0 k all;
      last = λ k. all_weaker (λ t. t ≤ 0 + ticks_of all) (λ t. t ≤ ticks_of all) (λ t h. omega (arith, h)) (times_from 0 k all) (times_high 0 k all);
    }

-- ---- places

pub places_long : (k : ℕ) (bs : List Beat) → length (places_of k bs) ≡ length (input_of k bs)
places_long k [] = refl
places_long k (b ∷ bs) = long_cons (row_in k b) b.cycle (places_of k bs) (input_of k bs) (places_long k bs)

-- no place is below the cycle of a beat before
places_above : (k : ℕ) (b : Beat) (bs : List Beat) → AreInOrder (b ∷ bs) → AllByRecursion (λ p. b.cycle ≤ p) (places_of k bs)
places_above k b [] h = tt
places_above k b (c ∷ bs) h =
    all_cons (λ p. b.cycle ≤ p) (row_in k c) c.cycle (places_of k bs) (omega (arith, h.1))
    (all_weaker (λ p. c.cycle ≤ p) (λ p. b.cycle ≤ p) (λ p le. omega (arith, h.1, le)) (places_of k bs) (places_above k c bs h.2))

places_order : (k : ℕ) (bs : List Beat) → AreInOrder bs → NeverFall (places_of k bs)
places_order k [] h = tt
places_order k (b ∷ []) h = never_cons (row_in k b) b.cycle [] tt tt
places_order k (b ∷ c ∷ bs) h =
    never_cons (row_in k b) b.cycle (places_of k (c ∷ bs)) (places_above k b (c ∷ bs) h) (places_order k (c ∷ bs) h.2)

pub have_places : (beats : Beats) → AreInOrder beats.list → HavePlaces (inputs_of beats)
have_places beats h =
    record { each = λ k. places_long k beats.list; order = λ k. places_order k beats.list h }
