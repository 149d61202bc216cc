-- The last values that are kept: one that a signal gets, and one that is lacking.
use Rattle.std.proofs.Common.{◌≡◌, ℕ, zero, suc, ◌+◌, ◌^◌, ◌<◌, ◌≤◌, inl, inr, Bool, true, false, not, List, [], ◌∷◌, ◌++◌, length, map, get_or, Option, Some, None, Ok, Err, refl, sym, ap, subst, ◌∙◌, arith, le-leb}
use Rattle.std.specs.Prelude.{◌⊎◌, ◌&&◌, ◌||◌, bytes_eq, codes, is_none, is_some, nat_eq, nat_lt, option_map, position, replicate, slice_get, slice_set, unwrap_or, if◌then◌else◌}
use Rattle.std.specs.List.{list_any}
use Rattle.std.specs.Vec.{with_item}
use Rattle.std.proofs.Math.ListN.{length-set}
use Rattle.std.proofs.lemmas.Bool.{and_left, and_right, cases_eq, cond-false, cond-true, eqb-true, ltb-true}
use Rattle.std.proofs.lemmas.Bool.Decides.{eqb_tells}
use Rattle.gl_bits.specs.Words.{Word}
use Rattle.gl_bits.proofs.AllLists.{all_append, get_mapped, length_map}
use Rattle.gl_bits.proofs.Options.{some_same}
use Rattle.gl_bits.proofs.Places.{place_step}
use Rattle.gl_vcd.specs.declared.changing.Changing.{Changing}
use Rattle.gl_vcd.specs.declared.changing.Waiting.TheVariants.{Change as NoneBegun}
use Rattle.gl_vcd.specs.declared.fault.VcdFault.TheVariants.{Syntax, TooWide, UnknownSignal}
use Rattle.gl_vcd.specs.declared.signals.Signal.{Signal as Here}
use Rattle.gl_vcd.specs.Reading.{Reading, Stage, begun, by_byte, change_next, end_by, end_of, given, given_at, given_in, given_to, is, is_between, next, next_at, with_change}
use Rattle.gl_vcd.specs.Tokens.{Token}
use Rattle.gl_vcd.specs.Signals.{Change, Signal, all_given, given_from, number_of_code, value_at}
use Rattle.gl_vcd.specs.Standing.{HaveRoom, Holds, bits_in, now_of, signal_of}
use Rattle.gl_vcd.proofs.Values.{given_all, given_append}

-- ---- places

get_here : {X : Type 0} (xs : List X) (i : ℕ) (x : X) → i < length xs → x ≡ get_or xs i x → slice_get xs i ≡ Some x
get_here [] i x lt e = absurd (omega (arith, lt))
get_here (y ∷ xs) zero x lt e = ap Some (sym e)
get_here (y ∷ xs) (suc i) x lt e = get_here xs i x (omega (arith, lt)) e

pub place_below : {X : Type 0} (p : X → Bool) (xs : List X) (k : ℕ) → position p xs ≡ Some k → k < length xs
place_below p [] k found = absurd cc
place_below p (x ∷ xs) k found = by (p x) (position p xs) (place_below p xs) (sym (place_step p x xs) ∙ found)
  where
    by : (b : Bool) (o : Option ℕ) → ((m : ℕ) → o ≡ Some m → m < length xs) → (if b then Some 0 else option_map (λ m. m + 1) o) ≡ Some k → k < suc (length xs)
    by true o rest h = let same : 0 ≡ k = some_same 0 k h in omega (arith, same)
    by false None rest h = absurd cc
    by false (Some m) rest h = let same : m + 1 ≡ k = some_same (m + 1) k h in omega (arith, same, rest m refl)

-- the signal that stands at the place of an identifier
signal_here : (list : List Here) (n : ℕ) (x : Here) → n < length list → x ≡ get_or list n x → slice_get (map signal_of list) n ≡ Some (signal_of x)
signal_here list n x lt is = get_mapped signal_of list n x (get_here list n x lt is)

-- and of the one that was found
pub code_here : (list : List Here) (code : List ℕ) (o : Option ℕ) (n : ℕ) (x : Here) → o ≡ number_of_code (map signal_of list) code → o ≡ Some n → x ≡ get_or list n x
    → slice_get (map signal_of list) n ≡ Some (signal_of x)
code_here list code o n x e is there =
    let lt = place_below (λ (s : Signal). bytes_eq s.code code) (map signal_of list) n (sym e ∙ is) in
    signal_here list n x (omega (arith, lt, length_map signal_of list)) there

pub some_time : (o : Option ℕ) → is_some o ≡ true → (t : ℕ) × (o ≡ Some t)
some_time None h = absurd cc
some_time (Some t) h = (t, refl)

-- ---- what is said of a change

module _ (r : Reading) (at value : ℕ) (code : List ℕ) where
  pub given_early : r.time ≡ None → given r at value code ≡ Err (Syntax at)
  given_early e = ap (λ (o : Option ℕ). given_in r o at value code) e

  by_number : (time : ℕ) → r.time ≡ Some time → given r at value code ≡ given_at r time at value (number_of_code r.signals code)
  by_number time e = ap (λ (o : Option ℕ). given_in r o at value code) e

  pub given_unknown : (time : ℕ) → r.time ≡ Some time → number_of_code r.signals code ≡ None → given r at value code ≡ Err (UnknownSignal at)
  given_unknown time e none = by_number time e ∙ ap (given_at r time at value) none

  by_signal : (time number : ℕ) (s : Signal) → r.time ≡ Some time → number_of_code r.signals code ≡ Some number → slice_get r.signals number ≡ Some s
      → given r at value code ≡ (if nat_lt value (2 ^ s.width) then Ok (with_change r (record { time = time; signal = number; value = value })) else Err (TooWide at))
  by_signal time number s e found here = by_number time e ∙ ap (given_at r time at value) found ∙ ap (given_to r time at value number) here

  pub given_wide : (time number : ℕ) (s : Signal) → r.time ≡ Some time → number_of_code r.signals code ≡ Some number → slice_get r.signals number ≡ Some s
      → nat_lt value (2 ^ s.width) ≡ false → given r at value code ≡ Err (TooWide at)
  given_wide time number s e found here wide = by_signal time number s e found here ∙ cond-false (nat_lt value (2 ^ s.width)) _ _ wide

  pub given_fits : (time number : ℕ) (s : Signal) → r.time ≡ Some time → number_of_code r.signals code ≡ Some number → slice_get r.signals number ≡ Some s
      → nat_lt value (2 ^ s.width) ≡ true → given r at value code ≡ Ok (with_change r (record { time = time; signal = number; value = value }))
  given_fits time number s e found here fits = by_signal time number s e found here ∙ cond-true (nat_lt value (2 ^ s.width)) _ _ fits

-- a word that has room, or none
pub word_is : (b : Bool) (v w : ℕ) (x : Word) → Some x ≡ (if b then Some (record { bits = v; width = w }) else None) → (b ≡ true) × (x.bits ≡ v)
word_is true v w x h = (refl, ap (λ (y : Word). y.bits) (some_same x (record { bits = v; width = w }) h))
word_is false v w x h = absurd cc

pub word_none : (b : Bool) (v w : ℕ) → ◌≡◌ {A = Option Word} None (if b then Some (record { bits = v; width = w }) else None) → b ≡ false
word_none true v w h = absurd cc
word_none false v w h = refl

-- ---- a value that is set

set_same : (values : List (Option Word)) (n : ℕ) (w : Word) → n < length values → bits_in (slice_set values n (Some w)) n ≡ Some w.bits
set_same [] n w lt = absurd (omega (arith, lt))
set_same (v ∷ values) zero w lt = refl
set_same (v ∷ values) (suc n) w lt = set_same values n w (omega (arith, lt))

set_other : (values : List (Option Word)) (n i : ℕ) (w : Word) → (n ≡ i → ⊥) → bits_in (slice_set values n (Some w)) i ≡ bits_in values i
set_other [] n i w ne = refl
set_other (v ∷ values) zero zero w ne = absurd (ne refl)
set_other (v ∷ values) zero (suc i) w ne = refl
set_other (v ∷ values) (suc n) zero w ne = refl
set_other (v ∷ values) (suc n) (suc i) w ne = set_other values n i w (λ e. ne (ap (λ (m : ℕ). suc m) e))

bits_set : (values : List (Option Word)) (n i : ℕ) (w : Word) → n < length values → bits_in (slice_set values n (Some w)) i ≡ (if nat_eq n i then Some w.bits else bits_in values i)
bits_set values n i w lt = by (eqb_tells n i)
  where
    by : ((nat_eq n i ≡ true) × (n ≡ i)) ⊎ ((nat_eq n i ≡ false) × (n ≡ i → ⊥)) → bits_in (slice_set values n (Some w)) i ≡ (if nat_eq n i then Some w.bits else bits_in values i)
    by (inl p) = ap (bits_in (slice_set values n (Some w))) (sym p.1) ∙ set_same values n w lt ∙ sym (cond-true (nat_eq n i) (Some w.bits) (bits_in values i) p.0)
    by (inr p) = set_other values n i w p.1 ∙ sym (cond-false (nat_eq n i) (Some w.bits) (bits_in values i) p.0)

value_push : (cs : List Change) (time n v i now : ℕ) → time ≤ now → value_at (cs ++ record { time = time; signal = n; value = v } ∷ []) i now ≡ (if nat_eq n i then Some v else value_at cs i now)
unfolding value_at
value_push cs time n v i now le =
    given_append None cs (record { time = time; signal = n; value = v } ∷ []) i now
    ∙ ap (λ (b : Bool). if nat_eq n i && b then Some v else given_from None cs i now) (le-leb time now le)
    ∙ by (nat_eq n i)
  where
    by : (b : Bool) → (if b && true then Some v else given_from None cs i now) ≡ (if b then Some v else given_from None cs i now)
    by true = refl
    by false = refl

pub kept : (r : Reading) (c : Changing) (time n value : ℕ) (w : Word) → Holds r c → r.time ≡ Some time → n < length c.values.items → w.bits ≡ value
    → Holds (with_change r (record { time = time; signal = n; value = value })) (record c { values = with_item c.values n (Some w); waits = NoneBegun })
kept r c time n value w h come lt same =
    let now : now_of r ≡ time = ap (λ (o : Option ℕ). unwrap_or o 0) come in
    let change : Change = record { time = time; signal = n; value = value } in
    record {
      signals' = h.signals';
      time' = h.time';
      early = all_append (λ (x : Change). x.time ≤ now_of r) r.changes (change ∷ []) h.early (omega (arith, now), tt);
      late = h.late;
      values' = λ i below.
          bits_set c.values.items n i w lt
          ∙ ap (λ (v : ℕ). if nat_eq n i then Some v else bits_in c.values.items i) same
          ∙ ap (λ (o : Option ℕ). if nat_eq n i then Some value else o) (h.values' i (let size = length-set c.values.items n (Some w) in omega (arith, below, size)))
          ∙ sym (value_push r.changes time n value i (now_of r) (omega (arith, now)));
    }

pub room_set : (signals : List Signal) (values : List (Option Word)) (n : ℕ) (s : Signal) (w : Word) → n < length values → slice_get signals n ≡ Some s → nat_lt w.bits (2 ^ s.width) ≡ true
    → HaveRoom signals values → HaveRoom signals (slice_set values n (Some w))
room_set signals values n s w lt here fits room i v x there is = by (nat_eq n i) refl (sym (bits_set values n i w lt) ∙ is)
  where
    by : (b : Bool) → nat_eq n i ≡ b → (if b then Some w.bits else bits_in values i) ≡ Some v → v < 2 ^ x.width
    by true e h =
        let number : n ≡ i = eqb-true n i e in
        let bits : w.bits ≡ v = some_same w.bits v h in
        let signal : s ≡ x = some_same s x (sym here ∙ ap (slice_get signals) number ∙ there) in
        subst (λ (m : ℕ). m < 2 ^ x.width) bits (subst (λ (y : Signal). w.bits < 2 ^ y.width) signal (ltb-true w.bits (2 ^ s.width) fits))
    by false e h = room i v x there h

-- ---- a value that is lacking

all_there : (values : List (Option Word)) (i : ℕ) → i < length values → list_any is_none values ≡ false → is_some (bits_in values i) ≡ true
all_there [] i lt none = absurd (omega (arith, lt))
all_there (None ∷ values) i lt none = absurd cc
all_there (Some w ∷ values) zero lt none = refl
all_there (Some w ∷ values) (suc i) lt none = all_there values i (omega (arith, lt)) none

record IsLacking (values : List (Option Word)) : Type 0 where
  place : ℕ
  below : place < length values
  none : bits_in values place ≡ None

one_lacks : (values : List (Option Word)) → list_any is_none values ≡ true → IsLacking values
one_lacks [] some' = absurd cc
one_lacks (None ∷ values) some' = record { place = 0; below = omega arith; none = refl }
one_lacks (Some w ∷ values) some' =
    let rest = one_lacks values some' in
    record { place = suc rest.place; below = (let lt = rest.below in omega (arith, lt)); none = rest.none }

not_given : (cs : List Change) (i n : ℕ) → i < n → value_at cs i 0 ≡ None → all_given cs n ≡ false
not_given cs i zero lt none = absurd (omega (arith, lt))
not_given cs i (suc n) lt none = elim (cases_eq i n) [
  | inl e ↦ and_left (is_some (value_at cs n 0)) (all_given cs n) (ap (λ (m : ℕ). is_some (value_at cs m 0)) (sym e) ∙ ap is_some none)
  | inr e ↦ and_right (is_some (value_at cs n 0)) (all_given cs n) (not_given cs i n (omega (arith, lt, e)) none)
]

pub lacking : (cs : List Change) (values : List (Option Word)) (n : ℕ) → length values ≡ n → ((i : ℕ) → i < length values → bits_in values i ≡ value_at cs i 0) → list_any is_none values ≡ not (all_given cs n)
unfolding value_at
lacking cs values n long are = by (list_any is_none values) refl
  where
    by : (b : Bool) → list_any is_none values ≡ b → b ≡ not (all_given cs n)
    by true e =
        let l = one_lacks values e in
        sym (ap not (not_given cs l.place n (let lt = l.below in omega (arith, lt, long)) (sym (are l.place l.below) ∙ l.none)))
    by false e =
        sym (ap not (given_all cs n (record { each = λ i lt. ap is_some (sym (are i (omega (arith, lt, long)))) ∙ all_there values i (omega (arith, lt, long)) e })))

-- ---- no value yet

pub no_value : (n i : ℕ) → bits_in (replicate n None) i ≡ None
no_value zero i = refl
no_value (suc n) zero = refl
no_value (suc n) (suc i) = no_value n i

-- ---- one token, and the end

pub next_among : (r : Reading) (t : Token) (s : Stage) → r.stage ≡ s → next r t ≡ next_at s r t
unfolding next
next_among r t s e = ap (λ (x : Stage). next_at x r t) e

pub ends_among : (r : Reading) (len : ℕ) (b : Bool) → is_between r.stage ≡ b → end_of r len ≡ (if b then end_by r len r.time else Err (Syntax len))
unfolding end_of
ends_among r len b e = ap (λ (x : Bool). if x then end_by r len r.time else Err (Syntax len)) e

pub begun_by : (r : Reading) (t : Token) (b : ℕ) (bs : List ℕ) → is t (codes "$comment") ≡ false → (is t (codes "$dumpvars") || is t (codes "$end")) ≡ false → t.bytes ≡ b ∷ bs
    → change_next r t ≡ begun r t b bs
begun_by r t b bs comment mark e =
    cond-false (is t (codes "$comment")) _ _ comment ∙ cond-false (is t (codes "$dumpvars") || is t (codes "$end")) _ _ mark ∙ ap (by_byte r t) e
