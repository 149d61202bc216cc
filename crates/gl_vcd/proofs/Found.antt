-- Signals that are found by the words of a set, and one that is added.
use Rattle.std.proofs.Common.{◌≡◌, ℕ, zero, suc, ◌+◌, inl, inr, Bool, true, false, List, [], ◌∷◌, ◌++◌, map, length, Option, Some, None, Bor, refl, sym, ap, ◌∙◌, add-one}
use Rattle.std.specs.Prelude.{◌⊎◌, ◌&&◌, ◌||◌, bytes_eq, filter, option_map, position, slice_get, if◌then◌else◌}
use Rattle.std.specs.List.{AllByRecursion, list_any}
use Rattle.std.proofs.lemmas.Bool.{cond-false, cond-true, or_from}
use Rattle.std.proofs.lemmas.List.{map-append}
use Rattle.gl_bits.specs.Words.{IsWidth}
use Rattle.gl_bits.proofs.AllLists.{all_append, heads, tails}
use Rattle.gl_bits.proofs.Bools.{bytes_own, bytes_both_ways}
use Rattle.gl_bits.proofs.Options.{some_same}
use Rattle.gl_bits.proofs.Places.{place_step}
use Rattle.gl_vcd.specs.Signals.{Signal, number_of_name}
use Rattle.gl_vcd.specs.Standing.{AreNumbered, words_in}
use Rattle.gl_vcd.proofs.Numbered.{none_split}

-- a word has the place of the signal that has it
pub number_is : (keys : List (Bor (List ℕ))) (signals : List Signal) (f : Signal → List ℕ) (word : List ℕ) → words_in keys ≡ map f signals
    → position (λ k. bytes_eq word k.now) keys ≡ position (λ s. bytes_eq (f s) word) signals
number_is [] [] f word same = refl
number_is [] (s ∷ signals) f word same = absurd cc
number_is (k ∷ keys) [] f word same = absurd cc
number_is (k ∷ keys) (s ∷ signals) f word same =
    let first : k.now ≡ f s = heads k.now (f s) (words_in keys) (map f signals) same in
    let test : bytes_eq word k.now ≡ bytes_eq (f s) word = ap (bytes_eq word) first ∙ bytes_both_ways word (f s) in
    place_step (λ (x : Bor (List ℕ)). bytes_eq word x.now) k keys
    ∙ ap (λ (b : Bool). if b then Some 0 else option_map (λ m. m + 1) (position (λ x. bytes_eq word x.now) keys)) test
    ∙ ap (λ (o : Option ℕ). if bytes_eq (f s) word then Some 0 else option_map (λ m. m + 1) o) (number_is keys signals f word (tails k.now (f s) (words_in keys) (map f signals) same))
    ∙ sym (place_step (λ (x : Signal). bytes_eq (f x) word) s signals)

-- a word that no signal has is not in the set
any_of : (signals : List Signal) (f : Signal → List ℕ) (word : List ℕ) → position (λ s. bytes_eq (f s) word) signals ≡ None → list_any (bytes_eq word) (map f signals) ≡ false
any_of [] f word none = refl
any_of (s ∷ signals) f word none =
    let parts = none_split (bytes_eq (f s) word) (position (λ x. bytes_eq (f x) word) signals) (sym (place_step (λ (x : Signal). bytes_eq (f x) word) s signals) ∙ none) in
    or_from (bytes_eq word (f s)) (list_any (bytes_eq word) (map f signals)) (bytes_both_ways word (f s) ∙ parts.0) (any_of signals f word parts.1)

pub new_word : (words : List (List ℕ)) (signals : List Signal) (f : Signal → List ℕ) (word : List ℕ) → words ≡ map f signals → position (λ s. bytes_eq (f s) word) signals ≡ None
    → list_any (bytes_eq word) words ≡ false
new_word words signals f word same none = ap (list_any (bytes_eq word)) same ∙ any_of signals f word none

any_in : (word : List ℕ) (keys : List (Bor (List ℕ))) → list_any (λ k. bytes_eq word k.now) keys ≡ list_any (bytes_eq word) (words_in keys)
any_in word [] = refl
any_in word (k ∷ keys) = ap (λ (b : Bool). bytes_eq word k.now || b) (any_in word keys)

pub put_is : (keys keys' : List (Bor (List ℕ))) (x : Bor (List ℕ)) → list_any (bytes_eq x.now) (words_in keys) ≡ false
    → keys' ≡ (if list_any (λ k. bytes_eq x.now k.now) keys then keys else keys ++ x ∷ []) → words_in keys' ≡ words_in keys ++ x.now ∷ []
put_is keys keys' x new' e =
    ap words_in (e ∙ cond-false (list_any (λ k. bytes_eq x.now k.now) keys) keys (keys ++ x ∷ []) (any_in x.now keys ∙ new'))
    ∙ map-append (λ (k : Bor (List ℕ)). k.now) keys (x ∷ [])

-- the words behind one signal more
pub words_push : (words words' : List (List ℕ)) (signals : List Signal) (s : Signal) (f : Signal → List ℕ) → words ≡ map f signals → words' ≡ words ++ f s ∷ [] → words' ≡ map f (signals ++ s ∷ [])
words_push words words' signals s f same e = e ∙ ap (λ (ws : List (List ℕ)). ws ++ f s ∷ []) same ∙ sym (map-append f signals (s ∷ []))

pub widths_push : (signals : List Signal) (s : Signal) → AllByRecursion (λ x. IsWidth x.width) signals → IsWidth s.width → AllByRecursion (λ x. IsWidth x.width) (signals ++ s ∷ [])
widths_push signals s all is = all_append (λ (x : Signal). IsWidth x.width) signals (s ∷ []) all (is, tt)

-- ---- the numbers of names, behind one signal more

-- a place that is found stays, and one that is added is found where none was
place_kept : {X : Type 0} (p : X → Bool) (xs ys : List X) (k : ℕ) → position p xs ≡ Some k → position p (xs ++ ys) ≡ Some k
place_kept p [] ys k found = absurd cc
place_kept p (x ∷ xs) ys k found =
    place_step p x (xs ++ ys) ∙ by (p x) (position p xs) (place_kept p xs ys) (sym (place_step p x xs) ∙ found)
  where
    by : (b : Bool) (o : Option ℕ) → ((m : ℕ) → o ≡ Some m → position p (xs ++ ys) ≡ Some m) → (if b then Some 0 else option_map (λ m. m + 1) o) ≡ Some k
        → (if b then Some 0 else option_map (λ m. m + 1) (position p (xs ++ ys))) ≡ Some k
    by true o rest h = h
    by false None rest h = absurd cc
    by false (Some m) rest h = ap (option_map (λ n. n + 1)) (rest m refl) ∙ h

place_last : {X : Type 0} (p : X → Bool) (xs : List X) (y : X) → position p xs ≡ None → p y ≡ true → position p (xs ++ y ∷ []) ≡ Some (length xs)
place_last p [] y none hit = place_step p y [] ∙ cond-true (p y) _ _ hit
place_last p (x ∷ xs) y none hit =
    let parts = none_split (p x) (position p xs) (sym (place_step p x xs) ∙ none) in
    place_step p x (xs ++ y ∷ []) ∙ cond-false (p x) _ _ parts.0 ∙ ap (option_map (λ m. m + 1)) (place_last p xs y parts.1 hit) ∙ ap Some (add-one (length xs))

-- a signal that is there, or the last
pushed : {X : Type 0} (xs : List X) (y : X) (n : ℕ) (x : X) → slice_get (xs ++ y ∷ []) n ≡ Some x → (slice_get xs n ≡ Some x) ⊎ ((n ≡ length xs) × (y ≡ x))
pushed [] y zero x at = inr (refl, some_same y x at)
pushed [] y (suc n) x at = absurd cc
pushed (z ∷ xs) y zero x at = inl at
pushed (z ∷ xs) y (suc n) x at = elim (pushed xs y n x at) [
  | inl h ↦ inl h
  | inr p ↦ inr (ap (λ (m : ℕ). suc m) p.0, p.1)
]

pub numbers_push : (signals : List Signal) (s : Signal) → AreNumbered signals → number_of_name signals s.name ≡ None → AreNumbered (signals ++ s ∷ [])
numbers_push signals s are none i x at = elim (pushed signals s i x at) [
  | inl h ↦ place_kept (λ (y : Signal). bytes_eq y.name x.name) signals (s ∷ []) i (are i x h)
  | inr p ↦
      ap (λ (y : Signal). number_of_name (signals ++ s ∷ []) y.name) (sym p.1)
      ∙ place_last (λ (y : Signal). bytes_eq y.name s.name) signals s none (bytes_own s.name)
      ∙ ap Some (sym p.0)
]

-- ---- tests of all signals

pub any_map : {X Y : Type 0} (f : X → Y) (p : Y → Bool) (xs : List X) → list_any (λ x. p (f x)) xs ≡ list_any p (map f xs)
any_map f p [] = refl
any_map f p (x ∷ xs) = ap (λ (b : Bool). p (f x) || b) (any_map f p xs)

pub any_among : {X : Type 0} (p q : X → Bool) (xs : List X) → list_any (λ x. p x && q x) xs ≡ list_any q (filter p xs)
any_among p q [] = refl
any_among p q (x ∷ xs) = by (p x) (any_among p q xs)
  where
    by : (b : Bool) → list_any (λ y. p y && q y) xs ≡ list_any q (filter p xs) → ((b && q x) || list_any (λ y. p y && q y) xs) ≡ list_any q (if b then x ∷ filter p xs else filter p xs)
    by true e = ap (λ (b : Bool). q x || b) e
    by false e = e
