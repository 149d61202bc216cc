-- The numbers of signals by their identifiers and by their names.
use Rattle.std.proofs.Common.{◌≡◌, ℕ, zero, suc, ◌+◌, ◌/◌, ◌%◌, ◌<◌, Bool, true, false, cond, ◌&&◌, List, [], ◌∷◌, ◌++◌, length, Option, Some, None, refl, sym, ap, ◌∙◌, arith, add-one}
use Rattle.std.specs.Prelude.{bytes_eq, codes, option_map, position, slice_get, if◌then◌else◌}
use Rattle.std.specs.List.{AllByRecursion, list_any}
use Rattle.std.proofs.lemmas.Bool.{cond-false, cond-true, false_from_ne_true, or_parts}
use Rattle.std.proofs.lemmas.Slice.Eq.{bytes_eq-Decides}
use Rattle.gl_bits.proofs.AllLists.{heads, tails}
use Rattle.gl_bits.proofs.Places.{place_step}
use Rattle.gl_vcd.specs.Dumped.{Port}
use Rattle.gl_vcd.specs.RoundTrip.{AreApart, names_of, signal_at, signals_from}
use Rattle.gl_vcd.specs.Signals.{Signal, number_of_code, number_of_name}
use Rattle.gl_vcd.specs.Written.{code_of}

-- ---- the first place

pub none_split : (b : Bool) (o : Option ℕ) → (if b then Some 0 else option_map (λ m. m + 1) o) ≡ None → (b ≡ false) × (o ≡ None)
none_split true o h = absurd cc
none_split false None h = (refl, refl)
none_split false (Some k) h = absurd cc

-- one more that does not pass
pub place_push : {X : Type 0} (p : X → Bool) (xs : List X) (y : X) → position p xs ≡ None → p y ≡ false → position p (xs ++ y ∷ []) ≡ None
place_push p [] y none miss = place_step p y [] ∙ cond-false (p y) _ _ miss
place_push p (x ∷ xs) y none miss =
    let parts = none_split (p x) (position p xs) (sym (place_step p x xs) ∙ none) in
    place_step p x (xs ++ y ∷ []) ∙ cond-false (p x) _ _ parts.0 ∙ ap (option_map (λ m. m + 1)) (place_push p xs y parts.1 miss)

-- ---- identifiers

pub code_same : (i k : ℕ) → i ≡ k → bytes_eq (code_of i) (code_of k) ≡ true
code_same i k e = (bytes_eq-Decides (code_of i) (code_of k)).1 (ap code_of e)

one_number : (i k : ℕ) → code_of i ≡ code_of k → i ≡ k
one_number i k e =
    let high : 33 + i / 94 ≡ 33 + k / 94 = heads (33 + i / 94) (33 + k / 94) ((33 + i % 94) ∷ []) ((33 + k % 94) ∷ []) e in
    let rest : (33 + i % 94) ∷ [] ≡ (33 + k % 94) ∷ [] = tails (33 + i / 94) (33 + k / 94) ((33 + i % 94) ∷ []) ((33 + k % 94) ∷ []) e in
    let low : 33 + i % 94 ≡ 33 + k % 94 = heads (33 + i % 94) (33 + k % 94) [] [] rest in
    omega (arith, high, low)

pub code_apart : (i k : ℕ) → (i ≡ k → ⊥) → bytes_eq (code_of i) (code_of k) ≡ false
code_apart i k ne = false_from_ne_true (bytes_eq (code_of i) (code_of k)) (λ t. ne (one_number i k ((bytes_eq-Decides (code_of i) (code_of k)).0 t)))

two_bytes : (a b : Bool) → (a && (b && false)) ≡ false
two_bytes true true = refl
two_bytes true false = refl
two_bytes false b = refl

-- none of them ends a section
pub code_open : (i : ℕ) → bytes_eq (code_of i) (codes "$end") ≡ false
code_open i = two_bytes _ _

-- the signals of ports have the numbers of the ports
pub code_found : (j n k : ℕ) (ps : List Port) → n < length ps → k ≡ j + n → number_of_code (signals_from j ps) (code_of k) ≡ Some n
code_found j n k [] lt e = absurd (omega (arith, lt))
code_found j zero k (p ∷ ps) lt e =
    place_step (λ (s : Signal). bytes_eq s.code (code_of k)) (signal_at j p) (signals_from (j + 1) ps)
    ∙ cond-true (bytes_eq (code_of j) (code_of k)) _ _ (code_same j k (omega (arith, e)))
code_found j (suc n) k (p ∷ ps) lt e =
    place_step (λ (s : Signal). bytes_eq s.code (code_of k)) (signal_at j p) (signals_from (j + 1) ps)
    ∙ cond-false (bytes_eq (code_of j) (code_of k)) _ _ (code_apart j k (λ same. omega (arith, e, same)))
    ∙ ap (option_map (λ m. m + 1)) (code_found (j + 1) n k ps (omega (arith, lt)) (omega (arith, e)))
    ∙ ap Some (add-one n)

pub signal_there : (j n : ℕ) (ps : List Port) (p : Port) → slice_get ps n ≡ Some p → slice_get (signals_from j ps) n ≡ Some (signal_at (j + n) p)
signal_there j n [] p at = absurd cc
signal_there j zero (q ∷ ps) p at =
    let same : q ≡ p = cc in
    ap (λ (x : Port). Some (signal_at j x)) same ∙ ap (λ (m : ℕ). Some (signal_at m p)) (let e : j ≡ j + 0 = omega arith in e)
signal_there j (suc n) (q ∷ ps) p at =
    signal_there (j + 1) n ps p at ∙ ap (λ (m : ℕ). Some (signal_at m p)) (let e : j + 1 + n ≡ j + suc n = omega arith in e)

-- ---- names

pub new_push : (signals : List Signal) (s : Signal) (names : List (List ℕ)) → AllByRecursion (λ n. number_of_name signals n ≡ None) names → list_any (bytes_eq s.name) names ≡ false
    → AllByRecursion (λ n. number_of_name (signals ++ s ∷ []) n ≡ None) names
new_push signals s [] new' apart = tt
new_push signals s (n ∷ names) new' apart =
    let parts = or_parts (bytes_eq s.name n) (list_any (bytes_eq s.name) names) apart in
    (place_push (λ (x : Signal). bytes_eq x.name n) signals s new'.0 parts.0, new_push signals s names new'.1 parts.1)

pub all_new : (names : List (List ℕ)) → AllByRecursion (λ n. number_of_name [] n ≡ None) names
all_new [] = tt
all_new (n ∷ names) = (refl, all_new names)

none_at : {X : Type 0} (p : X → Bool) (xs : List X) (i : ℕ) (x : X) → list_any p xs ≡ false → slice_get xs i ≡ Some x → p x ≡ false
none_at p [] i x none at = absurd cc
none_at p (y ∷ xs) zero x none at = let same : x ≡ y = cc in ap p same ∙ (or_parts (p y) (list_any p xs) none).0
none_at p (y ∷ xs) (suc i) x none at = none_at p xs i x (or_parts (p y) (list_any p xs) none).1 at

name_there : (ps : List Port) (i : ℕ) (p : Port) → slice_get ps i ≡ Some p → slice_get (names_of ps) i ≡ Some p.name
name_there [] i p at = absurd cc
name_there (q ∷ ps) zero p at = let same : q ≡ p = cc in ap (λ (x : Port). Some x.name) same
name_there (q ∷ ps) (suc i) p at = name_there ps i p at

-- another port has another name
pub names_differ : (q p : Port) (ps : List Port) (i : ℕ) → AreApart (names_of (q ∷ ps)) → slice_get ps i ≡ Some p → bytes_eq q.name p.name ≡ false
names_differ q p ps i apart at = none_at (bytes_eq q.name) (names_of ps) i p.name apart.0 (name_there ps i p at)
