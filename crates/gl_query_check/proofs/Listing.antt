-- One more of what is under a name.
use Rattle.std.proofs.Common.{◌≡◌, ℕ, zero, suc, ◌+◌, ◌<◌, true, List, [], ◌∷◌, ◌++◌, length, map, take, drop, Option, Some, None, refl, ap, ◌∙◌, arith}
use Rattle.std.specs.Prelude.{bytes_eq, not, nat_lt}
use Rattle.std.specs.List.{list_any}
use Rattle.std.proofs.lemmas.Bool.{lt-ltb}
use Rattle.std.proofs.lemmas.List.{map-append}
use Rattle.gl_bits.proofs.AllLists.{length_map}
use Rattle.gl_query.specs.declared.fault.QueryFault.{QueryFault}
use Rattle.gl_query.specs.declared.fault.QueryFault.TheVariants.{TwiceNamed}
use Rattle.gl_query.specs.declared.tree.Name.{Name}
use Rattle.gl_query.specs.Faults.{named_fault, or_else, unless}

one_more : (n : ℕ) → n + 1 ≡ suc n
one_more n = omega arith

drop_suc : {A : Type 0} (n : ℕ) (xs : List A) (x : A) (rest : List A) → drop n xs ≡ x ∷ rest → drop (suc n) xs ≡ rest
drop_suc zero [] x rest e = absurd (cc)
drop_suc zero (y ∷ xs) x rest e = cc
drop_suc (suc n) [] x rest e = absurd (cc)
drop_suc (suc n) (y ∷ xs) x rest e = drop_suc n xs x rest e

take_suc : {A : Type 0} (n : ℕ) (xs : List A) (x : A) (rest : List A) → drop n xs ≡ x ∷ rest → take (suc n) xs ≡ take n xs ++ x ∷ []
take_suc zero [] x rest e = absurd (cc)
take_suc zero (y ∷ xs) x rest e = let same : y ≡ x = cc in ap (λ z. z ∷ []) same
take_suc (suc n) [] x rest e = absurd (cc)
take_suc (suc n) (y ∷ xs) x rest e = ap (λ l. y ∷ l) (take_suc n xs x rest e)

take_long : {A : Type 0} (n : ℕ) (xs : List A) (x : A) (rest : List A) → drop n xs ≡ x ∷ rest → length (take n xs) ≡ n
take_long zero xs x rest e = refl
take_long (suc n) [] x rest e = absurd (cc)
take_long (suc n) (y ∷ xs) x rest e = ap suc (take_long n xs x rest e)

-- two rules and what comes behind them, as a list of them before it
two_rules : (a b later : Option QueryFault) → or_else a (or_else b later) ≡ or_else (or_else a (or_else b None)) later
two_rules None None later = refl
two_rules None (Some g) later = refl
two_rules (Some f) b later = refl

-- what is at a number, below the 33rd
pub named_step : {A B : Type 0} (f : A → B) (name : B → Name) (own : B → Option QueryFault) (xs : List A) (n : ℕ) (x : A) (rest : List A)
    → drop n xs ≡ x ∷ rest → n < 32 →
    or_else (own (f x))
    (or_else (unless (not (list_any (λ j. bytes_eq (name (f x)).text (name j).text) (map f (take n xs)))) (TwiceNamed (name (f x)).at))
    (named_fault name own (map f (take (n + 1) xs)) (map f (drop (n + 1) xs))))
    ≡ named_fault name own (map f (take n xs)) (map f (drop n xs))
named_step f name own xs n x rest e lt =
    let long : length (map f (take n xs)) ≡ n = length_map f (take n xs) ∙ take_long n xs x rest e in
    let room : nat_lt (length (map f (take n xs))) 32 ≡ true = ap (λ k. nat_lt k 32) long ∙ lt-ltb n 32 lt in
    let taken : map f (take (n + 1) xs) ≡ map f (take n xs) ++ f x ∷ [] =
    ap (λ k. map f (take k xs)) (one_more n) ∙ ap (map f) (take_suc n xs x rest e) ∙ map-append f (take n xs) (x ∷ []) in
    let dropped : map f (drop (n + 1) xs) ≡ map f rest = ap (λ k. map f (drop k xs)) (one_more n) ∙ ap (map f) (drop_suc n xs x rest e) in
    rw (e, taken, dropped, room) (two_rules (own (f x)) _ _)
