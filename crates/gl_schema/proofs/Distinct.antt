-- Names that no earlier one is equal to.
use Rattle.std.proofs.Common.{◌≡◌, ℕ, Bool, false, ◌||◌, List, [], ◌∷◌, ◌++◌, refl, sym, ap, ◌∙◌, subst}
use Rattle.std.specs.Prelude.{bytes_eq, map}
use Rattle.std.specs.List.{list_any, AllByRecursion, IsDistinct}
use Rattle.std.proofs.lemmas.Bool.{or_from}
use Rattle.std.proofs.lemmas.Cmp.{nat_list_eq_equiv}
use Rattle.std.proofs.lemmas.Map.Keys.{IsDistinct-head, IsDistinct-tail, IsDistinct-push}
use Rattle.std.proofs.lemmas.List.{map-append}

-- what holds of a list holds of an element of it
pub All_middle : {X : Type 0} (P : X → Type 0) (a : List X) (x : X) (b : List X) → AllByRecursion P (a ++ x ∷ b) → P x
All_middle P [] x b h = h.0
All_middle P (y ∷ a) x b h = All_middle P a x b h.1

-- a test of what a function gives
pub any_named : {X : Type 0} (f : X → List ℕ) (w : List ℕ) (xs : List X) → list_any (λ x. bytes_eq w (f x)) xs ≡ list_any (bytes_eq w) (map f xs)
any_named f w [] = refl
any_named f w (x ∷ xs) = ap (λ (b : Bool). bytes_eq w (f x) || b) (any_named f w xs)

-- in a list of distinct names none before a name is equal to it
pub new_name : (a : List (List ℕ)) (n : List ℕ) (b : List (List ℕ)) → IsDistinct bytes_eq (a ++ n ∷ b) → list_any (bytes_eq n) a ≡ false
new_name [] n b h = refl
new_name (m ∷ a) n b h =
    let apart = All_middle (λ y. bytes_eq m y ≡ false) a n b (IsDistinct-head bytes_eq m (a ++ n ∷ b) h) in
    or_from (bytes_eq n m) (list_any (bytes_eq n) a) (nat_list_eq_equiv.symm n m ∙ apart) (new_name a n b (IsDistinct-tail bytes_eq m (a ++ n ∷ b) h))

-- the same, for what has a name
pub new_named : {X : Type 0} (f : X → List ℕ) (a : List X) (x : X) (b : List X) → IsDistinct bytes_eq (map f (a ++ x ∷ b)) → list_any (λ y. bytes_eq (f x) (f y)) a ≡ false
new_named f a x b h = any_named f (f x) a ∙ new_name (map f a) (f x) (map f b) (subst (IsDistinct bytes_eq) (map-append f a (x ∷ b)) h)

-- one more name
pub more_named : {X : Type 0} (f : X → List ℕ) (a : List X) (x : X) → IsDistinct bytes_eq (map f a) → list_any (λ y. bytes_eq (f x) (f y)) a ≡ false → IsDistinct bytes_eq (map f (a ++ x ∷ []))
more_named f a x h none = subst (IsDistinct bytes_eq) (sym (map-append f a (x ∷ []))) (IsDistinct-push nat_list_eq_equiv (map f a) (f x) h (sym (any_named f (f x) a) ∙ none))
