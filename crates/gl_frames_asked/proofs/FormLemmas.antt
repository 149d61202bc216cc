-- Where rows of another form have the same keys, and the same is made of them, so it is of those of each key.
use Rattle.std.proofs.Common.{◌≡◌, ℕ, Bool, not, List, [], ◌∷◌, ◌++◌, Option, Some, None, take, refl, sym, ap, ◌∙◌}
use Rattle.std.specs.Prelude.{◌||◌, if◌then◌else◌, map, nat_eq}
use Rattle.std.specs.List.{cons_option, list_any}
use Rattle.std.specs.Option.{option_map}
use Rattle.std.proofs.lemmas.List.{map-append}
use Rattle.std.proofs.lemmas.List.Elements.{filter_agree}
use Rattle.gl_values.specs.Lists.{distinct, has_further, keys_of, rows_with}
use Rattle.gl_values.specs.Partitions.{has_key}
use Rattle.gl_frames.specs.Frames.{by_key, each_of, if_has_key, row_before}
use Rattle.gl_frames_asked.specs.Laws.{AreSameByKey, FormsAreSameByKey}
use Rattle.gl_frames_asked.proofs.MapLemmas.{any_mapped, before_mapped, filter_mapped}

any_same : {A : Type 0} (p q : A → Bool) → ((x : A) → p x ≡ q x) → (xs : List A) → list_any p xs ≡ list_any q xs
any_same p q agree [] = refl
any_same p q agree (x ∷ xs) = ap (λ (b : Bool). b || list_any p xs) (agree x) ∙ ap (λ (b : Bool). q x || b) (any_same p q agree xs)

module _ {A B C : Type 0} (f : A → B) (key : A → ℕ) (key' : B → ℕ) (of : List A → C) (of' : List B → C)
    (keys : (x : A) → key' (f x) ≡ key x) (made : (rows : List A) → of' (map f rows) ≡ of rows) where
  numbers : (xs : List A) → map key' (map f xs) ≡ map key xs
  numbers [] = refl
  numbers (x ∷ xs) = ap (λ (k : ℕ). k ∷ map key' (map f xs)) (keys x) ∙ ap (λ l. key x ∷ l) (numbers xs)

  known : (n : ℕ) (xs : List A) (k : ℕ) → has_key n key' (map f xs) k ≡ has_key n key xs k
  known n xs k = ap (λ (l : List ℕ). list_any (nat_eq k) (take n (distinct l))) (numbers xs)

  rows : (xs : List A) (k : ℕ) → rows_with key' (map f xs) k ≡ map f (rows_with key xs k)
  rows xs k =
      filter_mapped f (λ y. nat_eq (key' y) k) xs
      ∙ ap (map f) (filter_agree (λ x. nat_eq (key' (f x)) k) (λ x. nat_eq (key x) k) (λ x. ap (λ (m : ℕ). nat_eq m k) (keys x)) xs)

  of_option : (n : ℕ) (xs : List A) (o : Option A) → if_has_key n key' of' (map f xs) (option_map f o) ≡ if_has_key n key of xs o
  of_option n xs None = refl
  of_option n xs (Some x) =
      ap (λ (k : ℕ). if has_key n key' (map f xs) k then Some (of' (rows_with key' (map f xs) k)) else None) (keys x)
      ∙ ap (λ (b : Bool). if b then Some (of' (rows_with key' (map f xs) (key x))) else None) (known n xs (key x))
      ∙ ap (λ (c : C). if has_key n key xs (key x) then Some c else None) (ap of' (rows xs (key x)) ∙ made (rows_with key xs (key x)))

  now : (n : ℕ) (xs : List A) → by_key n key' of' (map f xs) ≡ by_key n key of xs
  now n xs = ap (if_has_key n key' of' (map f xs)) (before_mapped f 0 xs) ∙ of_option n xs (row_before 0 xs)

  each : (n : ℕ) (seen xs : List A) → each_of (by_key n key' of') (map f seen) (map f xs) ≡ each_of (by_key n key of) seen xs
  each n seen [] = refl
  each n seen (x ∷ xs) =
      ap (λ (l : List B). cons_option (by_key n key' of' l) (each_of (by_key n key' of') l (map f xs))) (sym (map-append f seen (x ∷ [])))
      ∙ ap (λ (o : Option C). cons_option o (each_of (by_key n key' of') (map f (seen ++ x ∷ [])) (map f xs))) (now n (seen ++ x ∷ []))
      ∙ ap (cons_option (by_key n key of (seen ++ x ∷ []))) (each n (seen ++ x ∷ []) xs)

  further : (n : ℕ) (xs : List A) → has_further n key' (map f xs) ≡ has_further n key xs
  unfolding has_further
  further n xs =
      ap (λ (l : List ℕ). list_any (λ y. not (list_any (nat_eq (key' y)) (take n (distinct l)))) (map f xs)) (numbers xs)
      ∙ any_mapped f (λ y. not (list_any (nat_eq (key' y)) (take n (keys_of key xs)))) xs
      ∙ any_same (λ x. not (list_any (nat_eq (key' (f x))) (take n (keys_of key xs)))) (λ x. not (list_any (nat_eq (key x)) (take n (keys_of key xs))))
      (λ x. ap (λ (k : ℕ). not (list_any (nat_eq k) (take n (keys_of key xs)))) (keys x)) xs

  same_by_key : AreSameByKey f key key' of of'
  same_by_key = record { keys = λ xs. ap distinct (numbers xs); now = now; framed = λ n xs. each n [] xs; further = further }

pub forms_same : {A B C : Type 0} → FormsAreSameByKey A B C
forms_same f key key' of of' keys made = same_by_key f key key' of of' keys made
