-- What frames make of rows that are widened, where on rows with a property both say the same.
use Rattle.std.proofs.Common.{◌≡◌, ℕ, suc, ◌-◌, Bool, ◌||◌, List, [], ◌∷◌, ◌++◌, length, Option, Some, None, refl, sym, ap, ◌∙◌, map, filter, take, nat_eq}
use Rattle.std.specs.Prelude.{IfSome, if◌then◌else◌, not, option_map, reverse, slice_get}
use Rattle.std.specs.List.{AllByRecursion, cons_option, list_any}
use Rattle.std.proofs.lemmas.List.{map-append, reverse-append}
use Rattle.std.proofs.lemmas.Option.{slice_get-map}
use Rattle.gl_bits.proofs.AllLists.{all_append}
use Rattle.gl_bits.proofs.Bools.{by_cases}
use Rattle.gl_values.specs.Lists.{distinct, has_further, rows_with}
use Rattle.gl_values.specs.Partitions.{has_key}
use Rattle.gl_frames.specs.Frames.{by_key, each_of, frame_of, framed, framed_by_key, if_has_key, lag_of, last_value_of, number_or, row_before, rows_preceding}
use Rattle.gl_frames.proofs.SumLemmas.{last_map}
use Rattle.gl_arrival.specs.Places.{Placed, at_place, rows_of}
use Rattle.gl_arrival.specs.Changes.{each_at, framed_at, framed_by_key_at, kept_at, mapped_at}
use Rattle.gl_query.proofs.Holding.{all_before, all_drop, all_filter, all_in_frame}

module _ {A B : Type 0} (w : A → B) (P : A → Type 0) where
  backwards : (xs : List A) → reverse (map w xs) ≡ map w (reverse xs)
  backwards [] = refl
  backwards (x ∷ xs) =
      reverse-append (w x ∷ []) (map w xs) ∙ ap (λ (l : List B). l ++ w x ∷ []) (backwards xs)
      ∙ sym (map-append w (reverse xs) (x ∷ [])) ∙ ap (map w) (sym (reverse-append (x ∷ []) xs))

  before_mapped : (n : ℕ) (xs : List A) → row_before n (map w xs) ≡ option_map w (row_before n xs)
  before_mapped n xs = ap (λ (l : List B). slice_get l n) (backwards xs) ∙ slice_get-map w (reverse xs) n

  preceding_mapped : (back : Option ℕ) (xs : List A) → rows_preceding back (map w xs) ≡ map w (rows_preceding back xs)
  preceding_mapped None xs = refl
  preceding_mapped (Some k) xs = last_map (suc k) w xs

  all_preceding : (back : Option ℕ) (xs : List A) → AllByRecursion P xs → AllByRecursion P (rows_preceding back xs)
  all_preceding None xs h = h
  all_preceding (Some k) xs h = all_drop P (length xs - suc k) xs h

  -- two values that are one on such rows
  module _ (g : B → ℕ) (f : A → ℕ) (same : (x : A) → P x → g (w x) ≡ f x) where
    number_mapped : (o : Option A) → IfSome o P → number_or g (option_map w o) ≡ number_or f o
    number_mapped None h = refl
    number_mapped (Some x) h = same x h

    pub lag_mapped : (n : ℕ) (xs : List A) → AllByRecursion P xs → lag_of g n (map w xs) ≡ lag_of f n xs
    lag_mapped n xs h = ap (number_or g) (before_mapped n xs) ∙ number_mapped (row_before n xs) (all_before P n xs h)

  -- two tests that agree on such rows
  module _ (p : B → Bool) (q : A → Bool) (same : (x : A) → P x → p (w x) ≡ q x) where
    pub filter_mapped : (xs : List A) → AllByRecursion P xs → filter p (map w xs) ≡ map w (filter q xs)
    filter_mapped [] h = refl
    filter_mapped (x ∷ xs) h =
        let here = same x h.0 in
        let rest = filter_mapped xs h.1 in
        by_cases (q x) (λ e. rw (here, e) (ap (λ (l : List B). w x ∷ l) rest)) (λ e. rw (here, e) rest)

    pub kept_mapped : (xs : List (Placed A)) → AllByRecursion P (rows_of xs) → kept_at p (mapped_at w xs) ≡ mapped_at w (kept_at q xs)
    kept_mapped [] h = refl
    kept_mapped (x ∷ xs) h =
        let here = same x.row h.0 in
        let rest = kept_mapped xs h.1 in
        by_cases (q x.row) (λ e. rw (here, e) (ap (λ (l : List (Placed B)). at_place (w x.row) x.place ∷ l) rest)) (λ e. rw (here, e) rest)

    pub frame_mapped : (back : Option ℕ) (xs : List A) → AllByRecursion P xs → frame_of back p (map w xs) ≡ map w (frame_of back q xs)
    frame_mapped back xs h =
        ap (filter p) (preceding_mapped back xs) ∙ filter_mapped (rows_preceding back xs) (all_preceding back xs h)

    pub last_mapped : (g : B → ℕ) (f : A → ℕ) → ((x : A) → P x → g (w x) ≡ f x) → (back : Option ℕ) (xs : List A) → AllByRecursion P xs
        → last_value_of g back p (map w xs) ≡ last_value_of f back q xs
    last_mapped g f alike back xs h =
        ap (λ (l : List B). number_or g (row_before 0 l)) (frame_mapped back xs h)
        ∙ lag_mapped g f alike 0 (frame_of back q xs) (all_in_frame P back q xs h)

  -- what is made of such rows, or nothing, where both make the same
  module _ {C : Type 0} (g : List B → Option C) (f : List A → Option C) (same : (ys : List A) → AllByRecursion P ys → g (map w ys) ≡ f ys) where
    each_mapped : (seen xs : List A) → AllByRecursion P seen → AllByRecursion P xs
        → each_of g (map w seen) (map w xs) ≡ each_of f seen xs
    each_mapped seen [] h k = refl
    each_mapped seen (x ∷ xs) h k =
        let more : AllByRecursion P (seen ++ x ∷ []) = all_append P seen (x ∷ []) h (k.0, tt) in
        let wider : map w seen ++ w x ∷ [] ≡ map w (seen ++ x ∷ []) = sym (map-append w seen (x ∷ [])) in
        let here = same (seen ++ x ∷ []) more in
        let rest = each_mapped (seen ++ x ∷ []) xs more k.1 in
        (λ i. cons_option (g (wider i)) (each_of g (wider i) (map w xs))) ∙ (λ i. cons_option (here i) (rest i))

    each_mapped_in_place : (seen : List A) (xs : List (Placed A)) → AllByRecursion P seen → AllByRecursion P (rows_of xs)
        → each_at g (map w seen) (mapped_at w xs) ≡ each_at f seen xs
    each_mapped_in_place seen [] h k = refl
    each_mapped_in_place seen (x ∷ xs) h k =
        let more : AllByRecursion P (seen ++ x.row ∷ []) = all_append P seen (x.row ∷ []) h (k.0, tt) in
        let wider : map w seen ++ w x.row ∷ [] ≡ map w (seen ++ x.row ∷ []) = sym (map-append w seen (x.row ∷ [])) in
        let here = same (seen ++ x.row ∷ []) more in
        let rest = each_mapped_in_place (seen ++ x.row ∷ []) xs more k.1 in
        (λ i. cons_option (option_map (λ (y : C). at_place y x.place) (g (wider i))) (each_at g (wider i) (mapped_at w xs)))
        ∙ (λ i. cons_option (option_map (λ (y : C). at_place y x.place) (here i)) (rest i))

  -- two keys that are one on such rows
  module _ (k : B → ℕ) (key_of : A → ℕ) (alike : (x : A) → P x → k (w x) ≡ key_of x) where
    keys_mapped : (xs : List A) → AllByRecursion P xs → map k (map w xs) ≡ map key_of xs
    keys_mapped [] h = refl
    keys_mapped (x ∷ xs) h = λ i. alike x h.0 i ∷ keys_mapped xs h.1 i

    key_mapped : (n key : ℕ) (xs : List A) → AllByRecursion P xs → has_key n k (map w xs) key ≡ has_key n key_of xs key
    key_mapped n key xs h = ap (λ (ks : List ℕ). list_any (nat_eq key) (take n (distinct ks))) (keys_mapped xs h)

    rows_mapped : (key : ℕ) (xs : List A) → AllByRecursion P xs → rows_with k (map w xs) key ≡ map w (rows_with key_of xs key)
    rows_mapped key xs h =
        filter_mapped (λ y. nat_eq (k y) key) (λ x. nat_eq (key_of x) key) (λ x q. ap (λ (m : ℕ). nat_eq m key) (alike x q)) xs h

    further_in : (ks : List ℕ) (xs : List A) → AllByRecursion P xs
        → list_any (λ y. not (list_any (nat_eq (k y)) ks)) (map w xs) ≡ list_any (λ x. not (list_any (nat_eq (key_of x)) ks)) xs
    further_in ks [] h = refl
    further_in ks (x ∷ xs) h = λ i. not (list_any (nat_eq (alike x h.0 i)) ks) || further_in ks xs h.1 i

    pub further_mapped : (n : ℕ) (xs : List A) → AllByRecursion P xs → has_further n k (map w xs) ≡ has_further n key_of xs
    unfolding has_further
    further_mapped n xs h =
        ap (λ (ks : List ℕ). list_any (λ y. not (list_any (nat_eq (k y)) (take n (distinct ks)))) (map w xs)) (keys_mapped xs h)
        ∙ further_in (take n (distinct (map key_of xs))) xs h

  -- two makings that are one over such rows
  module _ {C : Type 0} (g : List B → C) (f : List A → C) (same : (ys : List A) → AllByRecursion P ys → g (map w ys) ≡ f ys) where
    pub framed_mapped : (xs : List A) → AllByRecursion P xs → framed g (map w xs) ≡ framed f xs
    framed_mapped xs h = each_mapped (λ ys. Some (g ys)) (λ ys. Some (f ys)) (λ ys q. ap Some (same ys q)) [] xs tt h

    pub framed_mapped_in_place : (xs : List (Placed A)) → AllByRecursion P (rows_of xs) → framed_at g (mapped_at w xs) ≡ framed_at f xs
    framed_mapped_in_place xs h = each_mapped_in_place (λ ys. Some (g ys)) (λ ys. Some (f ys)) (λ ys q. ap Some (same ys q)) [] xs tt h

    -- and two keys
    module _ (n : ℕ) (k : B → ℕ) (key_of : A → ℕ) (alike : (x : A) → P x → k (w x) ≡ key_of x) where
      of_key : (xs : List A) → AllByRecursion P xs → (o : Option A) → IfSome o P
          → if_has_key n k g (map w xs) (option_map w o) ≡ if_has_key n key_of f xs o
      of_key xs h None q = refl
      of_key xs h (Some x) q =
          let key = alike x q in
          let has = key_mapped k key_of alike n (key_of x) xs h in
          let made = ap g (rows_mapped k key_of alike (key_of x) xs h)
          ∙ same (rows_with key_of xs (key_of x)) (all_filter P (λ y. nat_eq (key_of y) (key_of x)) xs h) in
          (λ i. if has_key n k (map w xs) (key i) then Some (g (rows_with k (map w xs) (key i))) else None)
          ∙ (λ i. if has i then Some (made i) else None)

      by_key_mapped : (xs : List A) → AllByRecursion P xs → by_key n k g (map w xs) ≡ by_key n key_of f xs
      by_key_mapped xs h =
          ap (if_has_key n k g (map w xs)) (before_mapped 0 xs) ∙ of_key xs h (row_before 0 xs) (all_before P 0 xs h)

      pub keyed_mapped : (xs : List A) → AllByRecursion P xs → framed_by_key n k g (map w xs) ≡ framed_by_key n key_of f xs
      keyed_mapped xs h = each_mapped (by_key n k g) (by_key n key_of f) by_key_mapped [] xs tt h

      pub keyed_mapped_in_place : (xs : List (Placed A)) → AllByRecursion P (rows_of xs) → framed_by_key_at n k g (mapped_at w xs) ≡ framed_by_key_at n key_of f xs
      keyed_mapped_in_place xs h = each_mapped_in_place (by_key n k g) (by_key n key_of f) by_key_mapped [] xs tt h

-- two changes of rows, and values that are one on such rows
module _ {A B C : Type 0} (w : A → B) (v : A → C) (P : A → Type 0) where
  pub lag_both : (g : B → ℕ) (f : C → ℕ) → ((x : A) → P x → g (w x) ≡ f (v x)) → (n : ℕ) (xs : List A) → AllByRecursion P xs
      → lag_of g n (map w xs) ≡ lag_of f n (map v xs)
  lag_both g f same n xs h =
      lag_mapped w P g (λ x. f (v x)) same n xs h ∙ sym (lag_mapped v P f (λ x. f (v x)) (λ x q. refl) n xs h)

  pub last_both : (p : B → Bool) (q : C → Bool) → ((x : A) → P x → p (w x) ≡ q (v x)) → (g : B → ℕ) (f : C → ℕ) → ((x : A) → P x → g (w x) ≡ f (v x))
      → (back : Option ℕ) (xs : List A) → AllByRecursion P xs → last_value_of g back p (map w xs) ≡ last_value_of f back q (map v xs)
  last_both p q same g f alike back xs h =
      last_mapped w P p (λ x. q (v x)) same g (λ x. f (v x)) alike back xs h
      ∙ sym (last_mapped v P q (λ x. q (v x)) (λ x r. refl) f (λ x. f (v x)) (λ x r. refl) back xs h)
