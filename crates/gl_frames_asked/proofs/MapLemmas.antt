-- Lists of rows in another form: what is taken of them by place, by test and by frame.
use Rattle.std.proofs.Common.{◌≡◌, ℕ, zero, suc, ◌-◌, Bool, true, false, cond, List, [], ◌∷◌, ◌++◌, Option, Some, None, length, drop, refl, sym, ap, ◌∙◌}
use Rattle.std.specs.Prelude.{◌||◌, filter, map, reverse, slice_get}
use Rattle.std.specs.List.{list_any}
use Rattle.std.specs.Option.{option_map}
use Rattle.std.proofs.lemmas.List.{drop-map, map-append, reverse-append}
use Rattle.gl_bits.proofs.AllLists.{length_map}
use Rattle.gl_frames.specs.Frames.{frame_of, lag_of, last_value_of, number_or, row_before, rows_preceding}

module _ {A B : Type 0} (f : A → B) where
  pub filter_mapped : (p : B → Bool) (xs : List A) → filter p (map f xs) ≡ map f (filter (λ x. p (f x)) xs)
  filter_mapped p [] = refl
  filter_mapped p (x ∷ xs) = by (p (f x)) (filter_mapped p xs)
    where
      by : (b : Bool) → filter p (map f xs) ≡ map f (filter (λ y. p (f y)) xs)
          → cond b (f x ∷ filter p (map f xs)) (filter p (map f xs)) ≡ map f (cond b (x ∷ filter (λ y. p (f y)) xs) (filter (λ y. p (f y)) xs))
      by true rest = ap (λ l. f x ∷ l) rest
      by false rest = rest

  pub any_mapped : (p : B → Bool) (xs : List A) → list_any p (map f xs) ≡ list_any (λ x. p (f x)) xs
  any_mapped p [] = refl
  any_mapped p (x ∷ xs) = ap (λ (b : Bool). p (f x) || b) (any_mapped p xs)

  reverse_mapped : (xs : List A) → reverse (map f xs) ≡ map f (reverse xs)
  reverse_mapped [] = refl
  reverse_mapped (x ∷ xs) =
      reverse-append (f x ∷ []) (map f xs) ∙ ap (λ l. l ++ f x ∷ []) (reverse_mapped xs)
      ∙ sym (map-append f (reverse xs) (x ∷ [])) ∙ ap (map f) (sym (reverse-append (x ∷ []) xs))

  get_option : (xs : List A) (i : ℕ) → slice_get (map f xs) i ≡ option_map f (slice_get xs i)
  get_option [] i = refl
  get_option (x ∷ xs) zero = refl
  get_option (x ∷ xs) (suc i) = get_option xs i

  pub before_mapped : (n : ℕ) (xs : List A) → row_before n (map f xs) ≡ option_map f (row_before n xs)
  before_mapped n xs = ap (λ l. slice_get l n) (reverse_mapped xs) ∙ get_option (reverse xs) n

  preceding_mapped : (back : Option ℕ) (xs : List A) → rows_preceding back (map f xs) ≡ map f (rows_preceding back xs)
  preceding_mapped None xs = refl
  preceding_mapped (Some k) xs = ap (λ n. drop (n - suc k) (map f xs)) (length_map f xs) ∙ drop-map f (length xs - suc k) xs

  pub frame_mapped : (back : Option ℕ) (passes : B → Bool) (xs : List A) → frame_of back passes (map f xs) ≡ map f (frame_of back (λ x. passes (f x)) xs)
  frame_mapped back passes xs = ap (filter passes) (preceding_mapped back xs) ∙ filter_mapped passes (rows_preceding back xs)

  number_mapped : (value : B → ℕ) (o : Option A) → number_or value (option_map f o) ≡ number_or (λ x. value (f x)) o
  number_mapped value None = refl
  number_mapped value (Some x) = refl

  pub lag_mapped : (value : B → ℕ) (k : ℕ) (xs : List A) → lag_of value k (map f xs) ≡ lag_of (λ x. value (f x)) k xs
  lag_mapped value k xs = ap (number_or value) (before_mapped k xs) ∙ number_mapped value (row_before k xs)

  pub last_mapped : (value : B → ℕ) (back : Option ℕ) (passes : B → Bool) (xs : List A)
      → last_value_of value back passes (map f xs) ≡ last_value_of (λ x. value (f x)) back (λ x. passes (f x)) xs
  last_mapped value back passes xs =
      ap (λ l. number_or value (row_before 0 l)) (frame_mapped back passes xs) ∙ lag_mapped value 0 (frame_of back (λ x. passes (f x)) xs)
