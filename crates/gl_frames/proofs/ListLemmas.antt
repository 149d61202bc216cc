-- The last rows of a list, the rows before one, and what is made of the rows up to each.
use Rattle.std.proofs.Common.{◌≡◌, ℕ, zero, suc, ◌+◌, ◌-◌, ◌<◌, ◌≤◌, List, [], ◌∷◌, ◌++◌, Option, Some, None, Bool, length, take, drop, refl, sym, ap, ◌∙◌, subst, arith, append_assoc, append-nil, inl, inr}
use Rattle.std.specs.Prelude.{min, reverse, slice_get, option_to_list, if◌then◌else◌}
use Rattle.std.specs.List.{cons_option}
use Rattle.std.proofs.lemmas.Bool.{cases_lt, le-leb, lt-leb, lt-ltb, le-ltb}
use Rattle.std.proofs.lemmas.List.{drop_at, drop-take, get_or-reverse, length-drop, length-reverse, length-take, reverse-append, reverse-reverse, take-append-drop, take_at}
use Rattle.std.proofs.lemmas.Option.{slice_get-get_or, slice_get_past}
use Rattle.gl_values.proofs.Slicing.{get-drop, get-take}
use Rattle.gl_frames.specs.Frames.{but_last, each_of, framed, last_ones, row_before}
use Rattle.gl_frames.specs.Laws.{FramesArePlain, LagsArePlain, RingsGiveEarlier, RowsAreFramed, ShortFramesAreWhole}

module _ {A : Type 0} where
  -- a list backwards, cut at a place of it
  backwards : (n : ℕ) (h : List A) → reverse h ≡ reverse (drop n h) ++ reverse (take n h)
  backwards n h = ap reverse (sym (take-append-drop n h)) ∙ reverse-append (take n h) (drop n h)

  rest_length : (n : ℕ) (h : List A) → length (reverse (drop n h)) ≡ length (reverse h) - n
  rest_length n h = length-reverse (drop n h) ∙ length-drop n h ∙ ap (λ k. k - n) (sym (length-reverse h))

  pub last_is : (n : ℕ) (xs : List A) → last_ones n xs ≡ reverse (take n (reverse xs))
  last_is n xs =
      let h : List A = reverse xs in
      ap (last_ones n) (sym (reverse-reverse xs))
      ∙ ap (drop (length (reverse h) - n)) (backwards n h) ∙ drop_at (reverse (drop n h)) (reverse (take n h)) (length (reverse h) - n) (rest_length n h)

  pub but_last_is : (n : ℕ) (xs : List A) → but_last n xs ≡ reverse (drop n (reverse xs))
  but_last_is n xs =
      let h : List A = reverse xs in
      ap (but_last n) (sym (reverse-reverse xs))
      ∙ ap (take (length (reverse h) - n)) (backwards n h) ∙ take_at (reverse (drop n h)) (reverse (take n h)) (length (reverse h) - n) (rest_length n h)

  pub one_more : (xs : List A) (x : A) → reverse (xs ++ x ∷ []) ≡ x ∷ reverse xs
  one_more xs x = reverse-append xs (x ∷ [])

  -- from the last one
  get_reverse : (ys : List A) (k : ℕ) → k < length ys → slice_get (reverse ys) k ≡ slice_get ys (length ys - 1 - k)
  get_reverse [] k lt = absurd (omega (arith, lt))
  get_reverse (x ∷ xs) k lt =
      let ys : List A = x ∷ xs in
      slice_get-get_or (reverse ys) k x (subst (λ n. k < n) (sym (length-reverse ys)) lt) ∙ ap Some (get_or-reverse ys k x lt)
      ∙ sym (slice_get-get_or ys (length ys - 1 - k) x (omega (arith, lt)))

  pub before_within : (k : ℕ) (ys : List A) → k < length ys → row_before k ys ≡ slice_get ys (length ys - 1 - k)
  before_within k ys lt = get_reverse ys k lt

  pub before_past : (k : ℕ) (ys : List A) → length ys ≤ k → row_before k ys ≡ None
  before_past k ys le = slice_get_past (reverse ys) k (subst (λ n. n ≤ k) (sym (length-reverse ys)) le)

  up_to : (xs : List A) (i : ℕ) → i < length xs → length (take (suc i) xs) ≡ suc i
  up_to xs i lt = length-take (suc i) xs ∙ omega (arith, lt)

  pub frames_plain : FramesArePlain A
  frames_plain xs k i m lt le =
      let size : suc i - suc k ≡ i - k = omega arith in
      let whole : suc i ≡ i - k + suc k = omega (arith, le) in
      ap (λ l. slice_get (drop l (take (suc i) xs)) m) (ap (λ l. l - suc k) (up_to xs i lt) ∙ size)
      ∙ ap (λ n. slice_get (drop (i - k) (take n xs)) m) whole ∙ ap (λ l. slice_get l m) (drop-take (i - k) (suc k) xs)
      ∙ elim (cases_lt k m) [
        | inl far ↦ slice_get_past (take (suc k) (drop (i - k) xs)) m (few far)
            ∙ sym (ap (λ (b : Bool). if b then slice_get xs (i - k + m) else None) (lt-leb m k far))
        | inr near ↦ get-take (suc k) (drop (i - k) xs) m (omega (arith, near)) ∙ get-drop (i - k) xs m
            ∙ sym (ap (λ (b : Bool). if b then slice_get xs (i - k + m) else None) (le-leb m k near))
      ]
    where
      few : k < m → length (take (suc k) (drop (i - k) xs)) ≤ m
      few far = let e : length (take (suc k) (drop (i - k) xs)) ≡ min (suc k) (length (drop (i - k) xs)) = length-take (suc k) (drop (i - k) xs) in omega (arith, e, far)

  pub frames_short : ShortFramesAreWhole A
  frames_short xs k i lt =
      let some : length (take (suc i) xs) ≤ suc i = few in
      let none : length (take (suc i) xs) - suc k ≡ 0 = omega (arith, some, lt) in
      ap (λ n. drop n (take (suc i) xs)) none
    where
      few : length (take (suc i) xs) ≤ suc i
      few = let e = length-take (suc i) xs in omega (arith, e)

  pub lags_plain : LagsArePlain A
  lags_plain xs k i lt = elim (cases_lt i k) [
    | inl far ↦ before_past k (take (suc i) xs) (let e = up_to xs i lt in omega (arith, e, far))
        ∙ sym (ap (λ (b : Bool). if b then slice_get xs (i - k) else None) (lt-leb k i far))
    | inr near ↦ before_within k (take (suc i) xs) (let e = up_to xs i lt in omega (arith, e, near))
        ∙ ap (slice_get (take (suc i) xs)) (place near) ∙ get-take (suc i) xs (i - k) (omega arith)
        ∙ sym (ap (λ (b : Bool). if b then slice_get xs (i - k) else None) (le-leb k i near))
  ]
    where
      place : k ≤ i → length (take (suc i) xs) - 1 - k ≡ i - k
      place near = let e = up_to xs i lt in omega (arith, e, near)

-- ---- what is made of the rows up to each

module _ {A B : Type 0} where
  -- one row more
  pub each_more : (f : List A → Option B) (seen xs : List A) (x : A) → each_of f seen (xs ++ x ∷ []) ≡ each_of f seen xs ++ option_to_list (f (seen ++ xs ++ x ∷ []))
  each_more f seen [] x = alone (f (seen ++ x ∷ [])) ∙ ap (λ l. option_to_list (f (l ++ x ∷ []))) (sym (append-nil seen))
    where
      alone : (o : Option B) → cons_option o [] ≡ option_to_list o
      alone None = refl
      alone (Some y) = refl
  each_more f seen (y ∷ xs) x =
      ap (cons_option (f (seen ++ y ∷ []))) (each_more f (seen ++ y ∷ []) xs x ∙ ap (λ l. each_of f (seen ++ y ∷ []) xs ++ option_to_list (f (l ++ x ∷ []))) (append_assoc seen (y ∷ []) xs))
      ∙ moved (f (seen ++ y ∷ [])) (each_of f (seen ++ y ∷ []) xs) (option_to_list (f (seen ++ (y ∷ xs) ++ x ∷ [])))
    where
      moved : (o : Option B) (ys zs : List B) → cons_option o (ys ++ zs) ≡ cons_option o ys ++ zs
      moved None ys zs = refl
      moved (Some z) ys zs = refl

  pub each_length : (f : List A → B) (seen xs : List A) → length (each_of (λ l. Some (f l)) seen xs) ≡ length xs
  each_length f seen [] = refl
  each_length f seen (x ∷ xs) = ap suc (each_length f (seen ++ x ∷ []) xs)

  pub each_within : (f : List A → B) (seen xs : List A) (i : ℕ) → i < length xs → slice_get (each_of (λ l. Some (f l)) seen xs) i ≡ Some (f (seen ++ take (suc i) xs))
  each_within f seen [] i lt = absurd (omega (arith, lt))
  each_within f seen (x ∷ xs) zero lt = refl
  each_within f seen (x ∷ xs) (suc i) lt =
      each_within f (seen ++ x ∷ []) xs i (omega (arith, lt)) ∙ ap (λ l. Some (f l)) (append_assoc seen (x ∷ []) (take (suc i) xs))

  pub rows_framed : RowsAreFramed A B
  rows_framed f xs i = elim (cases_lt i (length xs)) [
    | inl lt ↦ each_within f [] xs i lt ∙ sym (ap (λ (b : Bool). if b then Some (f (take (suc i) xs)) else None) (lt-ltb i (length xs) lt))
    | inr le ↦ slice_get_past (framed f xs) i (subst (λ n. n ≤ i) (sym (each_length f [] xs)) le)
        ∙ sym (ap (λ (b : Bool). if b then Some (f (take (suc i) xs)) else None) (le-ltb i (length xs) le))
  ]

  pub rings_earlier : RingsGiveEarlier A B
  rings_earlier f j xs = elim (cases_lt j (length xs)) [
    | inl lt ↦ before_within j (framed f xs) (subst (λ n. j < n) (sym (each_length f [] xs)) lt)
        ∙ ap (λ n. slice_get (framed f xs) (n - 1 - j)) (each_length f [] xs)
        ∙ each_within f [] xs (length xs - 1 - j) (omega (arith, lt))
        ∙ ap (λ n. Some (f (take n xs))) (place lt)
        ∙ sym (ap (λ (b : Bool). if b then Some (f (but_last j xs)) else None) (lt-ltb j (length xs) lt))
    | inr le ↦ before_past j (framed f xs) (subst (λ n. n ≤ j) (sym (each_length f [] xs)) le)
        ∙ sym (ap (λ (b : Bool). if b then Some (f (but_last j xs)) else None) (le-ltb j (length xs) le))
  ]
    where
      place : j < length xs → suc (length xs - 1 - j) ≡ length xs - j
      place lt = omega (arith, lt)
