-- Slices: the slice at a place, what is in one, and how they go on.
use Rattle.std.proofs.Common.{◌≡◌, ℕ, zero, suc, ◌+◌, ◌*◌, ◌/◌, ◌%◌, ◌<◌, ◌≤◌, List, [], ◌∷◌, cond, length, length-drop, take, drop, refl, sym, ap, ◌∙◌, arith, add-zero, zero-add, drop-drop, take_all, append_assoc, append-nil, ◌++◌, min, ◌≢◌, inl, inr}
use Rattle.std.specs.Prelude.{Bool, true, false, Option, Some, None, filter, map, nat_lt, slice_get}
use Rattle.std.specs.List.{filter_map, cons_option, range_with_len}
use Rattle.std.proofs.lemmas.Bool.Decides.{leb_tells}
use Rattle.std.proofs.lemmas.List.{drop_all}
use Rattle.std.proofs.lemmas.Bool.{lt-ltb, le-ltb}
use Rattle.std.proofs.Math.Nat.{le-mul_of_pos_right}
use Rattle.std.proofs.lemmas.Nat.{div-add-mod', mod_below}
use Rattle.gl_values.specs.Lists.{part, slice_at, slices}
use Rattle.gl_values.specs.Laws.{IsInSlice}

-- ---- a list of all that a function gives, where it stops giving for good

none_later : {A : Type 0} (h : ℕ → Option A) → ((i : ℕ) → h i ≡ None → h (i + 1) ≡ None) → (a j : ℕ) → h a ≡ None → h (a + j) ≡ None
none_later h stops a zero e = rw add-zero e
none_later h stops a (suc j) e =
    let next : h (a + 1) ≡ None = stops a e in
    let place : a + suc j ≡ a + 1 + j = omega arith in
    ap h place ∙ none_later h stops (a + 1) j next

filter_map-none : {A : Type 0} (h : ℕ → Option A) → ((i : ℕ) → h i ≡ None → h (i + 1) ≡ None) → (a n : ℕ) → h a ≡ None → filter_map h (range_with_len a n) ≡ []
filter_map-none h stops a zero e = refl
filter_map-none h stops a (suc n) e = rw e (filter_map-none h stops (a + 1) n (stops a e))

pub get-filter_map : {A : Type 0} (h : ℕ → Option A) → ((i : ℕ) → h i ≡ None → h (i + 1) ≡ None) → (a n j : ℕ) → h (a + n) ≡ None → slice_get (filter_map h (range_with_len a n)) j ≡ h (a + j)
get-filter_map h stops a zero j last =
    let here : h a ≡ None = rw add-zero at last in
    sym (none_later h stops a j here)
get-filter_map {A = A} h stops a (suc n) j last =
    let place : a + 1 + n ≡ a + suc n = omega arith in
    split (h a) refl j (λ i. get-filter_map h stops (a + 1) n i (ap h place ∙ last))
  where
    split : (o : Option A) → h a ≡ o → (j : ℕ) → ((i : ℕ) → slice_get (filter_map h (range_with_len (a + 1) n)) i ≡ h (a + 1 + i)) → slice_get (cons_option o (filter_map h (range_with_len (a + 1) n))) j ≡ h (a + j)
    split None e j next =
        ap (λ l. slice_get l j) (filter_map-none h stops (a + 1) n (stops a e)) ∙ sym (none_later h stops a j e)
    split (Some x) e zero next = rw add-zero (sym e)
    split (Some x) e (suc j) next =
        let place : a + 1 + j ≡ a + suc j = omega arith in
        next j ∙ ap h place

-- ---- the slice at a place

pub slice_at-some : {A : Type 0} (size advance : ℕ) (xs : List A) (j : ℕ) → j * advance < length xs → slice_at size advance xs j ≡ Some (part size (j * advance) xs)
slice_at-some size advance xs j within = ap (λ b. cond b (Some (part size (j * advance) xs)) None) (lt-ltb (j * advance) (length xs) within)

pub slice_at-none : {A : Type 0} (size advance : ℕ) (xs : List A) (j : ℕ) → length xs ≤ j * advance → slice_at size advance xs j ≡ None
slice_at-none size advance xs j past = ap (λ b. cond b (Some (part size (j * advance) xs)) None) (le-ltb _ _ past)

slice_at-stops : {A : Type 0} (size advance : ℕ) (xs : List A) (j : ℕ) → slice_at size advance xs j ≡ None → slice_at size advance xs (j + 1) ≡ None
slice_at-stops size advance xs j none =
    elim (leb_tells (suc (j * advance)) (length xs)) [
      | inl t ↦ absurd (let some = slice_at-some size advance xs j t.1 in cc)
      | inr t ↦ slice_at-none size advance xs (j + 1) (omega arith)
    ]

-- the parts from the numbers that begin within the list are what `slice_at` gives of all
slices-at : {A : Type 0} (size advance : ℕ) (xs : List A) (js : List ℕ)
    → map (λ j. part size (j * advance) xs) (filter (λ j. nat_lt (j * advance) (length xs)) js) ≡ filter_map (slice_at size advance xs) js
slices-at size advance xs [] = refl
slices-at {A = A} size advance xs (j ∷ js) = split (nat_lt (j * advance) (length xs)) (slices-at size advance xs js)
  where
    here : List A
    here = part size (j * advance) xs

    split : (b : Bool)
        → map (λ i. part size (i * advance) xs) (filter (λ i. nat_lt (i * advance) (length xs)) js) ≡ filter_map (slice_at size advance xs) js
        → map (λ i. part size (i * advance) xs) (cond b (j ∷ filter (λ i. nat_lt (i * advance) (length xs)) js) (filter (λ i. nat_lt (i * advance) (length xs)) js))
        ≡ cons_option (cond b (Some here) None) (filter_map (slice_at size advance xs) js)
    split true h = ap (λ l. here ∷ l) h
    split false h = h

pub get-slices : {A : Type 0} (size advance : ℕ) (xs : List A) (j : ℕ) → 1 ≤ advance → slice_get (slices size advance xs) j ≡ slice_at size advance xs j
unfolding slices
get-slices size advance xs j some =
    let far : length xs ≤ length xs * advance = le-mul_of_pos_right {m = advance} (length xs) some in
    ap (λ l. slice_get l j) (slices-at size advance xs (range_with_len 0 (length xs)))
    ∙ get-filter_map (slice_at size advance xs) (slice_at-stops size advance xs) 0 (length xs) j (ap (slice_at size advance xs) (zero-add (length xs)) ∙ slice_at-none size advance xs (length xs) far) ∙ ap (slice_at size advance xs) (zero-add j)

pub slices-nil : {A : Type 0} (size advance : ℕ) → slices {A = A} size advance [] ≡ []
unfolding slices
slices-nil size advance = refl

-- ---- every element is in a slice where they leave no gap

pub get-take : {A : Type 0} (k : ℕ) (xs : List A) (i : ℕ) → i < k → slice_get (take k xs) i ≡ slice_get xs i
get-take zero xs i lt = absurd (omega arith)
get-take (suc k) [] i lt = refl
get-take (suc k) (x ∷ xs) zero lt = refl
get-take (suc k) (x ∷ xs) (suc i) lt = get-take k xs i (omega arith)

pub get-drop : {A : Type 0} (k : ℕ) (xs : List A) (i : ℕ) → slice_get (drop k xs) i ≡ slice_get xs (k + i)
get-drop zero xs i = ap (slice_get xs) (sym (zero-add i))
get-drop (suc k) [] i = refl
get-drop (suc k) (x ∷ xs) i =
    let place : suc k + i ≡ suc (k + i) = omega arith in
    get-drop k xs i ∙ ap (slice_get (x ∷ xs)) (sym place)

pub in_slice : {A : Type 0} (size advance : ℕ) (xs : List A) (i : ℕ) → 1 ≤ advance → advance ≤ size → i < length xs → IsInSlice size advance xs i
in_slice size advance xs i some near within =
    let j = i / advance in
    let r = i % advance in
    let is : j * advance + r ≡ i = div-add-mod' i advance in
    let low : r < advance = mod_below i advance some in
    let there : j * advance < length xs = omega arith in
    let rows = part size (j * advance) xs in
    let same : slice_get rows r ≡ slice_get xs (j * advance + r) =
    get-take size (drop (j * advance) xs) r (omega arith) ∙ get-drop (j * advance) xs r
    in
    record {
      slice = j;
      rows = rows;
      is = get-slices size advance xs j some ∙ slice_at-some size advance xs j there;
      place = r;
      from = is;
      same = same ∙ ap (slice_get xs) is;
    }

-- ---- how slices go on: the first is at the front, the next begins `advance` later

pub same_by_gets : {A : Type 0} (xs ys : List A) → ((i : ℕ) → slice_get xs i ≡ slice_get ys i) → xs ≡ ys
same_by_gets [] [] same = refl
same_by_gets [] (y ∷ ys) same = absurd (let e = same 0 in cc)
same_by_gets (x ∷ xs) [] same = absurd (let e = same 0 in cc)
same_by_gets (x ∷ xs) (y ∷ ys) same =
    let first : x ≡ y = (let e = same 0 in cc) in
    let rest : xs ≡ ys = same_by_gets xs ys (λ i. same (suc i)) in
    cc

slice_at-suc : {A : Type 0} (size advance : ℕ) (xs : List A) (j : ℕ) → slice_at size advance xs (suc j) ≡ slice_at size advance (drop advance xs) j
slice_at-suc size advance xs j =
    let place : suc j * advance ≡ advance + j * advance = omega arith in
    elim (leb_tells (suc (suc j * advance)) (length xs)) [
      | inl t ↦
          let here : j * advance < length (drop advance xs) = omega (arith, length-drop advance xs) in
          slice_at-some size advance xs (suc j) t.1 ∙ ap (λ n. Some (take size (drop n xs))) place ∙ ap (λ l. Some (take size l)) (sym (drop-drop (j * advance) advance xs)) ∙ sym (slice_at-some size advance (drop advance xs) j here)
      | inr t ↦
          let past : length (drop advance xs) ≤ j * advance = omega (arith, length-drop advance xs) in
          slice_at-none size advance xs (suc j) (omega arith) ∙ sym (slice_at-none size advance (drop advance xs) j past)
    ]

pub slices-cons : {A : Type 0} (size advance : ℕ) (x : A) (xs : List A) → 1 ≤ advance → slices size advance (x ∷ xs) ≡ take size (x ∷ xs) ∷ slices size advance (drop advance (x ∷ xs))
slices-cons size advance x xs some = same_by_gets _ _ each
  where
    each : (j : ℕ) → slice_get (slices size advance (x ∷ xs)) j ≡ slice_get (take size (x ∷ xs) ∷ slices size advance (drop advance (x ∷ xs))) j
    each zero =
        let none : 0 * advance ≡ 0 = omega arith in
        get-slices size advance (x ∷ xs) 0 some ∙ slice_at-some size advance (x ∷ xs) 0 (omega arith) ∙ ap (λ n. Some (part size n (x ∷ xs))) none
    each (suc j) = get-slices size advance (x ∷ xs) (suc j) some ∙ slice_at-suc size advance (x ∷ xs) j ∙ sym (get-slices size advance (drop advance (x ∷ xs)) j some)

-- ---- the loop over what is left

drop-min : {A : Type 0} (n : ℕ) (xs : List A) → drop (min n (length xs)) xs ≡ drop n xs
drop-min n xs = elim (leb_tells n (length xs)) [
  | inl t ↦ (let e : min n (length xs) ≡ n = omega arith in ap (λ m. drop m xs) e)
  | inr t ↦ (let e : min n (length xs) ≡ length xs = omega arith in ap (λ m. drop m xs) e ∙ drop_all (length xs) xs (omega arith) ∙ sym (drop_all n xs (omega arith)))
]

take-min : {A : Type 0} (n : ℕ) (xs : List A) → take (min n (length xs)) xs ≡ take n xs
take-min n xs = elim (leb_tells n (length xs)) [
  | inl t ↦ (let e : min n (length xs) ≡ n = omega arith in ap (λ m. take m xs) e)
  | inr t ↦ (let e : min n (length xs) ≡ length xs = omega arith in ap (λ m. take m xs) e ∙ take_all (length xs) xs (omega arith) ∙ sym (take_all n xs (omega arith)))
]

pub slices_end : {A : Type 0} (size advance : ℕ) (xs : List A) → length xs ≡ 0 → slices size advance xs ≡ []
slices_end size advance [] e = slices-nil size advance
slices_end size advance (x ∷ xs) e = absurd (omega arith)

pub slices_next : {A : Type 0} (size advance : ℕ) (xs : List A) → 1 ≤ advance → length xs ≢ 0 → take (min size (length xs)) xs ∷ slices size advance (drop (min advance (length xs)) xs) ≡ slices size advance xs
slices_next size advance [] some more = absurd (more refl)
slices_next size advance (x ∷ xs) some more =
    ap (λ l. l ∷ slices size advance (drop (min advance (length (x ∷ xs))) (x ∷ xs))) (take-min size (x ∷ xs))
    ∙ ap (λ l. take size (x ∷ xs) ∷ slices size advance l) (drop-min advance (x ∷ xs))
    ∙ sym (slices-cons size advance x xs some)

pub slices_kept : {A : Type 0} (size advance : ℕ) (all outs : List (List A)) (rest slice later : List A) → 1 ≤ advance → length rest ≢ 0
    → slice ≡ take (min size (length rest)) rest → later ≡ drop (min advance (length rest)) rest → outs ++ slices size advance rest ≡ all → outs ++ slice ∷ [] ++ slices size advance later ≡ all
slices_kept size advance all outs rest slice later some more front back kept =
    append_assoc outs (slice ∷ []) (slices size advance later)
    ∙ ap (λ l. outs ++ l ∷ slices size advance later) front
    ∙ ap (λ l. outs ++ take (min size (length rest)) rest ∷ slices size advance l) back
    ∙ ap (λ l. outs ++ l) (slices_next size advance rest some more)
    ∙ kept

pub slices_done : {A : Type 0} (size advance : ℕ) (all outs : List (List A)) (rest : List A) → length rest ≡ 0 → outs ++ slices size advance rest ≡ all → outs ≡ all
slices_done size advance all outs rest none kept =
    sym (append-nil outs) ∙ ap (λ l. outs ++ l) (sym (slices_end size advance rest none)) ∙ kept
