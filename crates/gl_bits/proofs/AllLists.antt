-- Plain facts about lists: their lengths and places, facts of all their elements, and words of texts.
use Rattle.std.proofs.Common.{◌≡◌, Bool, true, false, ◌||◌, ℕ, zero, suc, ◌+◌, ◌-◌, ◌<◌, ◌≤◌, List, [], ◌∷◌, ◌++◌, length, length-drop, take, drop, get_or, get_or-drop, None, Some, refl, sym, ap, subst, ◌∙◌, arith}
use Rattle.std.specs.Prelude.{map, slice_get}
use Rattle.std.specs.List.{AllByRecursion, AllZip, list_any}
use Rattle.std.proofs.lemmas.List.{take_more}
use Rattle.gl_bits.proofs.Options.{not_some, some_same}

-- ---- all elements

pub all_append : {A : Type 0} (P : A → Type 0) (xs ys : List A) → AllByRecursion P xs → AllByRecursion P ys → AllByRecursion P (xs ++ ys)
all_append P [] ys p q = q
all_append P (x ∷ xs) ys p q = (p.0, all_append P xs ys p.1 q)

pub all_push : {A : Type 0} (P : A → Type 0) (xs : List A) (x : A) → AllByRecursion P xs → P x → AllByRecursion P (xs ++ x ∷ [])
all_push P xs x h p = all_append P xs (x ∷ []) h (p, tt)

pub all_front : {A : Type 0} (P : A → Type 0) (xs ys : List A) → AllByRecursion P (xs ++ ys) → AllByRecursion P xs
all_front P [] ys h = tt
all_front P (x ∷ xs) ys h = (h.0, all_front P xs ys h.1)

pub all_back : {A : Type 0} (P : A → Type 0) (xs ys : List A) → AllByRecursion P (xs ++ ys) → AllByRecursion P ys
all_back P [] ys h = h
all_back P (x ∷ xs) ys h = all_back P xs ys h.1

pub all_parts : {A : Type 0} (P : A → Type 0) (xs ys : List A) → AllByRecursion P (xs ++ ys) → AllByRecursion P xs × AllByRecursion P ys
all_parts P xs ys h = (all_front P xs ys h, all_back P xs ys h)

pub all_weaker : {A : Type 0} (P Q : A → Type 0) (f : (x : A) → P x → Q x) (xs : List A) → AllByRecursion P xs → AllByRecursion Q xs
all_weaker P Q f [] h = tt
all_weaker P Q f (x ∷ xs) h = (f x h.0, all_weaker P Q f xs h.1)

pub all_mapped : {A B : Type 0} (P : B → Type 0) (f : A → B) (xs : List A) → AllByRecursion (λ x. P (f x)) xs → AllByRecursion P (map f xs)
all_mapped P f [] h = tt
all_mapped P f (x ∷ xs) h = (h.0, all_mapped P f xs h.1)

-- what holds of each holds of the one at a place
pub mapped_at : {A B : Type 0} (P : B → Type 0) (f : A → B) (xs : List A) (i : ℕ) (x : A) → AllByRecursion P (map f xs) → i < length xs → x ≡ get_or xs i x → P (f x)
mapped_at P f [] i x h lt e = absurd (omega (arith, lt))
mapped_at P f (y ∷ ys) zero x h lt e = subst (λ z. P (f z)) (sym e) h.0
mapped_at P f (y ∷ ys) (suc i) x h lt e = mapped_at P f ys i x h.1 (omega (arith, lt)) e

pub all_of_mapped : {A B : Type 0} (P : B → Type 0) (f : A → B) (xs : List A) → AllByRecursion P (map f xs) → AllByRecursion (λ x. P (f x)) xs
all_of_mapped P f [] h = tt
all_of_mapped P f (x ∷ xs) h = (h.0, all_of_mapped P f xs h.1)

pub all_at : {A : Type 0} (P : A → Type 0) (xs : List A) (i : ℕ) (x : A) → slice_get xs i ≡ Some x → AllByRecursion P xs → P x
all_at P [] i x h all = absurd (not_some x h)
all_at P (y ∷ xs) zero x h all = let same : y ≡ x = cc in rw (← same) all.0
all_at P (y ∷ xs) (suc i) x h all = all_at P xs i x h all.1

pub all_by_place : {A : Type 0} (P : A → Type 0) (xs : List A) → ((i : ℕ) (x : A) → slice_get xs i ≡ Some x → P x) → AllByRecursion P xs
all_by_place P [] h = tt
all_by_place P (x ∷ xs) h = (h 0 x refl, all_by_place P xs (λ i y e. h (suc i) y e))

pub zip_append : {A B : Type 0} (R : A → B → Type 0) (xs vs : List A) (ys ws : List B) → AllZip R xs ys → AllZip R vs ws → AllZip R (xs ++ vs) (ys ++ ws)
zip_append R [] vs [] ws h k = k
zip_append R [] vs (y ∷ ys) ws h k = absurd h
zip_append R (x ∷ xs) vs [] ws h k = absurd h
zip_append R (x ∷ xs) vs (y ∷ ys) ws h k = (h.0, zip_append R xs vs ys ws h.1 k)

-- ---- lengths and places

-- some element of a list is some element of a longer one
pub any_front : {A : Type 0} (p : A → Bool) (xs ys : List A) → list_any p xs ≡ true → list_any p (xs ++ ys) ≡ true
any_front p [] ys h = absurd (cc)
any_front p (x ∷ xs) ys h = split (p x) h (λ e. any_front p xs ys e)
  where
    split : (b : Bool) → (b || list_any p xs) ≡ true → (list_any p xs ≡ true → list_any p (xs ++ ys) ≡ true) → (b || list_any p (xs ++ ys)) ≡ true
    split true e rest = refl
    split false e rest = rest e

pub length_map : {A B : Type 0} (f : A → B) (xs : List A) → length (map f xs) ≡ length xs
length_map f [] = refl
length_map f (x ∷ xs) = ap suc (length_map f xs)

pub map_map : {A B C : Type 0} (g : B → C) (f : A → B) (xs : List A) → map g (map f xs) ≡ map (λ x. g (f x)) xs
map_map g f [] = refl
map_map g f (x ∷ xs) = ap (λ l. g (f x) ∷ l) (map_map g f xs)

pub get_front : {A : Type 0} (xs ys : List A) (i : ℕ) (x : A) → slice_get xs i ≡ Some x → slice_get (xs ++ ys) i ≡ Some x
get_front [] ys i x h = absurd (not_some x h)
get_front (z ∷ xs) ys zero x h = h
get_front (z ∷ xs) ys (suc i) x h = get_front xs ys i x h

pub get_last : {A : Type 0} (xs : List A) (x : A) → slice_get (xs ++ x ∷ []) (length xs) ≡ Some x
get_last [] x = refl
get_last (y ∷ xs) x = get_last xs x

pub get_mapped : {A B : Type 0} (f : A → B) (xs : List A) (i : ℕ) (x : A) → slice_get xs i ≡ Some x → slice_get (map f xs) i ≡ Some (f x)
get_mapped f [] i x h = absurd (not_some x h)
get_mapped f (y ∷ xs) zero x h = let same : y ≡ x = cc in ap (λ z. Some (f z)) same
get_mapped f (y ∷ xs) (suc i) x h = get_mapped f xs i x h

-- what stands in a list that was mapped is made of what stands at its place
pub get_unmapped : {A B : Type 0} (f : A → B) (xs : List A) (i : ℕ) (y : B) → slice_get (map f xs) i ≡ Some y → (x : A) × (slice_get xs i ≡ Some x) × (f x ≡ y)
get_unmapped f [] i y h = absurd (not_some y h)
get_unmapped f (x ∷ xs) zero y h = (x, refl, some_same (f x) y h)
get_unmapped f (x ∷ xs) (suc i) y h = get_unmapped f xs i y h

pub get_below : {A : Type 0} (xs : List A) (i : ℕ) (x : A) → slice_get xs i ≡ Some x → i < length xs
get_below [] i x h = absurd (not_some x h)
get_below (y ∷ xs) zero x h = omega arith
get_below (y ∷ xs) (suc i) x h = let below = get_below xs i x h in omega arith

-- something stands at each place
pub get_there : {A : Type 0} (xs : List A) (i : ℕ) → i < length xs → (x : A) × (slice_get xs i ≡ Some x)
get_there [] i lt = absurd (omega arith)
get_there (x ∷ xs) zero lt = (x, refl)
get_there (x ∷ xs) (suc i) lt = get_there xs i (omega arith)

-- the front of a list with one element more
pub taken_next : {A : Type 0} (xs : List A) (i : ℕ) (x : A) → i < length xs → x ≡ get_or xs i x → take (i + 1) xs ≡ take i xs ++ x ∷ []
taken_next [] i x below is = absurd (omega arith)
taken_next (y ∷ xs) zero x below is = ap (λ z. z ∷ []) (sym is)
taken_next (y ∷ xs) (suc i) x below is =
    let place : suc i + 1 ≡ suc (i + 1) = omega arith in
    ap (λ n. take n (y ∷ xs)) place ∙ ap (λ l. y ∷ l) (taken_next xs i x (omega arith) is)

pub get_past : {A : Type 0} (xs : List A) (i : ℕ) → length xs ≤ i → slice_get xs i ≡ None
get_past [] i le = refl
get_past (y ∷ xs) zero le = absurd (omega (arith, le))
get_past (y ∷ xs) (suc i) le = get_past xs i (omega (arith, le))

-- two lists that are the same begin alike and go on alike
pub heads : {A : Type 0} (x y : A) (xs ys : List A) → x ∷ xs ≡ y ∷ ys → x ≡ y
heads x y xs ys h = cc

pub tails : {A : Type 0} (x y : A) (xs ys : List A) → x ∷ xs ≡ y ∷ ys → xs ≡ ys
tails x y xs ys h = cc

-- ---- words of a text

-- a word that begins at a place grows by the byte behind it
pub word_grows : (text : List ℕ) (from at : ℕ) → from ≤ at → at < length text → take (at + 1 - from) (drop from text) ≡ take (at - from) (drop from text) ++ get_or text at 0 ∷ []
word_grows text from at le lt =
    let n : at + 1 - from ≡ at - from + 1 = omega arith in
    let short : at - from < length (drop from text) = omega (arith, length-drop from text) in
    let place : from + (at - from) ≡ at = omega arith in
    rw (n, take_more (drop from text) (at - from) 0 short) (ap (λ (x : ℕ). take (at - from) (drop from text) ++ x ∷ []) (get_or-drop from text (at - from) 0 ∙ ap (λ (k : ℕ). get_or text k 0) place))

pub word_starts : (text : List ℕ) (at : ℕ) → at < length text → take (at + 1 - at) (drop at text) ≡ get_or text at 0 ∷ []
word_starts text at lt = word_grows text at at (omega arith) lt ∙ ap (λ (k : ℕ). take k (drop at text) ++ get_or text at 0 ∷ []) (let z : at - at ≡ 0 = omega arith in z)
