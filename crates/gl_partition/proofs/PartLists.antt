-- The windows of a key by counters: the one that a row completes, and those that the end cuts short, turn by turn.
use Rattle.std.proofs.Common.{◌≡◌, ℕ, zero, suc, ◌+◌, ◌-◌, ◌*◌, ◌/◌, ◌%◌, ◌<◌, ◌≤◌, min, List, [], ◌∷◌, ◌++◌, length, take, drop, map, filter, Option, Some, None, Bool, true, false, cond, ◌&&◌, ◌||◌, refl, sym, ap, ◌∙◌, subst, arith, inl, inr, mul-le-mul_right, length-take, length-drop, take_all}
use Rattle.std.specs.Prelude.{if◌then◌else◌, option_to_list, nat_eq, nat_le, nat_lt, slice_get, flat_map}
use Rattle.std.specs.List.{list_any}
use Rattle.std.proofs.Math.Nat.{mul-mod_left}
use Rattle.std.proofs.lemmas.Bool.{cases_lt, and_from, and_parts, eq-eqb, eqb-true, le-leb, leb-true, lt-ltb, le-ltb}
use Rattle.std.proofs.lemmas.List.{append-nil, append_assoc, map-append}
use Rattle.std.proofs.lemmas.List.Elements.{filter-append}
use Rattle.std.proofs.lemmas.Nat.{div-add-mod', div-mul-add, mod-mul-add}
use Rattle.gl_algebra.proofs.ListLemmas.{get-append}
use Rattle.gl_values.specs.Lists.{Group, groups, keys_of, part, rows_with}
use Rattle.gl_values.specs.Partitions.{completed, keyed, short_slices, shorts}
use Rattle.gl_bits.proofs.AllLists.{get_past}
use Rattle.gl_bits.proofs.Bools.{true_or_false}
use Rattle.gl_values.proofs.Grouping.{AreDistinct}
use Rattle.gl_wire.proofs.NumberLemmas.{mul_below}
use Rattle.gl_windows.specs.Firsts.{firsts}
use Rattle.gl_windows.proofs.SliceLemmas.{firsts-slices}
use Rattle.gl_slots.proofs.OneLemmas.{not_listed}

-- ---- the window that a row completes

-- window d, where its last row is the last one
pub completed_now : {A : Type 0} (size advance d : ℕ) (zs : List A) → length zs ≡ d * advance + size → completed size advance zs ≡ drop (d * advance) zs ∷ []
completed_now size advance d zs e =
    let start : length zs - size ≡ d * advance = omega (arith, e) in
    let long : nat_le size (length zs) ≡ true = le-leb size (length zs) (omega (arith, e)) in
    let even : nat_eq ((length zs - size) % advance) 0 ≡ true = eq-eqb _ _ (ap (λ s. s % advance) start ∙ mul-mod_left d advance) in
    ap (λ (b : Bool). if b then drop (length zs - size) zs ∷ [] else []) (and_from _ _ long even) ∙ ap (λ s. drop s zs ∷ []) start

-- none, between the last rows of two
pub completed_not : {A : Type 0} (size advance d : ℕ) (zs : List A) → length zs < d * advance + size → ((j : ℕ) → j < d → j * advance + size < length zs) → completed size advance zs ≡ []
completed_not size advance d zs less past = elim (true_or_false (nat_le size (length zs) && nat_eq ((length zs - size) % advance) 0)) [
  | inl t ↦ absurd (
      let p = and_parts (nat_le size (length zs)) (nat_eq ((length zs - size) % advance) 0) t in
      let long : size ≤ length zs = leb-true size (length zs) p.0 in
      let even : (length zs - size) % advance ≡ 0 = eqb-true _ _ p.1 in
      let whole = div-add-mod' (length zs - size) advance in
      let at : length zs ≡ (length zs - size) / advance * advance + size = omega (arith, long, even, whole) in
      let below : (length zs - size) / advance < d = mul_below ((length zs - size) / advance) d advance (omega (arith, at, less)) in
      omega (arith, past ((length zs - size) / advance) below, at))
  | inr f ↦ ap (λ (b : Bool). if b then drop (length zs - size) zs ∷ [] else []) f
]

-- ---- the windows that the end cuts short

-- n parts from the f-th on
abbrev pub later_parts : {A : Type 0} → ℕ → ℕ → ℕ → ℕ → List A → List (List A)
later_parts size advance f zero zs = []
later_parts size advance f (suc k) zs = later_parts size advance f k zs ++ part size ((f + k) * advance) zs ∷ []

pub length-later : {A : Type 0} (size advance f k : ℕ) (zs : List A) → length (later_parts size advance f k zs) ≡ k
length-later size advance f zero zs = refl
length-later size advance f (suc k) zs = length-more (later_parts size advance f k zs) (part size ((f + k) * advance) zs) ∙ ap suc (length-later size advance f k zs)
  where
    length-more : {A : Type 0} (xs : List A) (x : A) → length (xs ++ x ∷ []) ≡ suc (length xs)
    length-more [] x = refl
    length-more (y ∷ xs) x = ap suc (length-more xs x)

get_here : {A : Type 0} (xs : List A) (x : A) (m : ℕ) → length xs ≡ m → slice_get (xs ++ x ∷ []) m ≡ Some x
get_here [] x zero e = refl
get_here [] x (suc m) e = absurd (omega (arith, e))
get_here (y ∷ xs) x zero e = absurd (omega (arith, e))
get_here (y ∷ xs) x (suc m) e = get_here xs x m (omega (arith, e))

pub later_get : {A : Type 0} (size advance f k m : ℕ) (zs : List A) → m < k → slice_get (later_parts size advance f k zs) m ≡ Some (part size ((f + m) * advance) zs)
later_get size advance f zero m zs l = absurd (omega (arith, l))
later_get size advance f (suc k) m zs l = elim (cases_lt m k) [
  | inl p ↦ get-append (later_parts size advance f k zs) (part size ((f + k) * advance) zs ∷ []) m (omega (arith, p, length-later size advance f k zs)) ∙ later_get size advance f k m zs p
  | inr p ↦ (let e : k ≡ m = omega (arith, l, p) in
      subst (λ v. slice_get (later_parts size advance f (suc k) zs) v ≡ Some (part size ((f + v) * advance) zs)) e (get_here (later_parts size advance f k zs) (part size ((f + k) * advance) zs) k (length-later size advance f k zs)))
]

pub later_past : {A : Type 0} (size advance f k m : ℕ) (zs : List A) → k ≤ m → slice_get (later_parts size advance f k zs) m ≡ None
later_past size advance f k m zs l = get_past (later_parts size advance f k zs) m (omega (arith, l, length-later size advance f k zs))

length-part : {A : Type 0} (size from : ℕ) (zs : List A) → length (part size from zs) ≡ min size (length zs - from)
length-part size from zs = length-take size (drop from zs) ∙ ap (λ (v : ℕ). min size v) (length-drop from zs)

module _ {A : Type 0} (size advance q f : ℕ) (zs : List A) (whole : (j : ℕ) → j < f → j * advance + size ≤ length zs) (short : length zs < f * advance + size)
    (place : (j : ℕ) → j < q → j * advance < length zs) where
  abbrev is_short : List A → Bool
  is_short ys = nat_lt (length ys) size

  none_short : (e : ℕ) → e ≤ f → filter is_short (firsts size advance e zs) ≡ []
  none_short zero l = refl
  none_short (suc e) l =
      let full : is_short (part size (e * advance) zs) ≡ false = le-ltb (length (part size (e * advance) zs)) size (omega (arith, length-part size (e * advance) zs, whole e (omega (arith, l)))) in
      filter-append is_short (firsts size advance e zs) (part size (e * advance) zs ∷ [])
      ∙ ap (λ (ps : List (List A)). ps ++ filter is_short (part size (e * advance) zs ∷ [])) (none_short e (omega (arith, l)))
      ∙ ap (λ (b : Bool). cond b (part size (e * advance) zs ∷ []) []) full

  all_short : (k : ℕ) → f + k ≤ q → filter is_short (firsts size advance (f + k) zs) ≡ later_parts size advance f k zs
  all_short zero l = let e : f ≡ f + zero = omega arith in ap (λ (v : ℕ). filter is_short (firsts size advance v zs)) (sym e) ∙ none_short f (omega arith)
  all_short (suc k) l =
      let e : suc (f + k) ≡ f + suc k = omega arith in
      let from : f * advance ≤ (f + k) * advance = mul-le-mul_right advance (omega arith) in
      let cut : is_short (part size ((f + k) * advance) zs) ≡ true = lt-ltb (length (part size ((f + k) * advance) zs)) size (omega (arith, length-part size ((f + k) * advance) zs, short, from, place (f + k) (omega (arith, l)))) in
      ap (λ (v : ℕ). filter is_short (firsts size advance v zs)) (sym e)
      ∙ filter-append is_short (firsts size advance (f + k) zs) (part size ((f + k) * advance) zs ∷ [])
      ∙ ap (λ (ps : List (List A)). ps ++ filter is_short (part size ((f + k) * advance) zs ∷ [])) (all_short k (omega (arith, l)))
      ∙ ap (λ (b : Bool). later_parts size advance f k zs ++ cond b (part size ((f + k) * advance) zs ∷ []) []) cut

  pub shorts_are : 1 ≤ advance → length zs ≤ q * advance → f ≤ q → short_slices size advance zs ≡ later_parts size advance f (q - f) zs
  shorts_are step all low =
      let e : f + (q - f) ≡ q = omega (arith, low) in
      ap (filter is_short) (sym (firsts-slices size advance q zs step all place))
      ∙ ap (λ (v : ℕ). filter is_short (firsts size advance v zs)) (sym e)
      ∙ all_short (q - f) (omega (arith, e))

-- ---- keys

-- a number that stands in a list has a place
pub place_with : (ks : List ℕ) (x : ℕ) → list_any (nat_eq x) ks ≡ true → (j : ℕ) × (slice_get ks j ≡ Some x)
place_with [] x h = absurd (cc)
place_with (k ∷ ks) x h = by (nat_eq x k) refl h (place_with ks x)
  where
    by : (b : Bool) → nat_eq x k ≡ b → (b || list_any (nat_eq x) ks) ≡ true → (list_any (nat_eq x) ks ≡ true → (j : ℕ) × (slice_get ks j ≡ Some x)) → (j : ℕ) × (slice_get (k ∷ ks) j ≡ Some x)
    by true e g later = (0, let same = eqb-true x k e in ap (λ (v : ℕ). Some v) (sym same))
    by false e g later = let p = later g in (suc p.0, p.1)

-- of a list without repetitions it has one
pub one_place : (ks : List ℕ) (x i j : ℕ) → AreDistinct ks → slice_get ks i ≡ Some x → slice_get ks j ≡ Some x → i ≡ j
one_place [] x i j d h g = absurd (cc)
one_place (k ∷ ks) x zero zero d h g = refl
one_place (k ∷ ks) x (suc i) (suc j) d h g = ap suc (one_place ks x i j d.1 h g)
one_place (k ∷ ks) x zero (suc j) d h g = absurd (let same : k ≡ x = cc in not_listed ks k j d.0 (g ∙ ap (λ (v : ℕ). Some v) (sym same)))
one_place (k ∷ ks) x (suc i) zero d h g = absurd (let same : k ≡ x = cc in not_listed ks k i d.0 (h ∙ ap (λ (v : ℕ). Some v) (sym same)))

-- ---- turns

take_get : {A : Type 0} (m : ℕ) (xs : List A) → take (suc m) xs ≡ take m xs ++ option_to_list (slice_get xs m)
take_get zero [] = refl
take_get zero (x ∷ xs) = refl
take_get (suc m) [] = refl
take_get (suc m) (x ∷ xs) = ap (λ ys. x ∷ ys) (take_get m xs)

module _ {A : Type 0} (key : A → ℕ) (size advance copies : ℕ) (xs : List A) (ks : List ℕ) where
  -- the window that the m-th turn of a slot ends
  abbrev pub in_turn : Option ℕ → ℕ → List (Group A)
  in_turn None m = []
  in_turn (Some y) m = keyed y (option_to_list (slice_get (short_slices size advance (rows_with key xs y)) m))

  -- those of the first t turns, slot by slot
  abbrev pub turned : ℕ → List (Group A)
  turned zero = []
  turned (suc t) = turned t ++ in_turn (slice_get ks (t / copies)) (t % copies)

  -- the first m windows of a slot
  abbrev of_slot : Option ℕ → ℕ → List (Group A)
  of_slot None m = []
  of_slot (Some y) m = keyed y (take m (short_slices size advance (rows_with key xs y)))

  slot_more : (o : Option ℕ) (m : ℕ) → of_slot o (suc m) ≡ of_slot o m ++ in_turn o m
  slot_more None m = refl
  slot_more (Some y) m =
      let ss = short_slices size advance (rows_with key xs y) in
      ap (keyed y) (take_get m ss) ∙ map-append (λ rows. record { key = y; rows = rows }) (take m ss) (option_to_list (slice_get ss m))

  none_of_slot : (o : Option ℕ) → of_slot o 0 ≡ []
  none_of_slot None = refl
  none_of_slot (Some y) = refl

  slot_turned : (i m : ℕ) → m ≤ copies → turned (i * copies + m) ≡ turned (i * copies) ++ of_slot (slice_get ks i) m
  slot_turned i zero l =
      let e : i * copies + zero ≡ i * copies = omega arith in
      ap turned e ∙ sym (append-nil (turned (i * copies))) ∙ ap (λ l. turned (i * copies) ++ l) (sym (none_of_slot (slice_get ks i)))
  slot_turned i (suc m) l =
      let e : i * copies + suc m ≡ suc (i * copies + m) = omega arith in
      let slot : (i * copies + m) / copies ≡ i = div-mul-add i copies m (omega (arith, l)) in
      let turn : (i * copies + m) % copies ≡ m = mod-mul-add i copies m (omega (arith, l)) in
      ap turned e
      ∙ ap (λ l. l ++ in_turn (slice_get ks ((i * copies + m) / copies)) ((i * copies + m) % copies)) (slot_turned i m (omega (arith, l)))
      ∙ ap (λ (v : ℕ). (turned (i * copies) ++ of_slot (slice_get ks i) m) ++ in_turn (slice_get ks v) ((i * copies + m) % copies)) slot
      ∙ ap (λ (v : ℕ). (turned (i * copies) ++ of_slot (slice_get ks i) m) ++ in_turn (slice_get ks i) v) turn
      ∙ append_assoc (turned (i * copies)) (of_slot (slice_get ks i) m) (in_turn (slice_get ks i) m)
      ∙ ap (λ l. turned (i * copies) ++ l) (sym (slot_more (slice_get ks i) m))

  -- all windows of a key
  abbrev whole_slot : ℕ → List (Group A)
  whole_slot y = keyed y (short_slices size advance (rows_with key xs y))

  module _ (few : (i y : ℕ) → slice_get ks i ≡ Some y → length (short_slices size advance (rows_with key xs y)) ≤ copies) where
    slots_turned : (i : ℕ) → turned (i * copies) ≡ flat_map whole_slot (take i ks)
    slots_turned zero = let e : 0 * copies ≡ 0 = omega arith in ap turned e
    slots_turned (suc i) =
        let e : suc i * copies ≡ i * copies + copies = omega arith in
        ap turned e ∙ slot_turned i copies (omega arith) ∙ ap (λ l. l ++ of_slot (slice_get ks i) copies) (slots_turned i)
        ∙ by (slice_get ks i) refl
        ∙ sym (flat-append (take i ks) (option_to_list (slice_get ks i))) ∙ ap (flat_map whole_slot) (sym (take_get i ks))
      where
        flat-append : (ys zs : List ℕ) → flat_map whole_slot (ys ++ zs) ≡ flat_map whole_slot ys ++ flat_map whole_slot zs
        flat-append [] zs = refl
        flat-append (y ∷ ys) zs = ap (λ l. whole_slot y ++ l) (flat-append ys zs) ∙ sym (append_assoc (whole_slot y) (flat_map whole_slot ys) (flat_map whole_slot zs))

        by : (o : Option ℕ) → slice_get ks i ≡ o → flat_map whole_slot (take i ks) ++ of_slot o copies ≡ flat_map whole_slot (take i ks) ++ flat_map whole_slot (option_to_list o)
        by None at = refl
        by (Some y) at =
            ap (λ (l : List (List A)). flat_map whole_slot (take i ks) ++ keyed y l) (take_all copies (short_slices size advance (rows_with key xs y)) (few i y at))
            ∙ ap (λ l. flat_map whole_slot (take i ks) ++ l) (sym (append-nil (whole_slot y)))

-- all turns of all slots give the windows that are cut short, key by key
pub all_turned : {A : Type 0} (slots : ℕ) (key : A → ℕ) (size advance copies : ℕ) (xs : List A) → ((i y : ℕ) → slice_get (take slots (keys_of key xs)) i ≡ Some y → length (short_slices size advance (rows_with key xs y)) ≤ copies)
    → turned key size advance copies xs (take slots (keys_of key xs)) (slots * copies) ≡ shorts slots key size advance xs
unfolding groups
all_turned {A = A} slots key size advance copies xs few =
    slots_turned key size advance copies xs ks few slots
    ∙ ap (flat_map (λ (y : ℕ). keyed y (short_slices size advance (rows_with key xs y)))) (take_all slots ks (omega (arith, length-take slots (keys_of key xs))))
    ∙ as_groups ks
  where
    ks : List ℕ
    ks = take slots (keys_of key xs)

    as_groups : (ys : List ℕ) → flat_map (λ (y : ℕ). keyed y (short_slices size advance (rows_with key xs y))) ys
        ≡ flat_map (λ (g : Group A). keyed g.key (short_slices size advance g.rows)) (map (λ (y : ℕ). record { key = y; rows = rows_with key xs y }) ys)
    as_groups [] = refl
    as_groups (y ∷ ys) = ap (λ l. keyed y (short_slices size advance (rows_with key xs y)) ++ l) (as_groups ys)
