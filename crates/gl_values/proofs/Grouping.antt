-- Groups: their keys, and that each row of the first keys is in exactly one.
use Rattle.std.proofs.Common.{◌≡◌, ℕ, zero, suc, ◌+◌, ◌<◌, ◌≤◌, List, [], ◌∷◌, ◌++◌, Bool, true, false, cond, length, length-take, length-append, take, take_all, get_or, append-nil, refl, sym, ap, ◌∙◌, subst, arith, inl, inr, eqb-true}
use Rattle.std.specs.Prelude.{if◌then◌else◌, ◌&&◌, ◌⊎◌, nat_lt, slice_index, map, filter, not, ◌||◌, nat_eq, sum_by}
use Rattle.std.specs.List.{list_any}
use Rattle.std.proofs.lemmas.List.Sums.{sum_by-cons}
use Rattle.std.proofs.lemmas.Bool.Decides.{eqb_tells, leb_tells}
use Rattle.std.proofs.lemmas.List.{take-append-le}
use Rattle.std.proofs.lemmas.List.Elements.{filter-append}
use Rattle.gl_bits.proofs.AllLists.{map_map}
use Rattle.gl_bits.proofs.Bools.{neither_left, neither_right, eq_turned}
use Rattle.gl_values.specs.Lists.{distinct, keys_of, rows_with, groups, Group}
use Rattle.gl_values.specs.Tables.{keyed_groups, table_group, with_key}
use Rattle.gl_values.specs.Laws.{HaveFirstKeys}

-- no number stands twice
abbrev pub AreDistinct : List ℕ → Type 0
AreDistinct [] = Unit {0}
AreDistinct (k ∷ ks) = (list_any (nat_eq k) ks ≡ false) × AreDistinct ks

-- ---- distinct numbers

pub any_filter : (p q : ℕ → Bool) (xs : List ℕ) → list_any p xs ≡ false → list_any p (filter q xs) ≡ false
any_filter p q [] none = refl
any_filter p q (x ∷ xs) none = split (q x) (any_filter p q xs (neither_right (p x) (list_any p xs) none))
  where
    split : (b : Bool) → list_any p (filter q xs) ≡ false → list_any p (cond b (x ∷ filter q xs) (filter q xs)) ≡ false
    split true later = rw (neither_left (p x) (list_any p xs) none) later
    split false later = later

any_take : (p : ℕ → Bool) (n : ℕ) (xs : List ℕ) → list_any p xs ≡ false → list_any p (take n xs) ≡ false
any_take p zero xs none = refl
any_take p (suc n) [] none = refl
any_take p (suc n) (x ∷ xs) none = rw (neither_left (p x) (list_any p xs) none) (any_take p n xs (neither_right (p x) (list_any p xs) none))

distinct_filter : (q : ℕ → Bool) (xs : List ℕ) → AreDistinct xs → AreDistinct (filter q xs)
distinct_filter q [] d = tt
distinct_filter q (x ∷ xs) d = split (q x) (distinct_filter q xs d.1)
  where
    split : (b : Bool) → AreDistinct (filter q xs) → AreDistinct (cond b (x ∷ filter q xs) (filter q xs))
    split true later = (any_filter (nat_eq x) q xs d.0, later)
    split false later = later

others_only : (x : ℕ) (ys : List ℕ) → list_any (nat_eq x) (filter (λ y. not (nat_eq x y)) ys) ≡ false
others_only x [] = refl
others_only x (y ∷ ys) = split (nat_eq x y) refl (others_only x ys)
  where
    split : (b : Bool) → nat_eq x y ≡ b → list_any (nat_eq x) (filter (λ y. not (nat_eq x y)) ys) ≡ false → list_any (nat_eq x) (cond (not b) (y ∷ filter (λ y. not (nat_eq x y)) ys) (filter (λ y. not (nat_eq x y)) ys)) ≡ false
    split true e later = later
    split false e later = rw e later

pub distinct_once : (xs : List ℕ) → AreDistinct (distinct xs)
distinct_once [] = tt
distinct_once (x ∷ xs) = (others_only x (distinct xs), distinct_filter (λ y. not (nat_eq x y)) (distinct xs) (distinct_once xs))

pub distinct_take : (n : ℕ) (xs : List ℕ) → AreDistinct xs → AreDistinct (take n xs)
distinct_take zero xs d = tt
distinct_take (suc n) [] d = tt
distinct_take (suc n) (x ∷ xs) d = (any_take (nat_eq x) n xs d.0, distinct_take n xs d.1)

-- ---- each row of the first keys is in exactly one group

filter_none : {A : Type 0} (xs : List A) → length (filter (λ (x : A). false) xs) ≡ 0
filter_none [] = refl
filter_none (x ∷ xs) = filter_none xs

filter_either : {A : Type 0} (p q : A → Bool) (xs : List A) → ((x : A) → p x ≡ true → q x ≡ false) → length (filter (λ x. p x || q x) xs) ≡ length (filter p xs) + length (filter q xs)
filter_either p q [] apart = refl
filter_either {A = A} p q (x ∷ xs) apart = split (p x) (q x) (apart x) (filter_either p q xs apart)
  where
    split : (b d : Bool) → (b ≡ true → d ≡ false) → length (filter (λ x. p x || q x) xs) ≡ length (filter p xs) + length (filter q xs)
        → length (cond (b || d) (x ∷ filter (λ x. p x || q x) xs) (filter (λ x. p x || q x) xs)) ≡ length (cond b (x ∷ filter p xs) (filter p xs)) + length (cond d (x ∷ filter q xs) (filter q xs))
    split true true other later = absurd (let e = other refl in cc)
    split true false other later = omega arith
    split false true other later = omega arith
    split false false other later = later

pub rows_of_keys : {A : Type 0} (key_of : A → ℕ) (xs : List A) (ks : List ℕ) → AreDistinct ks → sum_by (λ k. length (rows_with key_of xs k)) ks ≡ length (filter (λ x. list_any (nat_eq (key_of x)) ks) xs)
rows_of_keys key_of xs [] d = sym (filter_none xs)
rows_of_keys {A = A} key_of xs (k ∷ ks) d =
    sum_by-cons (λ k. length (rows_with key_of xs k)) k ks
    ∙ ap (λ n. length (rows_with key_of xs k) + n) (rows_of_keys key_of xs ks d.1)
    ∙ sym (filter_either (λ x. nat_eq (key_of x) k) (λ x. list_any (nat_eq (key_of x)) ks) xs apart)
  where
    apart : (x : A) → nat_eq (key_of x) k ≡ true → list_any (nat_eq (key_of x)) ks ≡ false
    apart x e = elim (eqb_tells (key_of x) k) [
      | inl t ↦ subst (λ n. list_any (nat_eq n) ks ≡ false) (sym t.1) d.0
      | inr t ↦ absurd (let other = t.0 in cc)
    ]

sum_by-map : {A B : Type 0} (f : B → ℕ) (g : A → B) (xs : List A) → sum_by f (map g xs) ≡ sum_by (λ x. f (g x)) xs
sum_by-map f g [] = refl
sum_by-map f g (x ∷ xs) = sum_by-cons f (g x) (map g xs) ∙ ap (λ n. f (g x) + n) (sum_by-map f g xs) ∙ sym (sum_by-cons (λ x. f (g x)) x xs)

map-self : {A : Type 0} (xs : List A) → map (λ x. x) xs ≡ xs
map-self [] = refl
map-self (x ∷ xs) = ap (λ ys. x ∷ ys) (map-self xs)

pub have_first_keys : {A : Type 0} (n : ℕ) (key_of : A → ℕ) (xs : List A) → HaveFirstKeys n key_of xs
unfolding groups
have_first_keys {A = A} n key_of xs =
    let ks = take n (keys_of key_of xs) in
    let group : ℕ → Group A = λ key. record { key = key; rows = rows_with key_of xs key } in
    record {
      keys = map_map (λ (g : Group A). g.key) group ks ∙ map-self ks;
      rows = map_map (λ (g : Group A). g.rows) group ks;
      whole = sum_by-map (λ (g : Group A). length g.rows) group ks ∙ rows_of_keys key_of xs ks (distinct_take n (keys_of key_of xs) (distinct_once (map key_of xs)));
    }

-- ---- one row more

-- to leave out another number does not change whether x is there
pub any_other : (x y : ℕ) (zs : List ℕ) → nat_eq x y ≡ false → list_any (nat_eq x) (filter (λ z. not (nat_eq y z)) zs) ≡ list_any (nat_eq x) zs
any_other x y [] other = refl
any_other x y (z ∷ zs) other = split (nat_eq y z) refl (any_other x y zs other)
  where
    split : (b : Bool) → nat_eq y z ≡ b → list_any (nat_eq x) (filter (λ z. not (nat_eq y z)) zs) ≡ list_any (nat_eq x) zs → list_any (nat_eq x) (cond (not b) (z ∷ filter (λ z. not (nat_eq y z)) zs) (filter (λ z. not (nat_eq y z)) zs)) ≡ (nat_eq x z || list_any (nat_eq x) zs)
    split true e later =
        let same : y ≡ z = eqb-true y z e in
        let none : nat_eq x z ≡ false = subst (λ n. nat_eq x n ≡ false) same other in
        rw none later
    split false e later = ap (λ b. nat_eq x z || b) later

-- a number behind distinct ones, unless it is there
abbrev pub added : ℕ → List ℕ → List ℕ
added x ks = cond (list_any (nat_eq x) ks) [] (x ∷ [])

pub distinct-push : (xs : List ℕ) (x : ℕ) → distinct (xs ++ x ∷ []) ≡ distinct xs ++ added x (distinct xs)
distinct-push [] x = refl
distinct-push (y ∷ ys) x =
    ap (λ l. y ∷ filter (λ z. not (nat_eq y z)) l) (distinct-push ys x)
    ∙ ap (λ l. y ∷ l) (filter-append (λ z. not (nat_eq y z)) (distinct ys) (added x (distinct ys)))
    ∙ ap (λ l. y ∷ (filter (λ z. not (nat_eq y z)) (distinct ys) ++ l)) (split (nat_eq x y) refl)
  where
    there : (b : Bool) → nat_eq y x ≡ true → filter (λ z. not (nat_eq y z)) (cond b [] (x ∷ [])) ≡ []
    there true e = refl
    there false e = rw e refl

    absent : (b : Bool) → nat_eq y x ≡ false → filter (λ z. not (nat_eq y z)) (cond b [] (x ∷ [])) ≡ cond b [] (x ∷ [])
    absent true e = refl
    absent false e = rw e refl

    split : (b : Bool) → nat_eq x y ≡ b → filter (λ z. not (nat_eq y z)) (added x (distinct ys)) ≡ cond (nat_eq x y || list_any (nat_eq x) (filter (λ z. not (nat_eq y z)) (distinct ys))) [] (x ∷ [])
    split true e = there (list_any (nat_eq x) (distinct ys)) (sym (eq_turned x y) ∙ e) ∙ sym (ap (λ b. cond (b || list_any (nat_eq x) (filter (λ z. not (nat_eq y z)) (distinct ys))) [] (x ∷ [])) e)
    split false e =
        absent (list_any (nat_eq x) (distinct ys)) (sym (eq_turned x y) ∙ e)
        ∙ ap (λ b. cond b [] (x ∷ [])) (sym (any_other x y (distinct ys) e))
        ∙ sym (ap (λ b. cond (b || list_any (nat_eq x) (filter (λ z. not (nat_eq y z)) (distinct ys))) [] (x ∷ [])) e)

-- the first keys, with one row more
pub first_keys_room : (n : ℕ) (ks : List ℕ) (x : ℕ) → length (take n (distinct ks)) < n → take n (distinct (ks ++ x ∷ [])) ≡ take n (distinct ks) ++ added x (take n (distinct ks))
first_keys_room n ks x room =
    let few : length (distinct ks) < n = omega (arith, length-take n (distinct ks)) in
    let all : take n (distinct ks) ≡ distinct ks = take_all n (distinct ks) (omega arith) in
    let little : length (distinct ks ++ added x (distinct ks)) ≤ n = omega (arith, length-append (distinct ks) (added x (distinct ks)), one_at_most (list_any (nat_eq x) (distinct ks))) in
    ap (take n) (distinct-push ks x) ∙ take_all n (distinct ks ++ added x (distinct ks)) little ∙ sym (ap (λ l. l ++ added x l) all)
  where
    one_at_most : (b : Bool) → length (cond b [] (x ∷ [])) ≤ 1
    one_at_most true = omega arith
    one_at_most false = omega arith

pub first_keys_full : (n : ℕ) (ks : List ℕ) (x : ℕ) → n ≤ length (take n (distinct ks)) → take n (distinct (ks ++ x ∷ [])) ≡ take n (distinct ks)
first_keys_full n ks x full =
    let many : n ≤ length (distinct ks) = omega (arith, length-take n (distinct ks)) in
    ap (take n) (distinct-push ks x) ∙ take-append-le n (distinct ks) (added x (distinct ks)) many

-- ---- the loop that collects the first keys

map_more : {A : Type 0} (f : A → ℕ) (xs : List A) (i : ℕ) (d : A) → i < length xs → map f (take (i + 1) xs) ≡ map f (take i xs) ++ f (get_or xs i d) ∷ []
map_more f [] i d lt = absurd (omega arith)
map_more f (x ∷ xs) zero d lt = refl
map_more f (x ∷ xs) (suc i) d lt =
    let place : suc i + 1 ≡ suc (i + 1) = omega arith in
    ap (λ n. map f (take n (x ∷ xs))) place ∙ ap (λ l. f x ∷ l) (map_more f xs i d (omega arith))

keys_more : {A : Type 0} (n : ℕ) (f : A → ℕ) (xs : List A) (i : ℕ) (d : A) → i < length xs → take n (keys_of f (take (i + 1) xs)) ≡ take n (distinct (map f (take i xs) ++ f (get_or xs i d) ∷ []))
keys_more n f xs i d lt = ap (λ l. take n (distinct l)) (map_more f xs i d lt)

-- what a row adds to the first keys of those before it
pub key_next : (n column : ℕ) (xs : List (List ℕ)) (i : ℕ) (x : List ℕ) → i < length xs → x ≡ get_or xs i x
    → take n (keys_of (λ r. slice_index r column) (take (i + 1) xs)) ≡ with_key n (take n (keys_of (λ r. slice_index r column) (take i xs))) (slice_index x column)
unfolding with_key
key_next n column xs i x lt is =
    keys_more n f xs i x lt
    ∙ ap (λ r. take n (distinct (map f (take i xs) ++ f r ∷ []))) (sym is)
    ∙ split (leb_tells (suc (length kept)) n)
  where
    f : List ℕ → ℕ
    f r = slice_index r column

    ks : List ℕ
    ks = map f (take i xs)

    kept : List ℕ
    kept = take n (distinct ks)

    flipped : (b : Bool) → kept ++ cond b [] (f x ∷ []) ≡ (if not b then kept ++ f x ∷ [] else kept)
    flipped true = append-nil kept
    flipped false = refl

    split : ((nat_lt (length kept) n ≡ true) × (length kept < n)) ⊎ ((nat_lt (length kept) n ≡ false) × (n < suc (length kept))) → take n (distinct (ks ++ f x ∷ [])) ≡ (if nat_lt (length kept) n && not (list_any (nat_eq (f x)) kept) then kept ++ f x ∷ [] else kept)
    split (inl t) = first_keys_room n ks (f x) t.1 ∙ flipped (list_any (nat_eq (f x)) kept) ∙ sym (ap (λ b. if b && not (list_any (nat_eq (f x)) kept) then kept ++ f x ∷ [] else kept) t.0)
    split (inr t) = first_keys_full n ks (f x) (omega arith) ∙ sym (ap (λ b. if b && not (list_any (nat_eq (f x)) kept) then kept ++ f x ∷ [] else kept) t.0)

pub keyed_groups_are : (n column : ℕ) (xs : List (List ℕ)) → keyed_groups n column xs ≡ map (table_group column xs) (take n (keys_of (λ r. slice_index r column) xs))
unfolding groups
keyed_groups_are n column xs = map_map _ _ (take n (keys_of (λ r. slice_index r column) xs))
