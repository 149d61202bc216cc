-- The keys of a stream so far, and the rows of each, with one row more.
use Rattle.std.proofs.Common.{◌≡◌, ℕ, zero, suc, ◌<◌, ◌≤◌, List, [], ◌∷◌, ◌++◌, length, take, map, filter, Option, Some, None, Bool, true, false, not, ◌&&◌, ◌||◌, cond, refl, sym, ap, ◌∙◌, arith, inl, inr, length-take, take_all, append-nil}
use Rattle.std.specs.Prelude.{slice_get, nat_eq, nat_lt, if◌then◌else◌, option_to_list, ◌⊎◌}
use Rattle.std.specs.List.{list_any}
use Rattle.std.proofs.lemmas.List.{map-append}
use Rattle.std.proofs.lemmas.List.Elements.{filter-append}
use Rattle.std.proofs.lemmas.List.Folds.{list_any-append}
use Rattle.std.proofs.lemmas.Bool.{cases_lt, cases_Bool, lt-ltb, le-ltb, or_parts, or_left, or_right, or_from, eq-eqb}
use Rattle.gl_values.specs.Lists.{distinct, keys_of, rows_with, has_further}
use Rattle.gl_values.specs.Tables.{with_key}
use Rattle.gl_bits.proofs.Bools.{or_none, eq_turned}
use Rattle.gl_bits.proofs.AllLists.{any_front}
use Rattle.gl_values.proofs.Parting.{any_distinct}
use Rattle.gl_values.proofs.Grouping.{first_keys_room, first_keys_full}
use Rattle.gl_values.specs.Results.{Row}
use Rattle.gl_slots.specs.Slots.{same_key, of_slot, rows_of_key}

none_with : (key : Row → ℕ) (x : ℕ) (xs : List Row) → list_any (nat_eq x) (map key xs) ≡ false → rows_with key xs x ≡ []
none_with key x [] h = refl
none_with key x (r ∷ xs) h =
    let p = or_parts (nat_eq x (key r)) (list_any (nat_eq x) (map key xs)) h in
    let e : nat_eq (key r) x ≡ false = eq_turned (key r) x ∙ p.0 in
    rw e (none_with key x xs p.1)

-- the first keys with one row more
pub keys-push : (n : ℕ) (key : Row → ℕ) (xs : List Row) (r : Row) → take n (keys_of key (xs ++ r ∷ [])) ≡ with_key n (take n (keys_of key xs)) (key r)
unfolding with_key
keys-push n key xs r = ap (λ l. take n (distinct l)) (map-append key xs (r ∷ [])) ∙ split (cases_lt (length kept) n)
  where
    kept : List ℕ
    kept = take n (distinct (map key xs))

    flipped : (b : Bool) → kept ++ cond b [] (key r ∷ []) ≡ (if not b then kept ++ key r ∷ [] else kept)
    flipped true = append-nil kept
    flipped false = refl

    split : (length kept < n) ⊎ (n ≤ length kept) → take n (distinct (map key xs ++ key r ∷ [])) ≡ (if nat_lt (length kept) n && not (list_any (nat_eq (key r)) kept) then kept ++ key r ∷ [] else kept)
    split (inl t) = first_keys_room n (map key xs) (key r) t ∙ flipped (list_any (nat_eq (key r)) kept) ∙ sym (ap (λ b. if b && not (list_any (nat_eq (key r)) kept) then kept ++ key r ∷ [] else kept) (lt-ltb _ _ t))
    split (inr t) = first_keys_full n (map key xs) (key r) t ∙ sym (ap (λ b. if b && not (list_any (nat_eq (key r)) kept) then kept ++ key r ∷ [] else kept) (le-ltb _ _ t))

get_pushed : (ks : List ℕ) (x k : ℕ) → ((slice_get (ks ++ x ∷ []) k ≡ slice_get ks k)) ⊎ ((slice_get ks k ≡ None) × (slice_get (ks ++ x ∷ []) k ≡ Some x))
get_pushed [] x zero = inr (refl, refl)
get_pushed [] x (suc k) = inl refl
get_pushed (y ∷ ks) x zero = inl refl
get_pushed (y ∷ ks) x (suc k) = get_pushed ks x k

-- a new key has had no rows
pub rows_kept : (n : ℕ) (key : Row → ℕ) (xs : List Row) (x k : ℕ) → rows_of_key key xs (slice_get (with_key n (take n (keys_of key xs)) x) k) ≡ rows_of_key key xs (slice_get (take n (keys_of key xs)) k)
unfolding with_key
rows_kept n key xs x k = by (cases_Bool (nat_lt (length (take n (keys_of key xs))) n && not (list_any (nat_eq x) (take n (keys_of key xs)))))
  where
    kept : List ℕ
    kept = take n (keys_of key xs)

    new : (nat_lt (length kept) n && not (list_any (nat_eq x) kept)) ≡ true → rows_of_key key xs (slice_get (kept ++ x ∷ []) k) ≡ rows_of_key key xs (slice_get kept k)
    new e = elim (get_pushed kept x k) [
      | inl q ↦ ap (rows_of_key key xs) q
      | inr q ↦ (let z = absent e in ap (rows_of_key key xs) q.1 ∙ z ∙ sym (ap (rows_of_key key xs) q.0))
    ]
      where
        absent : (nat_lt (length kept) n && not (list_any (nat_eq x) kept)) ≡ true → rows_with key xs x ≡ []
        absent e = both (nat_lt (length kept) n) refl (list_any (nat_eq x) kept) refl e
          where
            both : (p : Bool) → nat_lt (length kept) n ≡ p → (q : Bool) → list_any (nat_eq x) kept ≡ q → (p && not q) ≡ true → rows_with key xs x ≡ []
            both true f false g h =
                let room : length kept < n = elim (cases_lt (length kept) n) [ inl l ↦ l | inr l ↦ absurd (let z = le-ltb (length kept) n l in cc (z, f)) ] in
                let all : kept ≡ distinct (map key xs) = take_all n (distinct (map key xs)) (omega (arith, room, length-take n (distinct (map key xs)))) in
                none_with key x xs (sym (any_distinct x (map key xs)) ∙ ap (list_any (nat_eq x)) (sym all) ∙ g)
            both true f true g h = absurd (cc)
            both false f q g h = absurd (cc)

    by : ((nat_lt (length kept) n && not (list_any (nat_eq x) kept)) ≡ true) ⊎ ((nat_lt (length kept) n && not (list_any (nat_eq x) kept)) ≡ false) → rows_of_key key xs (slice_get (if nat_lt (length kept) n && not (list_any (nat_eq x) kept) then kept ++ x ∷ [] else kept) k) ≡ rows_of_key key xs (slice_get kept k)
    by (inl e) = rw e (new e)
    by (inr e) = rw e refl

-- one row more of a slot
pub rows-push : (key : Row → ℕ) (xs : List Row) (o : Option Row) (ks : List ℕ) (k : ℕ) → rows_of_key key (xs ++ option_to_list o) (slice_get ks k) ≡ rows_of_key key xs (slice_get ks k) ++ option_to_list (of_slot key ks k o)
rows-push key xs None ks k = ap (λ l. rows_of_key key l (slice_get ks k)) (append-nil xs) ∙ sym (append-nil (rows_of_key key xs (slice_get ks k)))
rows-push key xs (Some r) ks k = by (slice_get ks k)
  where
    one : (x : ℕ) (b : Bool) → nat_eq (key r) x ≡ b → filter (λ z. nat_eq (key z) x) (r ∷ []) ≡ option_to_list (if b then Some r else None)
    one x true e = rw e refl
    one x false e = rw e refl

    by : (g : Option ℕ) → rows_of_key key (xs ++ r ∷ []) g ≡ rows_of_key key xs g ++ option_to_list (if same_key g (key r) then Some r else None)
    by None = refl
    by (Some x) = filter-append (λ z. nat_eq (key z) x) xs (r ∷ []) ∙ ap (λ l. rows_with key xs x ++ l) (one x (nat_eq (key r) x) refl)

-- ---- rows of further keys

-- where a list has all keys of some rows, none of these is further
none_further : (key : Row → ℕ) (ks : List ℕ) (xs : List Row) → ((y : ℕ) → list_any (nat_eq y) (map key xs) ≡ true → list_any (nat_eq y) ks ≡ true) → list_any (λ x. not (list_any (nat_eq (key x)) ks)) xs ≡ false
none_further key ks [] h = refl
none_further key ks (x ∷ xs) h =
    let mine : list_any (nat_eq (key x)) ks ≡ true = h (key x) (or_left (nat_eq (key x) (key x)) (list_any (nat_eq (key x)) (map key xs)) (eq-eqb (key x) (key x) refl)) in
    or_from _ _ (ap not mine) (none_further key ks xs (λ y e. h y (or_right (nat_eq y (key x)) (list_any (nat_eq y) (map key xs)) e)))

pub further-push : (n : ℕ) (key : Row → ℕ) (xs : List Row) (r : Row) → has_further n key (xs ++ r ∷ []) ≡ (has_further n key xs || not (list_any (nat_eq (key r)) (take n (keys_of key (xs ++ r ∷ [])))))
unfolding has_further with_key
further-push n key xs r =
    list_any-append (λ x. not (list_any (nat_eq (key x)) (take n (keys_of key (xs ++ r ∷ []))))) xs (r ∷ [])
    ∙ ap (λ b. list_any (λ x. not (list_any (nat_eq (key x)) (take n (keys_of key (xs ++ r ∷ []))))) xs || b) (or_none (not (list_any (nat_eq (key r)) (take n (keys_of key (xs ++ r ∷ []))))))
    ∙ ap (λ b. b || not (list_any (nat_eq (key r)) (take n (keys_of key (xs ++ r ∷ []))))) (ap (λ ks. list_any (λ x. not (list_any (nat_eq (key x)) ks)) xs) (keys-push n key xs r) ∙ same (cases_lt (length kept) n))
  where
    kept : List ℕ
    kept = take n (keys_of key xs)

    same : (length kept < n) ⊎ (n ≤ length kept) → list_any (λ x. not (list_any (nat_eq (key x)) (if nat_lt (length kept) n && not (list_any (nat_eq (key r)) kept) then kept ++ key r ∷ [] else kept))) xs ≡ list_any (λ x. not (list_any (nat_eq (key x)) kept)) xs
    same (inr full) = ap (λ (b : Bool). list_any (λ x. not (list_any (nat_eq (key x)) (if b && not (list_any (nat_eq (key r)) kept) then kept ++ key r ∷ [] else kept))) xs) (le-ltb _ _ full)
    same (inl room) =
        let all : kept ≡ distinct (map key xs) = take_all n (distinct (map key xs)) (omega (arith, room, length-take n (distinct (map key xs)))) in
        let has : (y : ℕ) → list_any (nat_eq y) (map key xs) ≡ true → list_any (nat_eq y) kept ≡ true = λ y e. ap (list_any (nat_eq y)) all ∙ any_distinct y (map key xs) ∙ e in
        none_further key (if nat_lt (length kept) n && not (list_any (nat_eq (key r)) kept) then kept ++ key r ∷ [] else kept) xs (λ y e. more y (nat_lt (length kept) n && not (list_any (nat_eq (key r)) kept)) (has y e))
        ∙ sym (none_further key kept xs has)
      where
        more : (y : ℕ) (b : Bool) → list_any (nat_eq y) kept ≡ true → list_any (nat_eq y) (if b then kept ++ key r ∷ [] else kept) ≡ true
        more y true e = any_front (nat_eq y) kept (key r ∷ []) e
        more y false e = e

pub further-none : (n : ℕ) (key : Row → ℕ) → has_further n key [] ≡ false
unfolding has_further
further-none n key = refl

-- the key at a place, and the keys up to it
pub key_below : (ks : List ℕ) (t : ℕ) → t < length ks → (y : ℕ) × (slice_get ks t ≡ Some y) × (take (suc t) ks ≡ take t ks ++ y ∷ [])
key_below [] t l = absurd (omega (arith, l))
key_below (k ∷ ks) zero l = (k, refl, refl)
key_below (k ∷ ks) (suc t) l = let x = key_below ks t (omega (arith, l)) in (x.0, x.1, ap (λ z. k ∷ z) x.2)
