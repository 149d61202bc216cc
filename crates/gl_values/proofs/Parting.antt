-- The windows of each key are the slices of its rows.
use Rattle.std.proofs.Common.{◌≡◌, ℕ, suc, ◌+◌, ◌<◌, ◌≤◌, List, [], ◌∷◌, ◌++◌, Bool, true, false, cond, length, length-take, take, take_all, append-nil, append_assoc, refl, sym, ap, ◌∙◌, subst, arith, inl, inr, eqb-true}
use Rattle.std.specs.Prelude.{if◌then◌else◌, ◌||◌, ◌⊎◌, filter, flat_map, map, not, nat_eq}
use Rattle.std.specs.List.{list_any}
use Rattle.std.proofs.lemmas.Bool.Decides.{eqb_tells, leb_tells}
use Rattle.std.proofs.lemmas.List.{map-append}
use Rattle.std.proofs.lemmas.List.Elements.{filter-append}
use Rattle.std.proofs.lemmas.List.Folds.{list_any-append}
use Rattle.gl_values.specs.Lists.{Group, distinct, groups, keys_of, rows_with, slices}
use Rattle.gl_values.specs.Partitions.{completed, completed_by, fulls, has_key, keyed, parts, short_slices, shorts}
use Rattle.gl_values.specs.Laws.{windows_of}
use Rattle.gl_bits.proofs.Bools.{eq_turned, neither_left, neither_right, or_left, or_none}
use Rattle.gl_values.proofs.Filling.{full_slices, full-none, full_then_short, full-push}
use Rattle.gl_values.proofs.Grouping.{AreDistinct, added, any_other, distinct_once, distinct_take, first_keys_full, first_keys_room}

-- ---- windows with a key

-- those of a key among windows of one key
filter-keyed : {A : Type 0} (key k : ℕ) (ws : List (List A)) → filter (λ (g : Group A). nat_eq g.key key) (keyed k ws) ≡ cond (nat_eq k key) (keyed k ws) []
filter-keyed {A = A} key k ws = split (nat_eq k key) refl ws
  where
    split : (b : Bool) → nat_eq k key ≡ b → (ws : List (List A)) → filter (λ (g : Group A). nat_eq g.key key) (keyed k ws) ≡ cond b (keyed k ws) []
    split true e [] = refl
    split true e (w ∷ ws) = rw e (ap (λ l. record { key = k; rows = w } ∷ l) (split true e ws))
    split false e [] = refl
    split false e (w ∷ ws) = rw e (split false e ws)

rows-keyed : {A : Type 0} (k : ℕ) (ws : List (List A)) → map (λ (g : Group A). g.rows) (keyed k ws) ≡ ws
rows-keyed k [] = refl
rows-keyed k (w ∷ ws) = ap (λ l. w ∷ l) (rows-keyed k ws)

keyed-append : {A : Type 0} (k : ℕ) (us vs : List (List A)) → keyed k (us ++ vs) ≡ keyed k us ++ keyed k vs
keyed-append k us vs = map-append (λ rows. record { key = k; rows = rows }) us vs

-- ---- the first keys, with one row more

abbrev pub first_keys : {A : Type 0} → ℕ → (A → ℕ) → List A → List ℕ
first_keys n key_of xs = take n (keys_of key_of xs)

keys-push : {A : Type 0} (n : ℕ) (key_of : A → ℕ) (xs : List A) (x : A)
    → ((first_keys n key_of (xs ++ x ∷ []) ≡ first_keys n key_of xs ++ added (key_of x) (first_keys n key_of xs)) × (length (first_keys n key_of xs) < n))
    ⊎ (first_keys n key_of (xs ++ x ∷ []) ≡ first_keys n key_of xs)
keys-push n key_of xs x =
    let more : first_keys n key_of (xs ++ x ∷ []) ≡ take n (distinct (map key_of xs ++ key_of x ∷ [])) =
    ap (λ l. take n (distinct l)) (map-append key_of xs (x ∷ [])) in
    elim (leb_tells (suc (length (first_keys n key_of xs))) n) [
      | inl t ↦ inl (more ∙ first_keys_room n (map key_of xs) (key_of x) t.1, t.1)
      | inr t ↦ (let full = t.1 in inr (more ∙ first_keys_full n (map key_of xs) (key_of x) (omega arith)))
    ]

-- a key that is added, or none, is not another one
any_added_other : (key x : ℕ) (ks : List ℕ) → nat_eq key x ≡ false → list_any (nat_eq key) (added x ks) ≡ false
any_added_other key x ks other = split (list_any (nat_eq x) ks)
  where
    split : (b : Bool) → list_any (nat_eq key) (cond b [] (x ∷ [])) ≡ false
    split true = refl
    split false = rw other refl

-- a row of another key changes nothing
has_key-other : {A : Type 0} (n key : ℕ) (key_of : A → ℕ) (xs : List A) (x : A) → nat_eq key (key_of x) ≡ false
    → has_key n key_of (xs ++ x ∷ []) key ≡ has_key n key_of xs key
has_key-other n key key_of xs x other = elim (keys-push n key_of xs x) [
  | inl t ↦ (
      ap (list_any (nat_eq key)) t.0
      ∙ list_any-append (nat_eq key) (first_keys n key_of xs) (added (key_of x) (first_keys n key_of xs))
      ∙ ap (λ b. has_key n key_of xs key || b) (any_added_other key (key_of x) (first_keys n key_of xs) other)
      ∙ or_none (has_key n key_of xs key)
      )
  | inr e ↦ ap (list_any (nat_eq key)) e
]

-- a key that is among the first stays there
pub has_key-stays : {A : Type 0} (n key : ℕ) (key_of : A → ℕ) (xs : List A) (x : A) → has_key n key_of xs key ≡ true
    → has_key n key_of (xs ++ x ∷ []) key ≡ true
has_key-stays n key key_of xs x has = elim (keys-push n key_of xs x) [
  | inl t ↦ (
      ap (list_any (nat_eq key)) t.0
      ∙ list_any-append (nat_eq key) (first_keys n key_of xs) (added (key_of x) (first_keys n key_of xs))
      ∙ or_left (has_key n key_of xs key) (list_any (nat_eq key) (added (key_of x) (first_keys n key_of xs))) has
      )
  | inr e ↦ ap (list_any (nat_eq key)) e ∙ has
]

-- distinct numbers are those of the list
pub any_distinct : (key : ℕ) (ks : List ℕ) → list_any (nat_eq key) (distinct ks) ≡ list_any (nat_eq key) ks
any_distinct key [] = refl
any_distinct key (k ∷ ks) = split (nat_eq key k) refl (any_distinct key ks)
  where
    split : (b : Bool) → nat_eq key k ≡ b → list_any (nat_eq key) (distinct ks) ≡ list_any (nat_eq key) ks → (nat_eq key k || list_any (nat_eq key) (filter (λ y. not (nat_eq k y)) (distinct ks))) ≡ (nat_eq key k || list_any (nat_eq key) ks)
    split true e later = rw e refl
    split false e later = ap (λ b. nat_eq key k || b) (any_other key k (distinct ks) e ∙ later)

-- a key of no row has no rows
rows_of_none : {A : Type 0} (key : ℕ) (key_of : A → ℕ) (xs : List A) → list_any (nat_eq key) (map key_of xs) ≡ false → rows_with key_of xs key ≡ []
rows_of_none key key_of [] none = refl
rows_of_none key key_of (x ∷ xs) none =
    let other : nat_eq (key_of x) key ≡ false =
    eq_turned (key_of x) key ∙ neither_left (nat_eq key (key_of x)) (list_any (nat_eq key) (map key_of xs)) none in
    rw other (rows_of_none key key_of xs (neither_right (nat_eq key (key_of x)) (list_any (nat_eq key) (map key_of xs)) none))

-- a key that comes among the first with a row had no row before
pub rows_before : {A : Type 0} (n key : ℕ) (key_of : A → ℕ) (xs : List A) (x : A) → has_key n key_of xs key ≡ false
    → has_key n key_of (xs ++ x ∷ []) key ≡ true → rows_with key_of xs key ≡ []
rows_before n key key_of xs x none has = elim (keys-push n key_of xs x) [
  | inl t ↦ (
      let room = t.1 in
      let few : length (keys_of key_of xs) ≤ n = omega (arith, length-take n (keys_of key_of xs)) in
      rows_of_none key key_of xs
      (sym (any_distinct key (map key_of xs)) ∙ ap (list_any (nat_eq key)) (sym (take_all n (keys_of key_of xs) few)) ∙ none)
      )
  | inr e ↦ absurd (let same = ap (list_any (nat_eq key)) e in cc)
]

-- ---- full windows

module _ {A : Type 0} (n size advance : ℕ) (key_of : A → ℕ) (some : 1 ≤ size) (step : 1 ≤ advance) where
  pub fulls-push : (seen xs : List A) (x : A) → fulls n key_of size advance seen (xs ++ x ∷ [])
      ≡ fulls n key_of size advance seen xs ++ completed_by n key_of size advance (seen ++ xs) x
  fulls-push seen [] x =
      append-nil (completed_by n key_of size advance seen x)
      ∙ ap (λ l. completed_by n key_of size advance l x) (sym (append-nil seen))
  fulls-push seen (y ∷ ys) x =
      ap (λ l. completed_by n key_of size advance seen y ++ l) (fulls-push (seen ++ y ∷ []) ys x)
      ∙ ap (λ s. completed_by n key_of size advance seen y ++ (fulls n key_of size advance (seen ++ y ∷ []) ys ++ completed_by n key_of size advance s x)) (append_assoc seen (y ∷ []) ys)
      ∙ sym (append_assoc (completed_by n key_of size advance seen y) (fulls n key_of size advance (seen ++ y ∷ []) ys) (completed_by n key_of size advance (seen ++ y ∷ ys) x))

  -- those of a key, where it is among the first
  abbrev of_key : ℕ → List (List A) → List A → List (Group A)
  of_key key ws xs = cond (has_key n key_of xs key) (keyed key ws) []

  abbrev IsFull : ℕ → List A → Type 0
  IsFull key xs = filter (λ (g : Group A). nat_eq g.key key) (fulls n key_of size advance [] xs) ≡ of_key key (full_slices size advance (rows_with key_of xs key)) xs

  full_at_first : (key : ℕ) → IsFull key []
  full_at_first key = split (has_key n key_of [] key) (full-none size advance 0 [] step (omega arith) (omega arith))
    where
      split : (b : Bool) → full_slices {A = A} size advance [] ≡ [] → [] ≡ cond b (keyed key (full_slices {A = A} size advance [])) []
      split true none = ap (λ ws. keyed key ws) (sym none)
      split false none = refl

  -- the windows of a key that a row completes
  completed_of : (key : ℕ) (xs : List A) (x : A) → filter (λ (g : Group A). nat_eq g.key key) (completed_by n key_of size advance xs x)
      ≡ cond (nat_eq (key_of x) key) (completed_by n key_of size advance xs x) []
  completed_of key xs x = split (has_key n key_of (xs ++ x ∷ []) (key_of x))
    where
      ws : List (List A)
      ws = completed size advance (rows_with key_of (xs ++ x ∷ []) (key_of x))

      nothing : List (Group A)
      nothing = []

      none : (b : Bool) → nothing ≡ cond b nothing nothing
      none true = refl
      none false = refl

      split : (b : Bool) → filter (λ (g : Group A). nat_eq g.key key) (cond b (keyed (key_of x) ws) []) ≡ cond (nat_eq (key_of x) key) (cond b (keyed (key_of x) ws) []) []
      split true = filter-keyed key (key_of x) ws
      split false = none (nat_eq (key_of x) key)

  -- one row more of the key itself
  same_key : (key : ℕ) (xs : List A) (x : A) → key_of x ≡ key
      → of_key key (full_slices size advance (rows_with key_of xs key)) xs ++ completed_by n key_of size advance xs x
      ≡ of_key key (full_slices size advance (rows_with key_of xs key ++ x ∷ [])) (xs ++ x ∷ [])
  same_key key xs x is =
      ap (λ l. of_key key (full_slices size advance ys) xs ++ l) here
      ∙ split (has_key n key_of xs key) refl (has_key n key_of (xs ++ x ∷ []) key) refl
    where
      ys : List A
      ys = rows_with key_of xs key

      more : rows_with key_of (xs ++ x ∷ []) key ≡ ys ++ x ∷ []
      more = filter-append (λ r. nat_eq (key_of r) key) xs (x ∷ [])
          ∙ ap (λ k. ys ++ cond (nat_eq k key) (x ∷ []) []) is
          ∙ ap (λ b. ys ++ cond b (x ∷ []) []) (self key)
        where
          self : (k : ℕ) → nat_eq k k ≡ true
          self k = elim (eqb_tells k k) [ inl t ↦ t.0 | inr t ↦ absurd (t.1 refl) ]

      here : completed_by n key_of size advance xs x ≡ of_key key (completed size advance (ys ++ x ∷ [])) (xs ++ x ∷ [])
      here = ap (λ k. cond (has_key n key_of (xs ++ x ∷ []) k) (keyed k (completed size advance (rows_with key_of (xs ++ x ∷ []) k))) []) is
          ∙ ap (λ rows. of_key key (completed size advance rows) (xs ++ x ∷ [])) more

      grown : keyed key (full_slices size advance ys) ++ keyed key (completed size advance (ys ++ x ∷ [])) ≡ keyed key (full_slices size advance (ys ++ x ∷ []))
      grown = sym (keyed-append key (full_slices size advance ys) (completed size advance (ys ++ x ∷ [])))
          ∙ ap (λ ws. keyed key ws) (sym (full-push size advance (length ys) ys x some step (omega arith)))

      split : (b : Bool) → has_key n key_of xs key ≡ b → (d : Bool) → has_key n key_of (xs ++ x ∷ []) key ≡ d
          → cond b (keyed key (full_slices size advance ys)) [] ++ cond d (keyed key (completed size advance (ys ++ x ∷ []))) []
          ≡ cond d (keyed key (full_slices size advance (ys ++ x ∷ []))) []
      split true e true g = grown
      split true e false g = absurd (let stays = has_key-stays n key key_of xs x e in cc)
      split false e false g = refl
      split false e true g =
          let nothing : ys ≡ [] = rows_before n key key_of xs x e g in
          let none : full_slices size advance ys ≡ [] =
          ap (full_slices size advance) nothing ∙ full-none size advance 0 [] step (omega arith) (omega arith) in
          ap (λ ws. keyed key ws ++ keyed key (completed size advance (ys ++ x ∷ []))) (sym none) ∙ grown

  -- one row more of another key
  other_key : (key : ℕ) (xs : List A) (x : A) → nat_eq (key_of x) key ≡ false
      → of_key key (full_slices size advance (rows_with key_of xs key)) xs
      ≡ of_key key (full_slices size advance (rows_with key_of (xs ++ x ∷ []) key)) (xs ++ x ∷ [])
  other_key key xs x other =
      let same : rows_with key_of (xs ++ x ∷ []) key ≡ rows_with key_of xs key =
      filter-append (λ r. nat_eq (key_of r) key) xs (x ∷ [])
      ∙ ap (λ b. rows_with key_of xs key ++ cond b (x ∷ []) []) other
      ∙ append-nil (rows_with key_of xs key) in
      let has : has_key n key_of (xs ++ x ∷ []) key ≡ has_key n key_of xs key =
      has_key-other n key key_of xs x (eq_turned key (key_of x) ∙ other) in
      ap (λ b. cond b (keyed key (full_slices size advance (rows_with key_of xs key))) []) (sym has)
      ∙ ap (λ rows. of_key key (full_slices size advance rows) (xs ++ x ∷ [])) (sym same)

  full-step : (key : ℕ) (xs : List A) (x : A) → IsFull key xs → IsFull key (xs ++ x ∷ [])
  full-step key xs x before =
      ap (filter (λ (g : Group A). nat_eq g.key key)) (fulls-push [] xs x)
      ∙ filter-append (λ (g : Group A). nat_eq g.key key) (fulls n key_of size advance [] xs) (completed_by n key_of size advance xs x)
      ∙ ap (λ l. l ++ filter (λ (g : Group A). nat_eq g.key key) (completed_by n key_of size advance xs x)) before
      ∙ ap (λ l. of_key key (full_slices size advance (rows_with key_of xs key)) xs ++ l) (completed_of key xs x)
      ∙ split (nat_eq (key_of x) key) refl
    where
      front : List (Group A)
      front = of_key key (full_slices size advance (rows_with key_of xs key)) xs

      rows_more : nat_eq (key_of x) key ≡ true → rows_with key_of xs key ++ x ∷ [] ≡ rows_with key_of (xs ++ x ∷ []) key
      rows_more e =
          ap (λ b. rows_with key_of xs key ++ cond b (x ∷ []) []) (sym e)
          ∙ sym (filter-append (λ r. nat_eq (key_of r) key) xs (x ∷ []))

      split : (b : Bool) → nat_eq (key_of x) key ≡ b
          → front ++ cond b (completed_by n key_of size advance xs x) []
          ≡ of_key key (full_slices size advance (rows_with key_of (xs ++ x ∷ []) key)) (xs ++ x ∷ [])
      split true e =
          same_key key xs x (eqb-true (key_of x) key e)
          ∙ ap (λ rows. of_key key (full_slices size advance rows) (xs ++ x ∷ [])) (rows_more e)
      split false e = append-nil front ∙ other_key key xs x e

  full_on : (key : ℕ) (seen xs : List A) → IsFull key seen → IsFull key (seen ++ xs)
  full_on key seen [] so_far = subst (IsFull key) (sym (append-nil seen)) so_far
  full_on key seen (x ∷ xs) so_far =
      subst (IsFull key) (append_assoc seen (x ∷ []) xs) (full_on key (seen ++ x ∷ []) xs (full-step key seen x so_far))

  -- ---- short windows

  abbrev of_rows : List A → Group A → List (Group A)
  of_rows xs g = keyed g.key (short_slices size advance g.rows)

  abbrev of_group : List A → ℕ → Group A
  of_group xs k = record { key = k; rows = rows_with key_of xs k }

  short_of_keys : (key : ℕ) (xs : List A) (ks : List ℕ) → AreDistinct ks
      → filter (λ (g : Group A). nat_eq g.key key) (flat_map (of_rows xs) (map (of_group xs) ks))
      ≡ cond (list_any (nat_eq key) ks) (keyed key (short_slices size advance (rows_with key_of xs key))) []
  short_of_keys key xs [] d = refl
  short_of_keys key xs (k ∷ ks) d =
      filter-append (λ (g : Group A). nat_eq g.key key) (keyed k ws) (flat_map (of_rows xs) (map (of_group xs) ks))
      ∙ ap (λ l. l ++ filter (λ (g : Group A). nat_eq g.key key) (flat_map (of_rows xs) (map (of_group xs) ks))) (filter-keyed key k ws)
      ∙ ap (λ l. cond (nat_eq k key) (keyed k ws) [] ++ l) (short_of_keys key xs ks d.1)
      ∙ split (nat_eq k key) refl
    where
      ws : List (List A)
      ws = short_slices size advance (rows_with key_of xs k)

      vs : List (Group A)
      vs = keyed key (short_slices size advance (rows_with key_of xs key))

      split : (b : Bool) → nat_eq k key ≡ b → cond b (keyed k ws) [] ++ cond (list_any (nat_eq key) ks) vs [] ≡ cond (nat_eq key k || list_any (nat_eq key) ks) vs []
      split true e =
          let is : k ≡ key = eqb-true k key e in
          let once : list_any (nat_eq key) ks ≡ false = subst (λ (i : ℕ). list_any (nat_eq i) ks ≡ false) is d.0 in
          ap (λ b. keyed k ws ++ cond b vs []) once
          ∙ append-nil (keyed k ws)
          ∙ ap (λ i. keyed i (short_slices size advance (rows_with key_of xs i))) is
          ∙ sym (ap (λ b. cond (b || list_any (nat_eq key) ks) vs []) (eq_turned key k ∙ e))
      split false e = sym (ap (λ b. cond (b || list_any (nat_eq key) ks) vs []) (eq_turned key k ∙ e))

  short_of : (key : ℕ) (xs : List A) → filter (λ (g : Group A). nat_eq g.key key) (shorts n key_of size advance xs)
      ≡ of_key key (short_slices size advance (rows_with key_of xs key)) xs
  unfolding groups
  short_of key xs = short_of_keys key xs (first_keys n key_of xs) (distinct_take n (keys_of key_of xs) (distinct_once (map key_of xs)))

  -- ---- all windows of a key

  pub parts_are_slices : (key : ℕ) (xs : List A)
      → windows_of key (parts n key_of size advance xs) ≡ (if has_key n key_of xs key then slices size advance (rows_with key_of xs key) else [])
  unfolding parts
  parts_are_slices key xs =
      ap (λ l. map (λ (g : Group A). g.rows) l)
      (filter-append (λ (g : Group A). nat_eq g.key key) (fulls n key_of size advance [] xs) (shorts n key_of size advance xs))
      ∙ ap (λ l. map (λ (g : Group A). g.rows) (l ++ filter (λ (g : Group A). nat_eq g.key key) (shorts n key_of size advance xs))) (full_on key [] xs (full_at_first key))
      ∙ ap (λ l. map (λ (g : Group A). g.rows) (of_key key (full_slices size advance ys) xs ++ l)) (short_of key xs)
      ∙ split (has_key n key_of xs key)
    where
      ys : List A
      ys = rows_with key_of xs key

      split : (b : Bool) → map (λ (g : Group A). g.rows) (cond b (keyed key (full_slices size advance ys)) [] ++ cond b (keyed key (short_slices size advance ys)) [])
          ≡ cond b (slices size advance ys) []
      split true =
          ap (λ l. map (λ (g : Group A). g.rows) l) (sym (keyed-append key (full_slices size advance ys) (short_slices size advance ys)))
          ∙ rows-keyed key (full_slices size advance ys ++ short_slices size advance ys)
          ∙ full_then_short size advance (length ys) ys some step (omega arith)
      split false = refl
