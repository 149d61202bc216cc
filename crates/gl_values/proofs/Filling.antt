-- Slices that are full and slices that the end cuts short: all slices are those and then these, and one element more
-- completes one window or none.
use Rattle.std.proofs.Common.{◌≡◌, ℕ, zero, suc, ◌+◌, ◌-◌, ◌%◌, ◌<◌, ◌≤◌, List, [], ◌∷◌, ◌++◌, Bool, true, false, cond, length, length-take, length-drop, length-append, take, drop, take_all, drop-drop, sym, ap, ◌∙◌, arith, inl, inr, eq-eqb, ne_eqb}
use Rattle.std.specs.Prelude.{◌&&◌, ◌⊎◌, filter, nat_eq, nat_le, nat_lt}
use Rattle.std.proofs.Math.Nat.{add-mod_right, mod-eq_of_lt}
use Rattle.std.proofs.lemmas.Bool.Decides.{leb_tells}
use Rattle.std.proofs.lemmas.List.{drop_all, drop-append-le, take-append-le}
use Rattle.gl_values.specs.Lists.{slices}
use Rattle.gl_values.specs.Partitions.{completed, short_slices}
use Rattle.gl_values.proofs.Slicing.{slices-cons, slices-nil}

-- the slices of as many elements as their size says
abbrev pub full_slices : {A : Type 0} → ℕ → ℕ → List A → List (List A)
full_slices size advance xs = filter (λ ys. nat_eq (length ys) size) (slices size advance xs)

-- ---- slices go on, by the first one

slices-first : {A : Type 0} (size advance : ℕ) (xs : List A) → 1 ≤ advance → 1 ≤ length xs
    → slices size advance xs ≡ take size xs ∷ slices size advance (drop advance xs)
slices-first size advance [] step some = absurd (omega arith)
slices-first size advance (x ∷ xs) step some = slices-cons size advance x xs step

full-next : {A : Type 0} (size advance : ℕ) (xs : List A) → 1 ≤ size → 1 ≤ advance → size ≤ length xs
    → full_slices size advance xs ≡ take size xs ∷ full_slices size advance (drop advance xs)
full-next size advance xs some step enough =
    let long : length (take size xs) ≡ size = omega (arith, length-take size xs) in
    let rest = full_slices size advance (drop advance xs) in
    ap (filter (λ ys. nat_eq (length ys) size)) (slices-first size advance xs step (omega arith))
    ∙ ap (λ b. cond b (take size xs ∷ rest) rest) (eq-eqb (length (take size xs)) size long)

short-next : {A : Type 0} (size advance : ℕ) (xs : List A) → 1 ≤ size → 1 ≤ advance → size ≤ length xs
    → short_slices size advance xs ≡ short_slices size advance (drop advance xs)
short-next {A = A} size advance xs some step enough =
    let long : length (take size xs) ≡ size = omega (arith, length-take size xs) in
    ap (filter (λ ys. nat_lt (length ys) size)) (slices-first size advance xs step (omega arith))
    ∙ split (leb_tells (suc (length (take size xs))) size) long
  where
    rest : List (List A)
    rest = short_slices size advance (drop advance xs)

    split : ((nat_lt (length (take size xs)) size ≡ true) × (length (take size xs) < size))
        ⊎ ((nat_lt (length (take size xs)) size ≡ false) × (size < suc (length (take size xs)))) → length (take size xs) ≡ size
        → cond (nat_lt (length (take size xs)) size) (take size xs ∷ rest) rest ≡ rest
    split (inl t) long = absurd (let less = t.1 in omega arith)
    split (inr t) long = ap (λ b. cond b (take size xs ∷ rest) rest) t.0

-- a list of fewer elements has none that are full, and all of its slices are short
pub full-none : {A : Type 0} (size advance m : ℕ) (xs : List A) → 1 ≤ advance → length xs ≤ m → length xs < size → full_slices size advance xs ≡ []
full-none size advance m [] step le lt = ap (filter (λ ys. nat_eq (length ys) size)) (slices-nil size advance)
full-none size advance zero (x ∷ xs) step le lt = absurd (omega arith)
full-none size advance (suc m) (x ∷ xs) step le lt =
    let rest : length (drop advance (x ∷ xs)) ≤ m = omega (arith, length-drop advance (x ∷ xs)) in
    let small : length (drop advance (x ∷ xs)) < size = omega (arith, length-drop advance (x ∷ xs)) in
    let short : length (take size (x ∷ xs)) < size = omega (arith, length-take size (x ∷ xs)) in
    let others = full_slices size advance (drop advance (x ∷ xs)) in
    ap (filter (λ ys. nat_eq (length ys) size)) (slices-cons size advance x xs step)
    ∙ ap (λ b. cond b (take size (x ∷ xs) ∷ others) others) (ne_eqb (length (take size (x ∷ xs))) size (λ e. omega (arith, e, short)))
    ∙ full-none size advance m (drop advance (x ∷ xs)) step rest small

short-all : {A : Type 0} (size advance m : ℕ) (xs : List A) → 1 ≤ advance → length xs ≤ m → length xs < size → short_slices size advance xs ≡ slices size advance xs
short-all size advance m [] step le lt =
    ap (filter (λ ys. nat_lt (length ys) size)) (slices-nil size advance) ∙ sym (slices-nil size advance)
short-all size advance zero (x ∷ xs) step le lt = absurd (omega arith)
short-all {A = A} size advance (suc m) (x ∷ xs) step le lt =
    let less : length (drop advance (x ∷ xs)) ≤ m = omega (arith, length-drop advance (x ∷ xs)) in
    let small : length (drop advance (x ∷ xs)) < size = omega (arith, length-drop advance (x ∷ xs)) in
    let short : length (take size (x ∷ xs)) < size = omega (arith, length-take size (x ∷ xs)) in
    ap (filter (λ ys. nat_lt (length ys) size)) (slices-cons size advance x xs step)
    ∙ split (leb_tells (suc (length (take size (x ∷ xs)))) size) short
    ∙ ap (λ l. take size (x ∷ xs) ∷ l) (short-all size advance m (drop advance (x ∷ xs)) step less small)
    ∙ sym (slices-cons size advance x xs step)
  where
    rest : List (List A)
    rest = short_slices size advance (drop advance (x ∷ xs))

    split : ((nat_lt (length (take size (x ∷ xs))) size ≡ true) × (length (take size (x ∷ xs)) < size))
        ⊎ ((nat_lt (length (take size (x ∷ xs))) size ≡ false) × (size < suc (length (take size (x ∷ xs)))))
        → length (take size (x ∷ xs)) < size
        → cond (nat_lt (length (take size (x ∷ xs))) size) (take size (x ∷ xs) ∷ rest) rest ≡ take size (x ∷ xs) ∷ rest
    split (inl t) short = ap (λ b. cond b (take size (x ∷ xs) ∷ rest) rest) t.0
    split (inr t) short = absurd (let more = t.1 in omega arith)

-- all slices are the full ones, and then the short ones
pub full_then_short : {A : Type 0} (size advance m : ℕ) (xs : List A) → 1 ≤ size → 1 ≤ advance → length xs ≤ m
    → full_slices size advance xs ++ short_slices size advance xs ≡ slices size advance xs
full_then_short size advance zero xs some step le =
    ap (λ l. l ++ short_slices size advance xs) (full-none size advance zero xs step le (omega arith))
    ∙ short-all size advance zero xs step le (omega arith)
full_then_short {A = A} size advance (suc m) xs some step le =
    split (leb_tells size (length xs)) (full_then_short size advance m (drop advance xs) some step (omega (arith, length-drop advance xs)))
  where
    split : ((nat_le size (length xs) ≡ true) × (size ≤ length xs)) ⊎ ((nat_le size (length xs) ≡ false) × (length xs < size))
        → full_slices size advance (drop advance xs) ++ short_slices size advance (drop advance xs) ≡ slices size advance (drop advance xs)
        → full_slices size advance xs ++ short_slices size advance xs ≡ slices size advance xs
    split (inr t) later =
        ap (λ l. l ++ short_slices size advance xs) (full-none size advance (suc m) xs step le t.1)
        ∙ short-all size advance (suc m) xs step le t.1
    split (inl t) later =
        let enough = t.1 in
        ap (λ l. l ++ short_slices size advance xs) (full-next size advance xs some step enough)
        ∙ ap (λ l. take size xs ∷ (full_slices size advance (drop advance xs) ++ l)) (short-next size advance xs some step enough)
        ∙ ap (λ l. take size xs ∷ l) later
        ∙ sym (slices-first size advance xs step (omega arith))

-- ---- the window that the last element completes

-- whether the last of so many elements completes one
abbrev pub completes : ℕ → ℕ → ℕ → Bool
completes size advance n = nat_le size n && nat_eq ((n - size) % advance) 0

-- what is completed, where it is known whether
completed-if : {A : Type 0} (size advance : ℕ) (xs : List A) (b : Bool) → completes size advance (length xs) ≡ b
    → completed size advance xs ≡ cond b (drop (length xs - size) xs ∷ []) []
completed-if size advance xs b e = ap (λ b. cond b (drop (length xs - size) xs ∷ []) []) e

pub completed-small : {A : Type 0} (size advance : ℕ) (xs : List A) → length xs < size → completed size advance xs ≡ []
completed-small size advance xs lt =
    elim (leb_tells size (length xs)) [
      | inl t ↦ absurd (let le = t.1 in omega arith)
      | inr t ↦ completed-if size advance xs false (ap (λ b. b && nat_eq ((length xs - size) % advance) 0) t.0)
    ]

completed-far : {A : Type 0} (size advance : ℕ) (xs : List A) → size < length xs → length xs - size < advance → completed size advance xs ≡ []
completed-far size advance xs more near =
    let rest : (length xs - size) % advance ≡ length xs - size = mod-eq_of_lt near in
    let other : nat_eq ((length xs - size) % advance) 0 ≡ false = ne_eqb ((length xs - size) % advance) 0 (λ e. omega (arith, e, rest, more)) in
    elim (leb_tells size (length xs)) [
      | inl t ↦ completed-if size advance xs false (ap (λ b. b && nat_eq ((length xs - size) % advance) 0) t.0 ∙ other)
      | inr t ↦ absurd (let less = t.1 in omega arith)
    ]

-- what is completed does not change with the elements of the first window
completed-step : {A : Type 0} (size advance : ℕ) (xs : List A) → 1 ≤ size → size ≤ length (drop advance xs)
    → completed size advance xs ≡ completed size advance (drop advance xs)
completed-step {A = A} size advance xs some enough =
    let shorter : length xs ≡ length (drop advance xs) + advance = omega (arith, length-drop advance xs) in
    let start : length xs - size ≡ length (drop advance xs) - size + advance = omega arith in
    let same : (length xs - size) % advance ≡ (length (drop advance xs) - size) % advance =
    ap (λ n. n % advance) start ∙ add-mod_right (length (drop advance xs) - size) advance in
    let place : advance + (length (drop advance xs) - size) ≡ length xs - size = omega arith in
    let rows : drop (length xs - size) xs ≡ drop (length (drop advance xs) - size) (drop advance xs) =
    ap (λ n. drop n xs) (sym place) ∙ sym (drop-drop (length (drop advance xs) - size) advance xs) in
    both (leb_tells size (length xs)) (leb_tells size (length (drop advance xs))) (omega arith) same rows
  where
    both : ((nat_le size (length xs) ≡ true) × (size ≤ length xs)) ⊎ ((nat_le size (length xs) ≡ false) × (length xs < size))
        → ((nat_le size (length (drop advance xs)) ≡ true) × (size ≤ length (drop advance xs))) ⊎ ((nat_le size (length (drop advance xs)) ≡ false) × (length (drop advance xs) < size))
        → size ≤ length xs
        → (length xs - size) % advance ≡ (length (drop advance xs) - size) % advance
        → drop (length xs - size) xs ≡ drop (length (drop advance xs) - size) (drop advance xs)
        → completed size advance xs ≡ completed size advance (drop advance xs)
    both (inr s) t le same rows = absurd (let less = s.1 in omega arith)
    both s (inr t) le same rows = absurd (let less = t.1 in omega arith)
    both (inl s) (inl t) le same rows =
        completed-if size advance xs (nat_eq ((length xs - size) % advance) 0) (ap (λ b. b && nat_eq ((length xs - size) % advance) 0) s.0)
        ∙ ap (λ n. cond (nat_eq n 0) (drop (length xs - size) xs ∷ []) []) same
        ∙ ap (λ l. cond (nat_eq ((length (drop advance xs) - size) % advance) 0) (l ∷ []) []) rows
        ∙ sym (completed-if size advance (drop advance xs) (nat_eq ((length (drop advance xs) - size) % advance) 0) (ap (λ b. b && nat_eq ((length (drop advance xs) - size) % advance) 0) t.0))

-- as many elements as a window has are one
completed-whole : {A : Type 0} (size advance : ℕ) (xs : List A) → 1 ≤ advance → length xs ≡ size → completed size advance xs ≡ take size xs ∷ []
completed-whole size advance xs step e =
    let none : length xs - size ≡ 0 = omega arith in
    let rest : (length xs - size) % advance ≡ 0 = ap (λ n. n % advance) none ∙ mod-eq_of_lt step in
    let all : take size xs ≡ xs = take_all size xs (omega arith) in
    elim (leb_tells size (length xs)) [
      | inl t ↦ (
          completed-if size advance xs true (ap (λ b. b && nat_eq ((length xs - size) % advance) 0) t.0 ∙ eq-eqb ((length xs - size) % advance) 0 rest)
          ∙ ap (λ n. drop n xs ∷ []) none
          ∙ ap (λ l. l ∷ []) (sym all)
          )
      | inr t ↦ absurd (let less = t.1 in omega arith)
    ]

-- ---- one element more

-- it does not, where it does not for what is behind the first window
grown : {A : Type 0} (size advance m : ℕ) (xs : List A) (x : A) → 1 ≤ size → 1 ≤ advance → length xs ≤ m
    → (size ≤ length xs → full_slices size advance (drop advance xs ++ x ∷ [])
    ≡ full_slices size advance (drop advance xs) ++ completed size advance (drop advance xs ++ x ∷ []))
    → full_slices size advance (xs ++ x ∷ []) ≡ full_slices size advance xs ++ completed size advance (xs ++ x ∷ [])
grown {A = A} size advance m xs x some step le later = split (leb_tells size (length xs))
  where
    zs : List A
    zs = xs ++ x ∷ []

    long : length zs ≡ length xs + 1
    long = length-append xs (x ∷ [])

    -- none is full before
    few : (m : ℕ) → length xs ≤ m → length xs < size
        → ((nat_le size (length xs + 1) ≡ true) × (size ≤ length xs + 1)) ⊎ ((nat_le size (length xs + 1) ≡ false) × (length xs + 1 < size))
        → full_slices size advance zs ≡ full_slices size advance xs ++ completed size advance zs
    few m le lt (inr t) =
        let less = t.1 in
        full-none size advance (suc m) zs step (omega (arith, long)) (omega (arith, long))
        ∙ sym (completed-small size advance zs (omega (arith, long)))
        ∙ ap (λ l. l ++ completed size advance zs) (sym (full-none size advance m xs step le lt))
    few m le lt (inl t) =
        let more = t.1 in
        let whole : length zs ≡ size = omega (arith, long) in
        let rest : length (drop advance zs) < size = omega (arith, length-drop advance zs) in
        full-next size advance zs some step (omega arith)
        ∙ ap (λ l. take size zs ∷ l) (full-none size advance (suc m) (drop advance zs) step (omega (arith, long, length-drop advance zs)) rest)
        ∙ sym (completed-whole size advance zs step whole)
        ∙ ap (λ l. l ++ completed size advance zs) (sym (full-none size advance m xs step le lt))

    -- the first window stays, and what is behind it goes on
    far : size ≤ length xs → advance ≤ length xs
        → full_slices size advance (drop advance xs ++ x ∷ []) ≡ full_slices size advance (drop advance xs) ++ completed size advance (drop advance xs ++ x ∷ [])
        → ((nat_le size (length (drop advance zs)) ≡ true) × (size ≤ length (drop advance zs))) ⊎ ((nat_le size (length (drop advance zs)) ≡ false) × (length (drop advance zs) < size))
        → full_slices size advance (drop advance zs) ≡ full_slices size advance (drop advance xs) ++ completed size advance zs
    far enough within later s =
        let behind : drop advance zs ≡ drop advance xs ++ x ∷ [] = drop-append-le advance xs (x ∷ []) within in
        ap (full_slices size advance) behind ∙ later
        ∙ ap (λ l. full_slices size advance (drop advance xs) ++ completed size advance l) (sym behind)
        ∙ ap (λ l. full_slices size advance (drop advance xs) ++ l) (same s)
      where
        same : ((nat_le size (length (drop advance zs)) ≡ true) × (size ≤ length (drop advance zs))) ⊎ ((nat_le size (length (drop advance zs)) ≡ false) × (length (drop advance zs) < size))
            → completed size advance (drop advance zs) ≡ completed size advance zs
        same (inl t) = sym (completed-step size advance zs some t.1)
        same (inr t) =
            let less = t.1 in
            completed-small size advance (drop advance zs) less
            ∙ sym (completed-far size advance zs (omega (arith, long)) (omega (arith, long, length-drop advance zs)))

    near : size ≤ length xs → length xs < advance
        → full_slices size advance (drop advance zs) ≡ full_slices size advance (drop advance xs) ++ completed size advance zs
    near enough past =
        ap (full_slices size advance) (drop_all advance zs (omega (arith, long)))
        ∙ ap (λ l. full_slices size advance l) (sym (drop_all advance xs (omega arith)))
        ∙ nothing (full-none size advance 0 (drop advance xs) step (omega (arith, length-drop advance xs)) (omega (arith, length-drop advance xs)))
      where
        nothing : full_slices size advance (drop advance xs) ≡ [] → full_slices size advance (drop advance xs) ≡ full_slices size advance (drop advance xs) ++ completed size advance zs
        nothing none =
            none ∙ sym (completed-far size advance zs (omega (arith, long)) (omega (arith, long)))
            ∙ ap (λ l. l ++ completed size advance zs) (sym none)

    behind_first : size ≤ length xs
        → full_slices size advance (drop advance zs) ≡ full_slices size advance (drop advance xs) ++ completed size advance zs
        → full_slices size advance zs ≡ full_slices size advance xs ++ completed size advance zs
    behind_first enough later =
        full-next size advance zs some step (omega (arith, long))
        ∙ ap (λ l. l ∷ full_slices size advance (drop advance zs)) (take-append-le size xs (x ∷ []) enough)
        ∙ ap (λ l. take size xs ∷ l) later
        ∙ ap (λ l. l ++ completed size advance zs) (sym (full-next size advance xs some step enough))

    split : ((nat_le size (length xs) ≡ true) × (size ≤ length xs)) ⊎ ((nat_le size (length xs) ≡ false) × (length xs < size))
        → full_slices size advance zs ≡ full_slices size advance xs ++ completed size advance zs
    split (inr t) = few m le t.1 (leb_tells size (length xs + 1))
    split (inl t) =
        behind_first t.1 (elim (leb_tells advance (length xs)) [
          | inl s ↦ far t.1 s.1 (later t.1) (leb_tells size (length (drop advance zs)))
          | inr s ↦ near t.1 s.1
        ])

-- the window that it completes does not stand in those that were full before
pub full-push : {A : Type 0} (size advance m : ℕ) (xs : List A) (x : A) → 1 ≤ size → 1 ≤ advance → length xs ≤ m
    → full_slices size advance (xs ++ x ∷ []) ≡ full_slices size advance xs ++ completed size advance (xs ++ x ∷ [])
full-push {A = A} size advance zero xs x some step le = grown size advance zero xs x some step le (λ enough. absurd (omega arith))
full-push {A = A} size advance (suc m) xs x some step le =
    grown size advance (suc m) xs x some step le (λ enough.
    full-push size advance m (drop advance xs) x some step (omega (arith, length-drop advance xs)))
