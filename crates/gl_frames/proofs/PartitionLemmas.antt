-- Frames with PARTITION have each row of the first keys of the whole list, with what is made of its key's rows.
use Rattle.std.proofs.Common.{◌≡◌, ℕ, zero, suc, ◌+◌, ◌-◌, ◌<◌, ◌≤◌, List, [], ◌∷◌, ◌++◌, Option, Some, None, Bool, true, false, length, take, drop, append-nil, append_assoc, refl, sym, ap, ◌∙◌, arith, eq-eqb}
use Rattle.std.specs.Prelude.{if◌then◌else◌, nat_eq, slice_get}
use Rattle.std.specs.List.{cons_option, filter_map, range_with_len}
use Rattle.std.proofs.lemmas.Bool.{le-leb}
use Rattle.std.proofs.lemmas.List.{take-append-drop, take_more}
use Rattle.std.proofs.lemmas.List.Elements.{filter-append}
use Rattle.std.proofs.lemmas.Option.{get_or_from_slice_get, slice_get_within}
use Rattle.gl_values.specs.Lists.{rows_with}
use Rattle.gl_values.specs.Partitions.{has_key}
use Rattle.gl_values.proofs.Parting.{has_key-stays, rows_before}
use Rattle.gl_frames.specs.Frames.{by_key, each_of, if_has_key}
use Rattle.gl_frames.specs.Partitions.{EachIsPlain, KeysAreKnown, PartitionsArePlain, kept_row}
use Rattle.gl_frames.proofs.ListLemmas.{lags_plain}

-- ---- whether a key is among the first ones

module _ {A : Type 0} (n : ℕ) (key_of : A → ℕ) where
  -- a key that some row has is among the first ones or not, whatever comes behind
  settled_more : (ys : List A) (z : A) (k : ℕ) → (rows_with key_of ys k ≡ [] → ⊥) → has_key n key_of (ys ++ z ∷ []) k ≡ has_key n key_of ys k
  settled_more ys z k some = by (has_key n key_of ys k) refl (has_key n key_of (ys ++ z ∷ []) k) refl
    where
      by : (b : Bool) → has_key n key_of ys k ≡ b → (d : Bool) → has_key n key_of (ys ++ z ∷ []) k ≡ d → d ≡ b
      by true e d g = sym g ∙ has_key-stays n k key_of ys z e
      by false e true g = absurd (some (rows_before n k key_of ys z e g))
      by false e false g = refl

  still_some : (ys : List A) (z : A) (k : ℕ) → (rows_with key_of ys k ≡ [] → ⊥) → rows_with key_of (ys ++ z ∷ []) k ≡ [] → ⊥
  still_some ys z k some e = by (rows_with key_of ys k) refl
    where
      whole : rows_with key_of ys k ++ rows_with key_of (z ∷ []) k ≡ []
      whole = sym (filter-append (λ x. nat_eq (key_of x) k) ys (z ∷ [])) ∙ e

      by : (xs : List A) → rows_with key_of ys k ≡ xs → ⊥
      by [] p = some p
      by (x ∷ xs) p = let q : (x ∷ xs) ++ rows_with key_of (z ∷ []) k ≡ [] = ap (λ l. l ++ rows_with key_of (z ∷ []) k) (sym p) ∙ whole in cc (q)

  settled : (ys zs : List A) (k : ℕ) → (rows_with key_of ys k ≡ [] → ⊥) → has_key n key_of (ys ++ zs) k ≡ has_key n key_of ys k
  settled ys [] k some = ap (λ l. has_key n key_of l k) (append-nil ys)
  settled ys (z ∷ zs) k some =
      ap (λ l. has_key n key_of l k) (sym (append_assoc ys (z ∷ []) zs)) ∙ settled (ys ++ z ∷ []) zs k (still_some ys z k some) ∙ settled_more ys z k some

  has_row : (xs : List A) (x : A) → rows_with key_of (xs ++ x ∷ []) (key_of x) ≡ [] → ⊥
  has_row xs x e = by (rows_with key_of xs (key_of x)) whole
    where
      one : rows_with key_of (x ∷ []) (key_of x) ≡ x ∷ []
      one = ap (λ (b : Bool). if b then x ∷ [] else []) (eq-eqb (key_of x) (key_of x) refl)

      whole : rows_with key_of xs (key_of x) ++ x ∷ [] ≡ []
      whole = ap (λ l. rows_with key_of xs (key_of x) ++ l) (sym one) ∙ sym (filter-append (λ y. nat_eq (key_of y) (key_of x)) xs (x ∷ [])) ∙ e

      by : (ys : List A) → ys ++ x ∷ [] ≡ [] → ⊥
      by [] p = cc (p)
      by (y ∷ ys) p = cc (p)

  known : (xs : List A) (i : ℕ) (x : A) → slice_get xs i ≡ Some x → has_key n key_of (take (suc i) xs) (key_of x) ≡ has_key n key_of xs (key_of x)
  known xs i x e =
      let within = slice_get_within xs i x e in
      let next : i + 1 ≡ suc i = omega arith in
      let front : take (suc i) xs ≡ take i xs ++ x ∷ [] = ap (λ n. take n xs) (sym next) ∙ take_more xs i x within ∙ ap (λ y. take i xs ++ y ∷ []) (get_or_from_slice_get xs i x x e) in
      sym (ap (λ l. has_key n key_of l (key_of x)) (sym (take-append-drop (suc i) xs))
      ∙ settled (take (suc i) xs) (drop (suc i) xs) (key_of x) (λ p. has_row (take i xs) x (ap (λ l. rows_with key_of l (key_of x)) (sym front) ∙ p)))

pub keys_known : {A : Type 0} → KeysAreKnown A
keys_known n key_of xs i x e = known n key_of xs i x e

-- ---- places in order

module _ {B : Type 0} where
  shifted : (h g : ℕ → Option B) (a n : ℕ) → ((i : ℕ) → h (i + 1) ≡ g i) → filter_map h (range_with_len (a + 1) n) ≡ filter_map g (range_with_len a n)
  shifted h g a zero e = refl
  shifted h g a (suc n) e = ap (λ o. cons_option o (filter_map h (range_with_len (a + 1 + 1) n))) (e a) ∙ ap (cons_option (g a)) (shifted h g (a + 1) n e)

  alike : (h g : ℕ → Option B) (a n : ℕ) → ((i : ℕ) → a ≤ i → i < a + n → h i ≡ g i) → filter_map h (range_with_len a n) ≡ filter_map g (range_with_len a n)
  alike h g a zero e = refl
  alike h g a (suc n) e =
      ap (λ o. cons_option o (filter_map h (range_with_len (a + 1) n))) (e a (omega arith) (omega arith))
      ∙ ap (cons_option (g a)) (alike h g (a + 1) n (λ i l m. e i (omega (arith, l)) (omega (arith, m))))

each_from : {A B : Type 0} (f : List A → Option B) (seen xs : List A) → each_of f seen xs ≡ filter_map (λ i. f (seen ++ take (suc i) xs)) (range_with_len 0 (length xs))
each_from f seen [] = refl
each_from f seen (x ∷ xs) =
    ap (cons_option (f (seen ++ x ∷ []))) (each_from f (seen ++ x ∷ []) xs
    ∙ sym (shifted (λ i. f (seen ++ take (suc i) (x ∷ xs))) (λ i. f (seen ++ (x ∷ []) ++ take (suc i) xs)) 0 (length xs) next))
  where
    next : (i : ℕ) → f (seen ++ take (suc (i + 1)) (x ∷ xs)) ≡ f (seen ++ (x ∷ []) ++ take (suc i) xs)
    next i = let e : i + 1 ≡ suc i = omega arith in ap (λ n. f (seen ++ x ∷ take n xs)) e ∙ ap f (sym (append_assoc seen (x ∷ []) (take (suc i) xs)))

pub each_plain : {A B : Type 0} → EachIsPlain A B
each_plain f xs = each_from f [] xs

pub partitions_plain : {A B : Type 0} → PartitionsArePlain A B
partitions_plain {A = A} {B = B} n key_of f xs =
    each_plain (by_key n key_of f) xs
    ∙ alike (λ i. by_key n key_of f (take (suc i) xs)) (λ i. kept_row n key_of f xs i (slice_get xs i)) 0 (length xs) (λ i l m. at i (omega (arith, m)))
  where
    same : (i : ℕ) (o : Option A) → slice_get xs i ≡ o → if_has_key n key_of f (take (suc i) xs) o ≡ kept_row n key_of f xs i o
    same i None e = refl
    same i (Some x) e = ap (λ (b : Bool). if b then Some (f (rows_with key_of (take (suc i) xs) (key_of x))) else None) (known n key_of xs i x e)

    at : (i : ℕ) → i < length xs → by_key n key_of f (take (suc i) xs) ≡ kept_row n key_of f xs i (slice_get xs i)
    at i lt =
        let own : i - 0 ≡ i = omega arith in
        ap (if_has_key n key_of f (take (suc i) xs))
        (lags_plain xs 0 i lt ∙ ap (λ (b : Bool). if b then slice_get xs (i - 0) else None) (le-leb 0 i (omega arith)) ∙ ap (slice_get xs) own)
        ∙ same i (slice_get xs i) refl
