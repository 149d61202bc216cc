-- Elements of lists, and lists that are made of numbered elements.
use Rattle.std.proofs.Common.{◌≡◌, ℕ, zero, suc, ◌+◌, List, [], ◌∷◌, ◌++◌, length, Option, Some, None, IfSome, refl, sym, ap, subst, ◌∙◌, arith, inl, inr, ◌⊎◌, zero-add}
use Rattle.std.specs.Prelude.{slice_get}
use Rattle.std.specs.List.{AllByRecursion}
use Rattle.gl_bits.proofs.Options.{some_same, not_some}
use Rattle.gl_verilog_writer.specs.Design.{with_option, numbered}
use Rattle.gl_verilog_writer.proofs.Model.{counted}

-- a place counted from 0
pub get-from_zero : {A : Type 0} (xs : List A) (k : ℕ) (x : A) → slice_get xs k ≡ Some x → slice_get xs (0 + k) ≡ Some x
get-from_zero xs k x e = ap (slice_get xs) (zero-add k) ∙ e

pub get-right : {A : Type 0} (xs ys : List A) (k : ℕ) → slice_get (xs ++ ys) (length xs + k) ≡ slice_get ys k
get-right [] ys k = ap (slice_get ys) (zero-add k)
get-right (x ∷ xs) ys k = ap (slice_get (x ∷ (xs ++ ys))) (let z : suc (length xs) + k ≡ suc (length xs + k) = omega arith in z) ∙ get-right xs ys k

pub get-parts : {A : Type 0} (xs ys : List A) (n : ℕ) (x : A) → slice_get (xs ++ ys) n ≡ Some x → (slice_get xs n ≡ Some x) ⊎ ((k : ℕ) × (n ≡ length xs + k) × (slice_get ys k ≡ Some x))
get-parts [] ys n x e = inr (n, (let z : n ≡ 0 + n = omega arith in z), e)
get-parts (z ∷ xs) ys zero x e = inl e
get-parts (z ∷ xs) ys (suc n) x e = elim (get-parts xs ys n x e) [ inl p ↦ inl p | inr p ↦ inr (p.0, (let q = p.1 in let r : suc n ≡ suc (length xs) + p.0 = omega (arith, q) in r), p.2) ]

up : (n k : ℕ) → n + 1 + k ≡ n + suc k
up n k = omega arith

pub get-counted : {A B : Type 0} (g : ℕ → A → B) (n : ℕ) (xs : List A) (k : ℕ) (x : A) → slice_get xs k ≡ Some x → slice_get (counted g n xs) k ≡ Some (g (n + k) x)
get-counted g n [] k x e = absurd (not_some x e)
get-counted g n (z ∷ xs) zero x e = ap (λ y. Some (g n y)) (some_same z x e) ∙ ap (λ m. Some (g m x)) (let q : n ≡ n + 0 = omega arith in q)
get-counted g n (z ∷ xs) (suc k) x e = get-counted g (n + 1) xs k x e ∙ ap (λ m. Some (g m x)) (up n k)

pub get-uncounted : {A B : Type 0} (g : ℕ → A → B) (n : ℕ) (xs : List A) (k : ℕ) (y : B) → slice_get (counted g n xs) k ≡ Some y → (x : A) × (slice_get xs k ≡ Some x) × (y ≡ g (n + k) x)
get-uncounted g n [] k y e = absurd (not_some y e)
get-uncounted g n (z ∷ xs) zero y e = (z, refl, sym (some_same (g n z) y e) ∙ ap (λ m. g m z) (let q : n ≡ n + 0 = omega arith in q))
get-uncounted g n (z ∷ xs) (suc k) y e = let r = get-uncounted g (n + 1) xs k y e in (r.0, r.1, r.2 ∙ ap (λ m. g m r.0) (up n k))

with-all : {B : Type 0} (P : B → Type 0) (o : Option B) (ys : List B) → IfSome o P → AllByRecursion P ys → AllByRecursion P (with_option o ys)
with-all P None ys h a = a
with-all P (Some y) ys h a = (h, a)

-- what holds of all that each element gives
pub numbered-all : {A B : Type 0} (P : B → Type 0) (f : ℕ → A → Option B) (n : ℕ) (xs : List A) → ((k : ℕ) (x : A) → slice_get xs k ≡ Some x → IfSome (f (n + k) x) P) → AllByRecursion P (numbered f n xs)
numbered-all P f n [] h = tt
numbered-all P f n (x ∷ xs) h =
    with-all P (f n x) (numbered f (n + 1) xs)
    (subst (λ (m : ℕ). IfSome (f m x) P) (let q : n + 0 ≡ n = omega arith in q) (h 0 x refl))
    (numbered-all P f (n + 1) xs (λ k y e. subst (λ (m : ℕ). IfSome (f m y) P) (sym (up n k)) (h (suc k) y e)))

with-head : {B : Type 0} (P : B → Type 0) (o : Option B) (ys : List B) (y : B) → o ≡ Some y → AllByRecursion P (with_option o ys) → P y
with-head P None ys y e a = absurd (not_some y e)
with-head P (Some z) ys y e a = subst P (some_same z y e) a.0

with-tail : {B : Type 0} (P : B → Type 0) (o : Option B) (ys : List B) → AllByRecursion P (with_option o ys) → AllByRecursion P ys
with-tail P None ys a = a
with-tail P (Some z) ys a = a.1

pub numbered-each : {A B : Type 0} (P : B → Type 0) (f : ℕ → A → Option B) (n : ℕ) (xs : List A) (k : ℕ) (x : A) (y : B) → AllByRecursion P (numbered f n xs) → slice_get xs k ≡ Some x → f (n + k) x ≡ Some y → P y
numbered-each P f n [] k x y a e g = absurd (not_some x e)
numbered-each P f n (z ∷ xs) zero x y a e g =
    let q : n + 0 ≡ n = omega arith in
    with-head P (f n z) (numbered f (n + 1) xs) y (ap (f n) (some_same z x e) ∙ ap (λ m. f m x) (sym q) ∙ g) a
numbered-each P f n (z ∷ xs) (suc k) x y a e g =
    numbered-each P f (n + 1) xs k x y (with-tail P (f n z) (numbered f (n + 1) xs) a) e (ap (λ m. f m x) (up n k) ∙ g)

pub with-append : {B : Type 0} (o : Option B) (xs ys : List B) → with_option o xs ++ ys ≡ with_option o (xs ++ ys)
with-append None xs ys = refl
with-append (Some x) xs ys = refl

-- ---- sums over what is given, of which one element counts

module _ {B : Type 0} (c : B → ℕ) where
  abbrev pub total : List B → ℕ
  total [] = 0
  total (y ∷ ys) = c y + total ys

  abbrev pub count : Option B → ℕ
  count None = 0
  count (Some y) = c y

  total-with : (o : Option B) (ys : List B) → total (with_option o ys) ≡ count o + total ys
  total-with None ys = (let q : total ys ≡ 0 + total ys = omega arith in q)
  total-with (Some y) ys = refl

  pub total-append : (xs ys : List B) → total (xs ++ ys) ≡ total xs + total ys
  total-append [] ys = (let q : total ys ≡ 0 + total ys = omega arith in q)
  total-append (x ∷ xs) ys = ap (λ (m : ℕ). c x + m) (total-append xs ys) ∙ (let q : c x + (total xs + total ys) ≡ c x + total xs + total ys = omega arith in q)

  -- none counts
  pub total-none : {A : Type 0} (f : ℕ → A → Option B) (n : ℕ) (xs : List A) → ((k : ℕ) (x : A) → slice_get xs k ≡ Some x → count (f (n + k) x) ≡ 0) → total (numbered f n xs) ≡ 0
  total-none f n [] h = refl
  total-none f n (x ∷ xs) h =
      let a : count (f n x) ≡ 0 = ap (λ (m : ℕ). count (f m x)) (let q : n ≡ n + 0 = omega arith in q) ∙ h 0 x refl in
      let b = total-none f (n + 1) xs (λ k y e. ap (λ (m : ℕ). count (f m y)) (up n k) ∙ h (suc k) y e) in
      total-with (f n x) (numbered f (n + 1) xs) ∙ rw (a, b) refl

  -- the element at a place alone counts
  pub total-one : {A : Type 0} (f : ℕ → A → Option B) (n : ℕ) (xs : List A) (k : ℕ) (x : A) → slice_get xs k ≡ Some x → ((j : ℕ) (y : A) → slice_get xs j ≡ Some y → (j ≡ k → ⊥) → count (f (n + j) y) ≡ 0) → total (numbered f n xs) ≡ count (f (n + k) x)
  total-one f n [] k x e h = absurd (not_some x e)
  total-one f n (z ∷ xs) zero x e h =
      let a : count (f n z) ≡ count (f (n + 0) x) = ap (λ (y : _). count (f n y)) (some_same z x e) ∙ ap (λ (m : ℕ). count (f m x)) (let q : n ≡ n + 0 = omega arith in q) in
      let b = total-none f (n + 1) xs (λ j y g. ap (λ (m : ℕ). count (f m y)) (up n j) ∙ h (suc j) y g (λ q. omega arith)) in
      total-with (f n z) (numbered f (n + 1) xs) ∙ ap (λ (m : ℕ). count (f n z) + m) b ∙ (let q : count (f n z) + 0 ≡ count (f n z) = omega arith in q) ∙ a
  total-one f n (z ∷ xs) (suc k) x e h =
      let a : count (f n z) ≡ 0 = ap (λ (m : ℕ). count (f m z)) (let q : n ≡ n + 0 = omega arith in q) ∙ h 0 z refl (λ q. omega arith) in
      let b = total-one f (n + 1) xs k x e (λ j y g ne. ap (λ (m : ℕ). count (f m y)) (up n j) ∙ h (suc j) y g (λ q. ne (let r : j ≡ k = omega arith in r))) in
      total-with (f n z) (numbered f (n + 1) xs) ∙ ap (λ (m : ℕ). m + total (numbered f (n + 1) xs)) a ∙ (let q : 0 + total (numbered f (n + 1) xs) ≡ total (numbered f (n + 1) xs) = omega arith in q) ∙ b ∙ ap (λ (m : ℕ). count (f m x)) (up n k)
