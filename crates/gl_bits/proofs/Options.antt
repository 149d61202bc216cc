-- Plain facts about what may be absent, or an error.
use Rattle.std.proofs.Common.{◌≡◌, true, Option, Some, None, Result, Ok, Err, OnOk, refl, sym, subst}
use Rattle.std.specs.Prelude.{is_some, option_map, option_and_then, IsSomeAnd}

pub some_same : {A : Type 0} (x y : A) → Some x ≡ Some y → x ≡ y
some_same x y h = cc

pub not_some : {A : Type 0} (x : A) → None ≡ Some x → ⊥
not_some x h = absurd cc

-- a fact of what is there
pub some_fact : {A : Type 0} (P : A → Type 0) (x y : A) → Some x ≡ Some y → P x → P y
some_fact P x y h p = subst P (some_same x y h) p

pub some_and : {A : Type 0} (P : A → Type 0) (o : Option A) (x : A) → o ≡ Some x → P x → IsSomeAnd o P
some_and P None x h p = absurd (not_some x h)
some_and P (Some y) x h p = subst P (sym (some_same y x h)) p

-- what is there
pub some_there : {A : Type 0} (o : Option A) → is_some o ≡ true → (x : A) × (o ≡ Some x)
some_there None h = absurd cc
some_there (Some x) h = (x, refl)

pub map_some : {A B : Type 0} (f : A → B) (o : Option A) (y : B) → option_map f o ≡ Some y → (x : A) × (o ≡ Some x) × (y ≡ f x)
map_some f None y h = absurd cc
map_some f (Some x) y h = (x, refl, (let g : f x ≡ y = cc in sym g))

-- what was there, and what became of it
pub record FoundIn {A B : Type 0} (f : A → B) (o : Option A) (r : B) : Type 0 where
  pub found : A
  pub there : o ≡ Some found
  pub is : f found ≡ r

pub map_found : {A B : Type 0} (f : A → B) (o : Option A) (r : B) → option_map f o ≡ Some r → FoundIn f o r
map_found f None r e = absurd cc
map_found f (Some x) r e = record { found = x; there = refl; is = cc }

pub on_ok : {T E : Type 0} {P Q : Type 0} (r : Result T E) → (P → Q) → OnOk r P → OnOk r Q
on_ok (Ok x) f p = f p
on_ok (Err e) f p = tt

pub then_some : {A B : Type 0} (f : A → Option B) (o : Option A) (y : B) → option_and_then f o ≡ Some y → (x : A) × (o ≡ Some x) × (f x ≡ Some y)
then_some f None y h = absurd cc
then_some f (Some x) y h = (x, refl, h)
