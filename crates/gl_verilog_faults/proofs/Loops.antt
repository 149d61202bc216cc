-- Whether a net depends on itself can be told, so the first loop is there or none is.
use Rattle.std.proofs.Common.{◌≡◌, ℕ, ◌+◌, ◌⊎◌, inl, inr, Bool, true, false, List, [], ◌∷◌, ◌++◌, map, eqb, refl, sym, ap, subst}
use Rattle.std.specs.Prelude.{◌&&◌, ◌||◌, nat_eq}
use Rattle.std.specs.List.{AllByRecursion}
use Rattle.std.proofs.lemmas.Bool.{or_cases, or_left, or_right, and_parts, and_from, eqb-true, both_ways}
use Rattle.gl_verilog.specs.Module.{Assignment}
use Rattle.gl_verilog.specs.Valid.{depends, mentions, IsChain}
use Rattle.gl_verilog_faults.specs.Demands.{IsLooped}
use Rattle.gl_verilog.proofs.Acyclic.{chain-join}

abbrev pub IsIn : ℕ → List ℕ → Type 0
IsIn x [] = ⊥
IsIn x (t ∷ ts) = (x ≡ t) ⊎ IsIn x ts

abbrev pub AreIn : List ℕ → List ℕ → Type 0
AreIn us ks = AllByRecursion (λ u. IsIn u ks) us

more_in : (k : ℕ) (ks us : List ℕ) → AreIn us ks → AreIn us (k ∷ ks)
more_in k ks [] h = tt
more_in k ks (u ∷ us) h = (inr h.0, more_in k ks us h.1)

joined_in : (us vs ks : List ℕ) (k : ℕ) → AreIn us ks → AreIn vs ks → AreIn (us ++ k ∷ vs) (k ∷ ks)
joined_in [] vs ks k h g = (inl refl, more_in k ks vs g)
joined_in (u ∷ us) vs ks k h g = (inr h.0, joined_in us vs ks k h.1 g)

-- by way of these numbers alone
abbrev pub reach : (ℕ → ℕ → Bool) → List ℕ → ℕ → ℕ → Bool
reach r [] x y = r x y
reach r (k ∷ ks) x y = reach r ks x y || (reach r ks x k && reach r ks k y)

abbrev pub Way : (ℕ → ℕ → Bool) → List ℕ → ℕ → ℕ → Type 0
Way r ks x y = (us : List ℕ) × AreIn us ks × IsChain r x us y

way : (r : ℕ → ℕ → Bool) (ks : List ℕ) (x y : ℕ) → reach r ks x y ≡ true → Way r ks x y
way r [] x y h = ([], tt, h)
way r (k ∷ ks) x y h = elim (or_cases (reach r ks x y) (reach r ks x k && reach r ks k y) h) [
  | inl p ↦ (let w = way r ks x y p in (w.0, more_in k ks w.0 w.1, w.2))
  | inr p ↦ (let q = and_parts (reach r ks x k) (reach r ks k y) p in let a = way r ks x k q.0 in let b = way r ks k y q.1 in
      (a.0 ++ k ∷ b.0, joined_in a.0 b.0 ks k a.1 b.1, chain-join r x a.0 k b.0 y a.2 b.2))
]

abbrev Complete : (ℕ → ℕ → Bool) → List ℕ → Type 0
Complete r ks = (x y : ℕ) (us : List ℕ) → AreIn us ks → IsChain r x us y → reach r ks x y ≡ true

-- one step more, to a number that may be passed
longer : (r : ℕ → ℕ → Bool) (ks : List ℕ) → Complete r ks → (x u y : ℕ) → IsIn u ks → r x u ≡ true → reach r ks u y ≡ true → reach r ks x y ≡ true
longer r ks c x u y i e h = let w = way r ks u y h in c x y (u ∷ w.0) (i, w.1) (e, w.2)

through : (r : ℕ → ℕ → Bool) (k : ℕ) (ks : List ℕ) → Complete r ks → (x y u : ℕ) → IsIn u (k ∷ ks) → r x u ≡ true → (reach r ks u y ≡ true) ⊎ ((reach r ks u k ≡ true) × (reach r ks k y ≡ true)) → reach r (k ∷ ks) x y ≡ true
through r k ks c x y u (inl s) e (inl h) =
    or_right (reach r ks x y) (reach r ks x k && reach r ks k y) (and_from (reach r ks x k) (reach r ks k y) (c x k [] tt (subst (λ (z : ℕ). r x z ≡ true) s e)) (subst (λ (z : ℕ). reach r ks z y ≡ true) s h))
through r k ks c x y u (inl s) e (inr h) =
    or_right (reach r ks x y) (reach r ks x k && reach r ks k y) (and_from (reach r ks x k) (reach r ks k y) (c x k [] tt (subst (λ (z : ℕ). r x z ≡ true) s e)) h.1)
through r k ks c x y u (inr i) e (inl h) = or_left (reach r ks x y) (reach r ks x k && reach r ks k y) (longer r ks c x u y i e h)
through r k ks c x y u (inr i) e (inr h) = or_right (reach r ks x y) (reach r ks x k && reach r ks k y) (and_from (reach r ks x k) (reach r ks k y) (longer r ks c x u k i e h.0) h.1)

parts_of : (r : ℕ → ℕ → Bool) (k : ℕ) (ks : List ℕ) (x y : ℕ) → reach r (k ∷ ks) x y ≡ true → (reach r ks x y ≡ true) ⊎ ((reach r ks x k ≡ true) × (reach r ks k y ≡ true))
parts_of r k ks x y h = elim (or_cases (reach r ks x y) (reach r ks x k && reach r ks k y) h) [ inl p ↦ inl p | inr p ↦ inr (and_parts (reach r ks x k) (reach r ks k y) p) ]

complete_more : (r : ℕ → ℕ → Bool) (k : ℕ) (ks : List ℕ) → Complete r ks → (us : List ℕ) (x y : ℕ) → AreIn us (k ∷ ks) → IsChain r x us y → reach r (k ∷ ks) x y ≡ true
complete_more r k ks c [] x y i h = or_left (reach r ks x y) (reach r ks x k && reach r ks k y) (c x y [] tt h)
complete_more r k ks c (u ∷ us) x y i h = through r k ks c x y u i.0 h.0 (parts_of r k ks u y (complete_more r k ks c us u y i.1 h.1))

complete : (r : ℕ → ℕ → Bool) (ks : List ℕ) → Complete r ks
complete r [] x y [] i h = h
complete r [] x y (u ∷ us) i h = absurd i.0
complete r (k ∷ ks) x y us i h = complete_more r k ks (complete r ks) us x y i h

-- ---- loops

abbrev targets : List Assignment → List ℕ
targets as' = map (λ a. a.target) as'

is_target : (as' : List Assignment) (t n : ℕ) → depends as' t n ≡ true → IsIn t (targets as')
is_target [] t n h = absurd cc
is_target (a ∷ as') t n h = elim (or_cases (nat_eq a.target t && mentions a.value n) (depends as' t n) h) [
  | inl p ↦ inl (sym (eqb-true a.target t (and_parts (nat_eq a.target t) (mentions a.value n) p).0))
  | inr p ↦ inr (is_target as' t n p)
]

pub first_step : (as' : List Assignment) (n : ℕ) (us : List ℕ) (y : ℕ) → IsChain (depends as') n us y → (z : ℕ) × (depends as' n z ≡ true)
first_step as' n [] y h = (y, h)
first_step as' n (u ∷ us) y h = (u, h.0)

ways_in : (as' : List Assignment) (x : ℕ) (us : List ℕ) (y : ℕ) → IsChain (depends as') x us y → AreIn us (targets as')
ways_in as' x [] y h = tt
ways_in as' x (u ∷ us) y h = let s = first_step as' u us y h.1 in (is_target as' u s.0 s.1, ways_in as' u us y h.1)

looped_when : (as' : List Assignment) (t : ℕ) (b : Bool) → reach (depends as') (targets as') t t ≡ b → IsLooped as' t ⊎ (IsLooped as' t → ⊥)
looped_when as' t true e = inl (let w = way (depends as') (targets as') t t e in (w.0, w.2))
looped_when as' t false e = inr (λ l. both_ways (reach (depends as') (targets as') t t) e (complete (depends as') (targets as') t t l.0 (ways_in as' t l.0 t l.1) l.1))

pub looped : (as' : List Assignment) (t : ℕ) → IsLooped as' t ⊎ (IsLooped as' t → ⊥)
looped as' t = looped_when as' t (reach (depends as') (targets as') t t) refl

-- the first of a list that loops
pub record FirstLoop (all part : List Assignment) : Type 0 where
  pub front : List Assignment
  pub looped' : Assignment
  pub back : List Assignment
  pub parts : part ≡ front ++ looped' ∷ back
  pub free : AllByRecursion (λ a. IsLooped all a.target → ⊥) front
  pub loops : IsLooped all looped'.target

next_loop : (all : List Assignment) (a : Assignment) (part : List Assignment) → (IsLooped all a.target → ⊥) → AllByRecursion (λ x. IsLooped all x.target → ⊥) part ⊎ FirstLoop all part → AllByRecursion (λ x. IsLooped all x.target → ⊥) (a ∷ part) ⊎ FirstLoop all (a ∷ part)
next_loop all a part f (inl h) = inl (f, h)
next_loop all a part f (inr h) = inr (record { front = a ∷ h.front; looped' = h.looped'; back = h.back; parts = ap (λ (x : List Assignment). a ∷ x) h.parts; free = (f, h.free); loops = h.loops })

pub first_loop : (all part : List Assignment) → AllByRecursion (λ a. IsLooped all a.target → ⊥) part ⊎ FirstLoop all part
first_loop all [] = inl tt
first_loop all (a ∷ part) = elim (looped all a.target) [
  | inl l ↦ inr (record { front = []; looped' = a; back = part; parts = refl; free = tt; loops = l })
  | inr f ↦ next_loop all a part f (first_loop all part)
]
