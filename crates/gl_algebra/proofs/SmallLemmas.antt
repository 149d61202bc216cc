-- The test of small figures.
use Rattle.std.proofs.Common.{◌≡◌, ℕ, ◌^◌, Bool, true, List, [], ◌∷◌, nat_lt, Some, None, refl}
use Rattle.std.specs.List.{list_all}
use Rattle.std.proofs.lemmas.Bool.{lt-ltb, ltb-true}
use Rattle.gl_bits.proofs.Bools.{and_parts, by_cases, else_false}
use Rattle.gl_algebra.specs.declared.figures.Figures.{Figures}
use Rattle.gl_algebra.specs.FigureTable.{AreSmall}
use Rattle.gl_algebra.specs.Small.{are_small, small_of}

small-true : (f : Figures) → AreSmall f → are_small f ≡ true
unfolding are_small
small-true f s =
    rw (
      lt-ltb f.a (2 ^ 32) s.a,
      lt-ltb f.lt (2 ^ 32) s.lt,
      lt-ltb f.le (2 ^ 32) s.le,
      lt-ltb f.nt (2 ^ 32) s.nt,
      lt-ltb f.ne (2 ^ 32) s.ne,
      lt-ltb f.gt (2 ^ 32) s.gt,
      lt-ltb f.ge (2 ^ 32) s.ge,
    ) refl

abbrev rest_small : List ℕ → Bool
rest_small = list_all (λ x. nat_lt x (2 ^ 32))

small-parts : (f : Figures) → are_small f ≡ true → AreSmall f
unfolding are_small
small-parts f h =
    let a = and_parts (nat_lt f.a (2 ^ 32)) (rest_small (f.lt ∷ f.le ∷ f.nt ∷ f.ne ∷ f.gt ∷ f.ge ∷ [])) h in
    let lt = and_parts (nat_lt f.lt (2 ^ 32)) (rest_small (f.le ∷ f.nt ∷ f.ne ∷ f.gt ∷ f.ge ∷ [])) a.1 in
    let le = and_parts (nat_lt f.le (2 ^ 32)) (rest_small (f.nt ∷ f.ne ∷ f.gt ∷ f.ge ∷ [])) lt.1 in
    let nt = and_parts (nat_lt f.nt (2 ^ 32)) (rest_small (f.ne ∷ f.gt ∷ f.ge ∷ [])) le.1 in
    let ne = and_parts (nat_lt f.ne (2 ^ 32)) (rest_small (f.gt ∷ f.ge ∷ [])) nt.1 in
    let gt = and_parts (nat_lt f.gt (2 ^ 32)) (rest_small (f.ge ∷ [])) ne.1 in
    let ge = and_parts (nat_lt f.ge (2 ^ 32)) (rest_small []) gt.1 in
    record {
      a = ltb-true f.a (2 ^ 32) a.0;
      lt = ltb-true f.lt (2 ^ 32) lt.0;
      le = ltb-true f.le (2 ^ 32) le.0;
      nt = ltb-true f.nt (2 ^ 32) nt.0;
      ne = ltb-true f.ne (2 ^ 32) ne.0;
      gt = ltb-true f.gt (2 ^ 32) gt.0;
      ge = ltb-true f.ge (2 ^ 32) ge.0;
    }

pub small-some : (f : Figures) → AreSmall f → small_of f ≡ Some f
unfolding small_of
small-some f s = rw (small-true f s) refl

pub small-none : (f : Figures) → (AreSmall f → ⊥) → small_of f ≡ None
unfolding small_of
small-none f large = rw (else_false (are_small f) (λ h. large (small-parts f h))) refl

-- what is there is the figures, which are small
pub small-is : (f g : Figures) → small_of f ≡ Some g → (g ≡ f) × AreSmall f
unfolding small_of
small-is f g h =
    by_cases (are_small f)
    (λ e. (let same = rw e at h in cc, small-parts f e))
    (λ e. absurd (let none = rw e at h in cc))

pub small-not : (f : Figures) → small_of f ≡ None → AreSmall f → ⊥
unfolding small_of
small-not f h s = let some = rw (small-true f s) at h in cc
