-- Facts about each port of a list, and about each two.
use Rattle.std.proofs.Common.{◌≡◌, ◌≢◌, ℕ, zero, suc, List, [], ◌∷◌, Some, true, false, refl, sym, ap, ◌∙◌, subst}
use Rattle.std.specs.Prelude.{slice_get}
use Rattle.std.specs.List.{AllByRecursion}
use Rattle.std.specs.Str.{bytes_eq}
use Rattle.std.proofs.lemmas.Slice.Eq.{bytes_eq-Decides}
use Rattle.gl_net.specs.declared.node.Port.{Port}

-- two names that a test tells apart
pub differ : (xs ys : List ℕ) → bytes_eq xs ys ≡ false → xs ≢ ys
differ xs ys h e = let g : true ≡ false = sym ((bytes_eq-Decides xs ys).1 e) ∙ h in absurd (cc)

-- from a fact of each port to one at each place
pub each_port : (P : Port → Type 0) (ps : List Port) → AllByRecursion P ps → (k : ℕ) (p : Port) → slice_get ps k ≡ Some p → P p
each_port P [] h k p e = absurd (cc)
each_port P (q ∷ ps) h zero p e = let f : q ≡ p = cc in subst P f h.0
each_port P (q ∷ ps) h (suc k) p e = each_port P ps h.1 k p e

-- no two ports have one name
abbrev pub HaveOwnNames : List Port → Type 0
HaveOwnNames [] = Unit {0}
HaveOwnNames (p ∷ ps) = AllByRecursion (λ q. p.name ≢ q.name) ps × HaveOwnNames ps

pub own_names : (ps : List Port) → HaveOwnNames ps → (i j : ℕ) (p q : Port) → slice_get ps i ≡ Some p → slice_get ps j ≡ Some q → p.name ≡ q.name → i ≡ j
own_names [] h i j p q a b e = absurd (cc)
own_names (x ∷ ps) h zero zero p q a b e = refl
own_names (x ∷ ps) h zero (suc j) p q a b e =
    let f : x ≡ p = cc in absurd (each_port (λ y. x.name ≢ y.name) ps h.0 j q b (ap (λ (y : Port). y.name) f ∙ e))
own_names (x ∷ ps) h (suc i) zero p q a b e =
    let f : x ≡ q = cc in absurd (each_port (λ y. x.name ≢ y.name) ps h.0 i p a (ap (λ (y : Port). y.name) f ∙ sym e))
own_names (x ∷ ps) h (suc i) (suc j) p q a b e = ap suc (own_names ps h.1 i j p q a b e)

-- the same for ports that are known by an equation
pub each_known : (P : Port → Type 0) (ps qs : List Port) → ps ≡ qs → AllByRecursion P qs → (k : ℕ) (p : Port) → slice_get ps k ≡ Some p → P p
each_known P ps qs e h k p f = each_port P qs h k p (rw e at f)

pub own_known : (ps qs : List Port) → ps ≡ qs → HaveOwnNames qs → (i j : ℕ) (p q : Port) → slice_get ps i ≡ Some p → slice_get ps j ≡ Some q → p.name ≡ q.name → i ≡ j
own_known ps qs e h i j p q f g = own_names qs h i j p q (rw e at f) (rw e at g)
