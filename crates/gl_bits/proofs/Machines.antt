-- A machine that takes tokens one after the other, whatever its states and its tokens are: each step goes on from a state, or there is none.
use Rattle.std.proofs.Common.{◌≡◌, List, [], ◌∷◌, ◌++◌, Option, Some, None, refl, sym, ap, ◌∙◌}
use Rattle.gl_bits.proofs.Options.{some_same, not_some}

-- the state behind a list of tokens is the one to which the steps lead
pub record IsMachine {S T : Type 0} (step : S → T → Option S) (steps : S → List T → Option S) : Type 0 where
  pub none_left : (s : S) → steps s [] ≡ Some s
  pub goes : (s x : S) (t : T) (ts : List T) → step s t ≡ Some x → steps s (t ∷ ts) ≡ steps x ts
  pub stops : (s : S) (t : T) (ts : List T) → step s t ≡ None → steps s (t ∷ ts) ≡ None

same_by : {S T : Type 0} (step : S → T → Option S) (steps : S → List T → Option S) → IsMachine step steps → (o : Option S) (s s' : S) (t : T) (ts : List T) → step s t ≡ o → step s' t ≡ o → steps s (t ∷ ts) ≡ steps s' (t ∷ ts)
same_by step steps m (Some x) s s' t ts e e' = m.goes s x t ts e ∙ sym (m.goes s' x t ts e')
same_by step steps m None s s' t ts e e' = m.stops s t ts e ∙ sym (m.stops s' t ts e')

-- two states that a token leads to the same go on alike
pub machine-same : {S T : Type 0} (step : S → T → Option S) (steps : S → List T → Option S) → IsMachine step steps → (s s' : S) (t : T) (ts : List T) → step s t ≡ step s' t → steps s (t ∷ ts) ≡ steps s' (t ∷ ts)
machine-same step steps m s s' t ts e = same_by step steps m (step s' t) s s' t ts e refl

parts_by : {S T : Type 0} (step : S → T → Option S) (steps : S → List T → Option S) → IsMachine step steps → (o : Option S) (s y : S) (t : T) (ts : List T) → step s t ≡ o → steps s (t ∷ ts) ≡ Some y
    → (x : S) × (step s t ≡ Some x) × (steps x ts ≡ Some y)
parts_by step steps m (Some x) s y t ts e h = (x, e, sym (m.goes s x t ts e) ∙ h)
parts_by step steps m None s y t ts e h = absurd (not_some y (sym (m.stops s t ts e) ∙ h))

-- the first step, and those behind it
pub machine-parts : {S T : Type 0} (step : S → T → Option S) (steps : S → List T → Option S) → IsMachine step steps → (s y : S) (t : T) (ts : List T) → steps s (t ∷ ts) ≡ Some y → (x : S) × (step s t ≡ Some x) × (steps x ts ≡ Some y)
machine-parts step steps m s y t ts h = parts_by step steps m (step s t) s y t ts refl h

-- tokens behind tokens that lead to a state go on from there
pub machine-append : {S T : Type 0} (step : S → T → Option S) (steps : S → List T → Option S) → IsMachine step steps → (a b : List T) (s x : S) → steps s a ≡ Some x → steps s (a ++ b) ≡ steps x b
machine-append step steps m [] b s x e = ap (λ y. steps y b) (some_same s x (sym (m.none_left s) ∙ e))
machine-append step steps m (t ∷ a) b s x e =
    let p = machine-parts step steps m s x t a e in
    m.goes s p.0 t (a ++ b) p.1 ∙ machine-append step steps m a b p.0 x p.2

-- tokens that lead to a state lead to one at each of their fronts
pub machine-front : {S T : Type 0} (step : S → T → Option S) (steps : S → List T → Option S) → IsMachine step steps → (a b : List T) (s y : S) → steps s (a ++ b) ≡ Some y → (x : S) × (steps s a ≡ Some x) × (steps x b ≡ Some y)
machine-front step steps m [] b s y e = (s, m.none_left s, e)
machine-front step steps m (t ∷ a) b s y e =
    let p = machine-parts step steps m s y t (a ++ b) e in
    let q = machine-front step steps m a b p.0 y p.2 in
    (q.0, m.goes s p.0 t a p.1 ∙ q.1, q.2)

-- and a token more
pub machine-push : {S T : Type 0} (step : S → T → Option S) (steps : S → List T → Option S) → IsMachine step steps → (a : List T) (t : T) (s x y : S) → steps s a ≡ Some x → step x t ≡ Some y → steps s (a ++ t ∷ []) ≡ Some y
machine-push step steps m a t s x y e f = machine-append step steps m a (t ∷ []) s x e ∙ m.goes x y t [] f ∙ m.none_left y
