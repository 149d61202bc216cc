-- Results joined in order, one part more.
use Rattle.std.proofs.Common.{◌≡◌, ℕ, zero, suc, ◌+◌, ◌<◌, List, [], ◌∷◌, ◌++◌, Bool, false, length, take, get_or, refl, sym, ap, ◌∙◌, arith, append_assoc, append-nil}
use Rattle.std.specs.Prelude.{map, ◌||◌}
use Rattle.gl_values.specs.Results.{Row, Results, AreJoined}
use Rattle.gl_bits.proofs.Bools.{or_join, or_none}

pub joined_push : {A : Type 0} (body : A → Results) (parts : List A) (part : A) (out o : List Row) (p q : Bool) → AreJoined body parts out p → body part o q → AreJoined body (parts ++ part ∷ []) (out ++ o) (p || q)
joined_push body [] part out o p q (e, s) here =
    (o, [], q, false, here, (refl, refl), ap (λ l. l ++ o) e ∙ sym (append-nil o), ap (λ b. b || q) s ∙ sym (or_none q))
joined_push body (x ∷ xs) part out o p q (first, later, a, b, there, rest, e, s) here = (
  first,
  later ++ o,
  a,
  b || q,
  there,
  joined_push body xs part later o b q rest here,
  ap (λ l. l ++ o) e ∙ append_assoc first later o,
  ap (λ c. c || q) s ∙ or_join a b q,
)

-- the parts may be seen another way
pub joined_map : {A B : Type 0} (f : A → B) (body : B → Results) (parts : List A) (out : List Row) (p : Bool) → AreJoined body (map f parts) out p → AreJoined (λ x. body (f x)) parts out p
joined_map f body [] out p j = j
joined_map f body (x ∷ xs) out p (first, later, a, b, there, rest, e, s) = (first, later, a, b, there, joined_map f body xs later b rest, e, s)

-- one element more
pub map_taken : {A B : Type 0} (f : A → B) (xs : List A) (i : ℕ) (x : A) → i < length xs → x ≡ get_or xs i x → map f (take (i + 1) xs) ≡ map f (take i xs) ++ f x ∷ []
map_taken f [] i x lt is = absurd (omega arith)
map_taken f (y ∷ xs) zero x lt is = ap (λ z. f z ∷ []) (sym is)
map_taken f (y ∷ xs) (suc i) x lt is =
    let place : suc i + 1 ≡ suc (i + 1) = omega arith in
    ap (λ n. map f (take n (y ∷ xs))) place ∙ ap (λ l. f y ∷ l) (map_taken f xs i x (omega arith) is)
