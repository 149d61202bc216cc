-- An interleaving keeps both orders.
use Rattle.std.proofs.Common.{suc, List, [], ◌∷◌, ◌++◌, true, false, refl, ap}
use Rattle.std.proofs.lemmas.List.Sorted.{IsPermutation-refl, IsPermutation-cons, IsPermutation-middle, IsPermutation-trans}
use Rattle.gl_values.specs.Lists.{IsInterleaving, nothing, from_first, from_second}
use Rattle.gl_values.specs.Laws.{IsPutTogether}

pub put_together : {A : Type 0} (xs ys zs : List A) → IsInterleaving xs ys zs → IsPutTogether xs ys zs
put_together _ _ _ nothing = record { marks = []; all = refl; first = refl; second = refl; elements = IsPermutation-refl [] }
put_together _ _ _ (from_first x xs ys zs rest) =
    let r = put_together xs ys zs rest in
    record {
      marks = true ∷ r.marks;
      all = ap (λ n. suc n) r.all;
      first = ap (λ l. x ∷ l) r.first;
      second = r.second;
      elements = IsPermutation-cons x (xs ++ ys) zs r.elements;
    }
put_together _ _ _ (from_second y xs ys zs rest) =
    let r = put_together xs ys zs rest in
    record {
      marks = false ∷ r.marks;
      all = ap (λ n. suc n) r.all;
      first = r.first;
      second = ap (λ l. y ∷ l) r.second;
      elements = IsPermutation-trans _ _ _ (IsPermutation-middle xs y ys) (IsPermutation-cons y (xs ++ ys) zs r.elements);
    }
