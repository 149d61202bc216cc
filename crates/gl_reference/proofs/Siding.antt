-- Rows side by side, one more of each.
use Rattle.std.proofs.Common.{◌≡◌, ℕ, zero, suc, ◌+◌, ◌<◌, List, [], ◌∷◌, ◌++◌, length, take, get_or, sym, ap, ◌∙◌, arith}
use Rattle.gl_values.specs.Results.{beside}

pub beside_more : (ls rs : List (List ℕ)) (i : ℕ) (l r : List ℕ) → i < length ls → i < length rs → l ≡ get_or ls i l → r ≡ get_or rs i r
    → beside (take (i + 1) ls) (take (i + 1) rs) ≡ beside (take i ls) (take i rs) ++ (l ++ r) ∷ []
beside_more [] rs i l r lt mt e f = absurd (omega arith)
beside_more (x ∷ ls) [] i l r lt mt e f = absurd (omega arith)
beside_more (x ∷ ls) (y ∷ rs) zero l r lt mt e f = ap (λ k. (k ++ y) ∷ []) (sym e) ∙ ap (λ k. (l ++ k) ∷ []) (sym f)
beside_more (x ∷ ls) (y ∷ rs) (suc i) l r lt mt e f =
    let place : suc i + 1 ≡ suc (i + 1) = omega arith in
    ap (λ n. beside (take n (x ∷ ls)) (take n (y ∷ rs))) place ∙ ap (λ k. (x ++ y) ∷ k) (beside_more ls rs i l r (omega arith) (omega arith) e f)
