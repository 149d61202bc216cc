-- Declarations of distinct names: the number of a declaration's own name is its place.
use Rattle.std.proofs.Common.{◌≡◌, ℕ, zero, suc, ◌+◌, false, List, [], ◌∷◌, Some, refl, subst, arith}
use Rattle.std.specs.Prelude.{slice_get, bytes_eq}
use Rattle.std.proofs.lemmas.Cmp.{nat_list_eq_equiv}
use Rattle.gl_verilog.specs.Module.{Declaration, number_of}
use Rattle.gl_verilog.specs.Valid.{AreDistinct, Differs}

differs_at : (x : Declaration) (ds : List Declaration) (n : ℕ) (d : Declaration) → Differs x ds → slice_get ds n ≡ Some d → bytes_eq x.name d.name ≡ false
differs_at x [] n d h e = absurd cc
differs_at x (y ∷ ds) zero d h e = let same : y ≡ d = cc in subst (λ (z : Declaration). bytes_eq x.name z.name ≡ false) same h.0
differs_at x (y ∷ ds) (suc n) d h e = differs_at x ds n d h.1 e

pub number_at : (ds : List Declaration) (n : ℕ) (d : Declaration) → AreDistinct ds → slice_get ds n ≡ Some d → number_of ds d.name ≡ Some n
number_at [] n d h e = absurd cc
number_at (x ∷ ds) zero d h e =
    let same : x ≡ d = cc in
    subst (λ (z : Declaration). number_of (x ∷ ds) z.name ≡ Some 0) same (rw (nat_list_eq_equiv.refl x.name) refl)
number_at (x ∷ ds) (suc n) d h e =
    let other : bytes_eq x.name d.name ≡ false = differs_at x ds n d h.0 e in
    let later : number_of ds d.name ≡ Some n = number_at ds n d h.1 e in
    let one : n + 1 ≡ suc n = omega arith in
    rw (other, later, one) refl
