-- What stands under a number that was found by its name.
use Rattle.std.proofs.Common.{◌≡◌, ℕ, suc, ◌+◌, true, List, [], ◌∷◌, Option, Some, None, refl, ◌∙◌, subst, inl, inr, arith}
use Rattle.std.specs.Prelude.{slice_get, bytes_eq}
use Rattle.std.specs.Option.{option_map}
use Rattle.std.proofs.lemmas.Bool.{cases_Bool}
use Rattle.gl_bits.proofs.Options.{some_same}
use Rattle.gl_verilog.specs.Module.{Declaration, number_of}

-- what a number that was found by its name stands for
pub record Found (ds : List Declaration) (name : List ℕ) (n : ℕ) : Type 0 where
  pub d : Declaration
  pub there : slice_get ds n ≡ Some d
  pub named : bytes_eq d.name name ≡ true

found_first : (x : Declaration) (ds : List Declaration) (name : List ℕ) (n : ℕ) → bytes_eq x.name name ≡ true → Some 0 ≡ Some n → Found (x ∷ ds) name n
found_first x ds name n named e = subst (Found (x ∷ ds) name) (some_same 0 n e) (record { d = x; there = refl; named = named })

found_later : (x : Declaration) (ds : List Declaration) (name : List ℕ) (n : ℕ) (o : Option ℕ) → ((k : ℕ) → o ≡ Some k → Found ds name k) → option_map (λ k. k + 1) o ≡ Some n → Found (x ∷ ds) name n
found_later x ds name n None more h = absurd cc
found_later x ds name n (Some k) more h =
    let r = more k refl in
    let q : suc k ≡ n = (let z : suc k ≡ k + 1 = omega arith in z) ∙ some_same (k + 1) n h in
    subst (Found (x ∷ ds) name) q (record { d = r.d; there = r.there; named = r.named })

pub found : (ds : List Declaration) (name : List ℕ) (n : ℕ) → number_of ds name ≡ Some n → Found ds name n
found [] name n h = absurd cc
found (x ∷ ds) name n h = elim (cases_Bool (bytes_eq x.name name)) [
  | inl t ↦ found_first x ds name n t (rw t at h)
  | inr f ↦ found_later x ds name n (number_of ds name) (λ k e. found ds name k e) (rw f at h)
]
