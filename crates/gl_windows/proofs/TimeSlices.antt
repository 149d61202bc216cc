-- The first windows of time over a list, one tuple more.
use Rattle.std.proofs.Common.{◌≡◌, ℕ, zero, suc, ◌+◌, ◌*◌, ◌<◌, List, [], ◌∷◌, ◌++◌, length, Bool, false, ◌&&◌, refl, ap, ◌∙◌, arith}
use Rattle.std.specs.Prelude.{if◌then◌else◌, nat_le, nat_lt}
use Rattle.std.proofs.lemmas.List.{append-nil}
use Rattle.gl_values.specs.Times.{tpart, tfirsts}
use Rattle.gl_values.proofs.Timing.{tpart-more}

-- a tuple that is in none of the first windows leaves them as they are
pub tfirsts-more : {A : Type 0} (size advance d t : ℕ) (ts : List ℕ) (x : A) (xs : List A) → length ts ≡ length xs
    → ((j : ℕ) → j < d → (nat_le (j * advance) t && nat_lt t (j * advance + size)) ≡ false)
    → tfirsts size advance d (ts ++ t ∷ []) (xs ++ x ∷ []) ≡ tfirsts size advance d ts xs
tfirsts-more size advance zero t ts x xs h out = refl
tfirsts-more size advance (suc d) t ts x xs h out =
    let a = tfirsts-more size advance d t ts x xs h (λ j l. out j (omega (arith, l))) in
    let b = tpart-more (d * advance) size t ts x xs h in
    let c = ap (λ (b : Bool). tpart (d * advance) size ts xs ++ (if b then x ∷ [] else [])) (out d (omega arith)) ∙ append-nil _ in
    rw (a, b ∙ c) refl
