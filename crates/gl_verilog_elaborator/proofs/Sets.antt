-- Names that are kept as sets, and those that are listed.
use Rattle.std.proofs.Common.{◌≡◌, ℕ, Bool, true, false, List, [], ◌∷◌, ◌++◌, refl, sym, ap, subst, ◌∙◌}
use Rattle.std.specs.Prelude.{◌&&◌, ◌||◌, not, fold, if◌then◌else◌}
use Rattle.std.specs.Str.{bytes_eq}
use Rattle.gl_bits.proofs.Bools.{bytes_same, or_none, or_join}
use Rattle.gl_verilog_faults.specs.Demands.{is_among}
use Rattle.gl_verilog_faults.proofs.Drivers.{among_join}
use Rattle.gl_verilog_elaborator.specs.Judged.{with_name}

pub not_or : (a b : Bool) → not (a || b) ≡ (not a && not b)
not_or true b = refl
not_or false b = refl

pub among_push : (n : List ℕ) (xs : List (List ℕ)) (m : List ℕ) → is_among n (xs ++ m ∷ []) ≡ (is_among n xs || bytes_eq n m)
among_push n xs m = among_join n xs (m ∷ []) ∙ ap (λ (b : Bool). is_among n xs || b) (or_none (bytes_eq n m))

-- a name that is there already
there : (n m : List ℕ) (xs : List (List ℕ)) (b : Bool) → bytes_eq n m ≡ b → is_among m xs ≡ true → is_among n xs ≡ (is_among n xs || b)
there n m xs true e h = let same : is_among n xs ≡ true = subst (λ (x : List ℕ). is_among x xs ≡ true) (sym (bytes_same n m e)) h in rw same refl
there n m xs false e h = sym (or_none (is_among n xs))

with_by : (n m : List ℕ) (xs : List (List ℕ)) (b : Bool) → is_among m xs ≡ b → is_among n (if b then xs else xs ++ m ∷ []) ≡ (is_among n xs || bytes_eq n m)
with_by n m xs true h = there n m xs (bytes_eq n m) refl h
with_by n m xs false h = among_push n xs m

pub among_with : (n : List ℕ) (xs : List (List ℕ)) (m : List ℕ) → is_among n (with_name xs m) ≡ (is_among n xs || bytes_eq n m)
among_with n xs m = with_by n m xs (is_among m xs) refl

pub among_all : (n : List ℕ) (ms xs : List (List ℕ)) → is_among n (fold with_name xs ms) ≡ (is_among n xs || is_among n ms)
among_all n [] xs = sym (or_none (is_among n xs))
among_all n (m ∷ ms) xs = among_all n ms (with_name xs m) ∙ ap (λ (b : Bool). b || is_among n ms) (among_with n xs m) ∙ or_join (is_among n xs) (bytes_eq n m) (is_among n ms)
