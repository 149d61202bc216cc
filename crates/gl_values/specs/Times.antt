-- Windows of time over a list whose elements have times, generic in the elements.
use Rattle.std.specs.Prelude.{ℕ, zero, suc, ◌+◌, ◌*◌, ◌/◌, ◌&&◌, List, [], ◌∷◌, ◌++◌, nat_le, nat_lt, if◌then◌else◌}

-- the elements whose time is from a number on, within so many
abbrev pub tpart : {A : Type 0} → ℕ → ℕ → List ℕ → List A → List A
tpart from size [] xs = []
tpart from size (t ∷ ts) [] = []
tpart from size (t ∷ ts) (x ∷ xs) =
    if nat_le from t && nat_lt t (from + size) then x ∷ tpart from size ts xs else tpart from size ts xs

-- the first n windows: window j is from time j * advance on
abbrev pub tfirsts : {A : Type 0} → ℕ → ℕ → ℕ → List ℕ → List A → List (List A)
tfirsts size advance zero times xs = []
tfirsts size advance (suc n) times xs =
    tfirsts size advance n times xs ++ tpart (n * advance) size times xs ∷ []

-- all windows: one for each j with j * advance at most the ticks; the first is there even over nothing
abbrev pub tslices : {A : Type 0} → ℕ → ℕ → List ℕ → ℕ → List A → List (List A)
tslices size advance times ticks xs = tfirsts size advance (suc (ticks / advance)) times xs
