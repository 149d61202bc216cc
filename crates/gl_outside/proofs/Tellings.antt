-- The first text of a name.
use Rattle.std.proofs.Common.{◌≡◌, ℕ, ◌+◌, ◌<◌, ◌≤◌, List, length, get_or, drop, refl, ap, true, false, add-one, drop-cons}
use Rattle.std.specs.Str.{bytes_eq}
use Rattle.std.proofs.lemmas.List.{drop_all}
use Rattle.gl_outside.specs.Told.{Lacks, Holds}
use Rattle.gl_outside.specs.Held.{told_of}

-- the text at this place has another name
pub told_next : (texts : List (List ℕ × List ℕ)) (i : ℕ) (t : List ℕ × List ℕ) (name : List ℕ) → i < length texts → t ≡ get_or texts i t → bytes_eq t.0 name ≡ false → told_of (drop i texts) name ≡ told_of (drop (i + 1) texts) name
told_next texts i t name h e b = rw (add-one, drop-cons texts i t h, ← e, b) refl

-- the text at this place has the name
pub told_here : (texts : List (List ℕ × List ℕ)) (i : ℕ) (t : List ℕ × List ℕ) (name : List ℕ) → i < length texts → t ≡ get_or texts i t → bytes_eq t.0 name ≡ true → told_of (drop i texts) name ≡ Holds t.1
told_here texts i t name h e b = rw (drop-cons texts i t h, ← e, b) refl

pub told_end : (texts : List (List ℕ × List ℕ)) (i : ℕ) (name : List ℕ) → length texts ≤ i → told_of (drop i texts) name ≡ Lacks
told_end texts i name h = ap (λ (ts : List (List ℕ × List ℕ)). told_of ts name) (drop_all i texts h)

pub ruleset tellings = (told_next, told_here, told_end)
