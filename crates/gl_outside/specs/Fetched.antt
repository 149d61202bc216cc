-- The answers of a fetch.
use Rattle.std.specs.Prelude.{◌≡◌, ℕ, ◌+◌, ◌≤◌, List, length, take, slice_range}
use Rattle.gl_outside.specs.Told.{Told, IsLacking, IfTold}
use Rattle.gl_outside.specs.declared.shelf.Fetch.{Fetch}
use Rattle.gl_outside.specs.declared.shelf.Fetch.TheVariants.{Got, End, Missing, Failed, Memory}

-- so many bytes were got, at least one and at most as many as there is room for
abbrev pub FitsRoom : ℕ → Fetch → Type 0
FitsRoom room (Got n) = (1 ≤ n) × (n ≤ room)
FitsRoom room End = Unit {0}
FitsRoom room Missing = Unit {0}
FitsRoom room Failed = Unit {0}
FitsRoom room Memory = Unit {0}

-- what the answer says of the text, where it is told: these bytes stand in it from a place on, it has none there, or
-- there is no text
abbrev pub Says : Told → ℕ → List ℕ → Fetch → Type 0
Says told at into (Got n) = IfTold told (λ text. take n into ≡ slice_range text at (at + n))
Says told at into End = IfTold told (λ text. length text ≤ at)
Says told at into Missing = IsLacking told
Says told at into Failed = Unit {0}
Says told at into Memory = Unit {0}
