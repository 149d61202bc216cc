-- What a shelf tells of its texts.
use Rattle.std.specs.Prelude.{ℕ, List}

-- what is told of a name: nothing, that no text has it, or the text that has it
pub data Told : Type 0 where
  Untold : Told
  Lacks : Told
  Holds : (text : List ℕ) → Told

-- no text has the name, where this is told
abbrev pub IsLacking : Told → Type 0
IsLacking Untold = Unit {0}
IsLacking Lacks = Unit {0}
IsLacking (Holds text) = ⊥

-- some text has the name, and the fact holds of it, where this is told
abbrev pub IfTold : Told → (List ℕ → Type 0) → Type 0
IfTold Untold P = Unit {0}
IfTold Lacks P = ⊥
IfTold (Holds text) P = P text
