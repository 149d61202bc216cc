-- The answers of reading a whole text.
use Rattle.std.specs.Prelude.{ℕ, ◌<◌, length, Result, Ok, Err}
use Rattle.gl_outside.specs.Told.{Told, IsLacking, IfTold}
use Rattle.gl_outside.specs.declared.reading.ReadFault.{ReadFault}
use Rattle.gl_outside.specs.declared.reading.ReadFault.TheVariants.{Missing, Failed, TooLong, Memory}

-- what a refusal says of the text, where it is told: there is none, or it passes the limit
abbrev pub Refuses : {T : Type 0} → Told → Result T ReadFault → Type 0
Refuses told (Err Missing) = IsLacking told
Refuses told (Err TooLong) = IfTold told (λ text. 67108864 < length text)
Refuses told (Err Failed) = Unit {0}
Refuses told (Err Memory) = Unit {0}
Refuses told (Ok text) = Unit {0}

-- adding a piece is refused where the text then has too many bytes, or for want of memory
abbrev pub IsAdd : {T : Type 0} → ℕ → Result T ReadFault → Type 0
IsAdd size (Ok added) = Unit {0}
IsAdd size (Err TooLong) = 67108864 < size
IsAdd size (Err Memory) = Unit {0}
IsAdd size (Err Missing) = ⊥
IsAdd size (Err Failed) = ⊥
