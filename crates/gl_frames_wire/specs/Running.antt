-- Wires that give for each row what is made of its stream up to it.
use Rattle.std.specs.Prelude.{◌≡◌, ℕ, List, [], Option, option_and_then}
use Rattle.gl_values.specs.Results.{Row}
use Rattle.gl_frames.specs.Frames.{each_of}
use Rattle.gl_wire.specs.Serves.{Meaning}
use Rattle.gl_wire.specs.Shapes.{IsDelayed}
use Rattle.gl_wire.specs.Wire.{Carried, stream}

-- for each tuple what is made of the stream so far, or nothing
abbrev pub running : (List Row → Option Row) → Carried → Carried
running f a = record { tuple = λ c. option_and_then (λ row. f (stream a c)) (a.tuple c); ends = a.ends }

-- the same, m cycles later
abbrev pub Runs : ℕ → (List Row → Option Row) → Carried → Carried → Type 0
Runs m f a b = IsDelayed m (running f a) b

-- for each row what is made of the rows up to it, or nothing
abbrev pub Each : (List Row → Option Row) → Meaning
Each f xs ys = ys ≡ each_of f [] xs
