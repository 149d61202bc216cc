-- What a cycle shows, and the pieces of its lines, with a name or without.
-- A middle layer, proved equal to `Seen`: no promise rests on it.
use Rattle.std.specs.Prelude.{ℕ, Bool, false, not, ◌&&◌, List, [], ◌∷◌, ◌++◌, Option, Some, None, codes, decimal, option_map, if◌then◌else◌}
use Rattle.gl_values.specs.declared.kind.Kind.{Kind}
use Rattle.gl_schema.specs.Seen.{Shown, values_text}
use Rattle.gl_tuples.specs.declared.lines.Format.{Format}
use Rattle.gl_tuples.specs.declared.lines.Sample.{Sample}

-- a cycle that shows this, with this row on the columns
abbrev pub sampled : Sample → ℕ → List ℕ → Shown
sampled s n row =
    record { cycle = n; row = if s.valid then Some row else None; end = s.end; group = s.group; queue = false }

-- the name of a result that stands beside others
abbrev pub name_in : Format → Option (List ℕ)
name_in f = option_map (λ n. n.now) f.name

-- what stands behind the cycle's number: nothing, or a comma and the name
abbrev pub named : Option (List ℕ) → List ℕ
named None = []
named (Some name) = 44 ∷ name

-- a line: the cycle, the name, and what is told
abbrev pub line_with : Option (List ℕ) → ℕ → List ℕ → List ℕ
line_with name cycle told = decimal cycle ++ (named name ++ told)

-- a line where it is due
abbrev pub line_if : Bool → Option (List ℕ) → ℕ → List ℕ → List ℕ
line_if due name cycle told = if due then line_with name cycle told else []

-- what is told of a row: its values
abbrev pub told_of : List Kind → List ℕ → List ℕ
told_of kinds row = values_text kinds row ++ 10 ∷ []

-- the line of a row, if there is one
abbrev pub row_with : Option (List ℕ) → List Kind → ℕ → Option (List ℕ) → List ℕ
row_with name kinds cycle None = []
row_with name kinds cycle (Some row) = line_with name cycle (told_of kinds row)

-- the lines of a cycle: overflow where it is told for the first time, then the row, then the end
abbrev pub lines_with : Option (List ℕ) → List Kind → Bool → Shown → List ℕ
lines_with name kinds told s =
    line_if (s.group && not told) name s.cycle (codes ",overflow\n")
    ++ (row_with name kinds s.cycle s.row ++ line_if s.end name s.cycle (codes ",end\n"))
