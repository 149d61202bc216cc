-- What is told of a run of the load: how many results it has, what they count, the last of them, and when its end is
-- seen.
use Rattle.std.specs.Prelude.{ℕ, List, [], ◌++◌, length, map, Option, Some, None, codes, decimal, slice_index}
use Rattle.std.specs.List.{fold, sum}
use Rattle.gl_values.specs.declared.kind.Kind.{Kind}
use Rattle.gl_schema.specs.Seen.{Shown, rows_of, values_text}

-- how many tuples a result counts stands in its first column
abbrev pub count_in : List ℕ → ℕ
count_in row = slice_index row 0

-- the line of the result that a cycle shows, without its line feed; where it shows none, the line before
abbrev pub later_line : List Kind → List ℕ → ℕ → Option (List ℕ) → List ℕ
later_line kinds before cycle None = before
later_line kinds before cycle (Some row) = decimal cycle ++ values_text kinds row

-- the line of the last result of all that is seen; nothing where there is none
abbrev pub last_line : List Kind → List Shown → List ℕ
last_line kinds all = fold (λ before s. later_line kinds before s.cycle s.row) [] all

-- a line that begins with its head
abbrev pub line : List ℕ → List ℕ → List ℕ
line head rest = head ++ rest ++ codes "\n"

-- the five lines
unfoldable pub five_lines : ℕ → ℕ → ℕ → List ℕ → List ℕ → List ℕ
five_lines tuples results counted last end =
    line (codes "tuples ") (decimal tuples)
    ++ line (codes "results ") (decimal results)
    ++ line (codes "counted ") (decimal counted)
    ++ line (codes "last ") last
    ++ line (codes "end ") end

-- of n tuples, of all that is seen, and of the cycle of its end
abbrev pub summary_of : ℕ → List Kind → List Shown → ℕ → List ℕ
summary_of n kinds all ended =
    five_lines n (length (rows_of all)) (sum (map count_in (rows_of all))) (last_line kinds all) (decimal ended)
