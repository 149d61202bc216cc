-- Beats that more are added to, and which rows have their columns.
use Rattle.std.specs.Prelude.{◌≡◌, ℕ, ◌≤◌, List, [], ◌∷◌, ◌++◌, map, Option, IfSome}
use Rattle.std.specs.List.{AllByRecursion}
use Rattle.gl_values.specs.Kinds.{width_of}
use Rattle.gl_bits.specs.Words.{Word, widths_of}
use Rattle.gl_schema.specs.declared.schema.Schema.{Schema}
use Rattle.gl_schema.specs.declared.schema.Stream.{Stream}
use Rattle.gl_tuples.specs.declared.beats.Beat.{Beat}

-- the bits of each column of a stream
abbrev pub columns_of : Stream → List ℕ
columns_of s = map (λ c. width_of c.kind) s.columns

-- the bits of each column of each stream of a schema
abbrev pub shape_of : Schema → List (List ℕ)
shape_of schema = map columns_of schema.streams

-- the beats so far, and the bits of the columns of each stream
pub record Grown : Type 0 where
  pub columns : List (List ℕ)
  pub beats : List Beat

-- none yet
abbrev pub no_beats : Schema → Grown
no_beats schema = record { columns = shape_of schema; beats = [] }

-- one more
abbrev pub grown_by : Grown → Beat → Grown
grown_by g beat = record { columns = g.columns; beats = g.beats ++ beat ∷ [] }

-- there is an entry for each stream, and each row has the columns of its stream
abbrev pub Fit : List (List ℕ) → List (Option (List Word)) → Type 0
Fit [] [] = Unit {0}
Fit [] (r ∷ rs) = ⊥
Fit (s ∷ ss) [] = ⊥
Fit (s ∷ ss) (r ∷ rs) = IfSome r (λ words. widths_of words ≡ s) × Fit ss rs

-- 64 bits hold each column
abbrev pub IsNarrow : ℕ → Type 0
IsNarrow width = width ≤ 64

-- every column has few enough bits for a word
abbrev pub AreNarrow : List (List ℕ) → Type 0
AreNarrow shape = AllByRecursion (AllByRecursion IsNarrow) shape
