-- What a select of frames with PARTITION makes of a result, and of how many keys it keeps rows.
use Rattle.std.specs.Prelude.{ℕ, ◌≡◌, Bool, ◌||◌, List}
use Rattle.gl_values.specs.Results.{Row, Results}

-- keys of which a select of frames with PARTITION keeps rows: GROUPS
abbrev pub most_slots : ℕ
most_slots = 4096

-- what a change makes of a result, where rows of further keys may be left out
pub record IsChangedInPart (Source : Results) (change : List Row → List Row) (further : List Row → Bool)
    (out : List Row) (spill : Bool) : Type 0 where
  pub rows : List Row
  pub source_spill : Bool
  pub of_source : Source rows source_spill
  pub changed : out ≡ change rows
  pub any : spill ≡ (source_spill || further rows)
