-- Two shapes of blocks that serve: a row for a row, and one row at each end.
use Rattle.std.specs.Prelude.{◌≡◌, ℕ, ◌+◌, ◌<◌, List, [], ◌∷◌, Option, Some, None, false, if◌then◌else◌, option_and_then, filter_map, nat_eq, slice_index}
use Rattle.gl_values.specs.Results.{Row}
use Rattle.gl_wire.specs.Wire.{Carried, stream}
use Rattle.gl_wire.specs.Serves.{Meaning}

-- one wire carries what another carried m cycles before, and nothing earlier
pub record IsDelayed (m : ℕ) (a b : Carried) : Type 0 where
  pub before : (c : ℕ) → c < m → b.tuple c ≡ None
  pub no_end : (c : ℕ) → c < m → b.ends c ≡ false
  pub tuples : (c : ℕ) → b.tuple (c + m) ≡ a.tuple c
  pub ends : (c : ℕ) → b.ends (c + m) ≡ a.ends c

-- each tuple computed or dropped by a step
abbrev pub stepped : (Row → Option Row) → Carried → Carried
stepped step a = record { tuple = λ c. option_and_then step (a.tuple c); ends = a.ends }

-- at each end the one row of the stream that ended
abbrev pub totalled : (List Row → Row) → Carried → Carried
totalled total a = record { tuple = λ c. if a.ends c then Some (total (stream a c)) else None; ends = a.ends }

-- m cycles later, each tuple computed or dropped, and each end
abbrev pub Steady : ℕ → (Row → Option Row) → Carried → Carried → Type 0
Steady m step a b = IsDelayed m (stepped step a) b

-- m cycles after each end, the one row of the stream that ended, and the end
abbrev pub AtEnds : ℕ → (List Row → Row) → Carried → Carried → Type 0
AtEnds m total a b = IsDelayed m (totalled total a) b

-- the rows in order, each computed or dropped
abbrev pub Mapped : (Row → Option Row) → Meaning
Mapped step xs ys = ys ≡ filter_map step xs

-- the rows that leave are those that come in
abbrev pub Same : Meaning
Same xs ys = ys ≡ xs

-- one row of the whole stream
abbrev pub Totalled : (List Row → Row) → Meaning
Totalled total xs ys = ys ≡ total xs ∷ []

-- the row where its column is 1
abbrev pub keep_where : ℕ → Row → Option Row
keep_where k r = if nat_eq (slice_index r k) 1 then Some r else None
