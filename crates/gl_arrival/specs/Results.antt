-- Results whose rows have places, and how they are made of each other: those of the queries each of whose rows comes of
-- one row that came.
use Rattle.std.specs.Prelude.{◌≡◌, Bool, false, ◌||◌, List}
use Rattle.gl_values.specs.Results.{Row}
use Rattle.gl_arrival.specs.Places.{Placed, rows_of}
use Rattle.gl_arrival.specs.Arrival.{by_arrival}

-- a set of results: rows at places, and whether rows of further keys were left out
abbrev pub Arrivals : Type 1
Arrivals = List (Placed Row) → Bool → Type 0

-- rows that come in, none of which was left out
pub record IsArrival (given out : List (Placed Row)) (spill : Bool) : Type 0 where
  pub rows : out ≡ given
  pub kept : spill ≡ false

-- what a change makes of a result
pub record IsChangedInPlace (Source : Arrivals) (change : List (Placed Row) → List (Placed Row))
    (out : List (Placed Row)) (spill : Bool) : Type 0 where
  pub rows : List (Placed Row)
  pub of_source : Source rows spill
  pub changed : out ≡ change rows

-- what a change makes of a result, where rows of further keys may be left out
pub record IsPartedInPlace (Source : Arrivals) (change : List (Placed Row) → List (Placed Row))
    (further : List Row → Bool) (out : List (Placed Row)) (spill : Bool) : Type 0 where
  pub rows : List (Placed Row)
  pub source_spill : Bool
  pub of_source : Source rows source_spill
  pub changed : out ≡ change rows
  pub any : spill ≡ (source_spill || further (rows_of rows))

-- UNION BY ARRIVAL: the rows of both results in the order in which they came
pub record IsByArrival (Left Right : Arrivals) (out : List (Placed Row)) (spill : Bool) : Type 0 where
  pub left : List (Placed Row)
  pub right : List (Placed Row)
  pub left_spill : Bool
  pub right_spill : Bool
  pub of_left : Left left left_spill
  pub of_right : Right right right_spill
  pub in_order : out ≡ by_arrival left right
  pub either : spill ≡ (left_spill || right_spill)

-- a result without its places
pub record IsWithoutPlaces (Source : Arrivals) (out : List Row) (spill : Bool) : Type 0 where
  pub rows : List (Placed Row)
  pub of_source : Source rows spill
  pub without : out ≡ rows_of rows

-- a set of results has one at most
abbrev pub HasOneArrival : Arrivals → Type 0
HasOneArrival Source =
    (out out' : List (Placed Row)) (spill spill' : Bool) → Source out spill → Source out' spill'
    → (out ≡ out') × (spill ≡ spill')
