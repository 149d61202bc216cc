-- What a query may read, as the code is given it, and what it is answered.
-- A middle layer, proved equal to gl_query (`Results`): no promise rests on it.
use Rattle.std.specs.Prelude.{ℕ, List, [], map, Option, None, Some, length, slice_get, unwrap_or}
use Rattle.std.specs.List.{range_with_len}
use Rattle.gl_values.specs.Results.{Row}
use Rattle.gl_schema.specs.Beats.{Inputs}
use Rattle.gl_schema.specs.declared.schema.Column.{Column}
use Rattle.gl_query.specs.declared.tree.Query.{Query}
use Rattle.gl_query.specs.Shapes.{QueryShape, query_shape}
use Rattle.gl_query.specs.Results.{ArrivesIn, Env, IsResultIn, Source, columns_in}
use Rattle.gl_arrival.specs.Places.{Placed, at_place}
use Rattle.gl_reference.specs.declared.answers.Answer.{Answer}
use Rattle.gl_reference.specs.declared.arrivals.Arrived.{Arrived}
use Rattle.gl_reference.specs.declared.placed.PlacedRow.{PlacedRow}
use Rattle.gl_reference.specs.declared.columns.Clock.{Clock}
use Rattle.gl_reference.specs.declared.columns.Source.{Source as Given}

-- what a clock shows; without one no row has a time
abbrev pub times_on : Option Clock → List ℕ
times_on None = []
times_on (Some clock) = clock.times.now

-- the places of rows; without a clock each is at its position
abbrev pub places_on : Option Clock → List Row → List ℕ
places_on None rows = range_with_len 0 (length rows)
places_on (Some clock) rows = clock.places.now

-- how many ticks a clock has counted; 0 where there is no clock
abbrev pub ticks_on : Option Clock → ℕ
ticks_on None = 0
ticks_on (Some clock) = clock.ticks

-- the environment of a list of sources
abbrev pub source_of : Given → Source
source_of s = record {
  stream = record { name = s.name.now; columns = s.columns.now };
  rows = s.rows.now;
  places = places_on s.clock s.rows.now;
  times = times_on s.clock;
  ticks = ticks_on s.clock;
}

-- what a query may read, from the sources that the code is given
abbrev pub env_view : List Given → Env
env_view sources = map source_of sources

-- the inputs that are given: rows with their places and times for each stream, all ticks, and the words of the parameters
abbrev pub given_inputs : List (List Row) → List (List ℕ) → List (List ℕ) → ℕ → Row → Inputs
given_inputs tables places times ticks words = record {
  rows = λ k. unwrap_or (slice_get tables k) [];
  places = λ k. unwrap_or (slice_get places k) [];
  times = λ k. unwrap_or (slice_get times k) [];
  ticks = ticks;
  sets = words;
}

-- the columns of a query over sources
abbrev pub columns_over : List Given → Query → List Column
columns_over sources q = columns_in (env_view sources) (query_shape q)

-- a row and its place, as the code has them
abbrev pub placed_of : PlacedRow → Placed Row
placed_of r = at_place r.row r.place

-- an answer with places is a result with places of a query over sources
abbrev pub HasArrived : List Given → QueryShape → Arrived → Type 0
HasArrived sources q a = ArrivesIn q (env_view sources) (map placed_of a.rows) a.spill

-- an answer is a result of a query over sources
abbrev pub IsAnswer : List Given → QueryShape → Answer → Type 0
IsAnswer sources q a = IsResultIn q (env_view sources) a.rows a.spill
