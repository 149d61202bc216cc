-- Windows over tuples and over time: how many can be open at once, which parts of a list they are, and whether a query
-- has one of time.
use Rattle.std.specs.Prelude.{ℕ, ◌+◌, ◌/◌, Bool, true, false, ◌||◌, List, IsFalse}
use Rattle.std.specs.Int.{div_ceil}
use Rattle.gl_values.specs.Lists.{slices}
use Rattle.gl_values.specs.Results.{Row}
use Rattle.gl_values.specs.Times.{tslices}
use Rattle.gl_query.specs.declared.tree.Measure.{Measure}
use Rattle.gl_query.specs.declared.tree.Measure.TheVariants.{Tuples, Time}
use Rattle.gl_query.specs.Shapes.{QueryShape}
use Rattle.gl_query.specs.Shapes as shape

-- a window is measured in ticks of time and not in tuples
abbrev pub is_time : Measure → Bool
is_time Tuples = false
is_time Time = true

-- the windows that can be open at once: the size by the advance, rounded up; in time the quotient and one, since the
-- window that a tick opens stands beside all that hold the time before it
abbrev pub copies_of : Measure → ℕ → ℕ → ℕ
copies_of Tuples size advance = div_ceil size advance
copies_of Time size advance = size / advance + 1

-- the windows of rows that have these times, where so many ticks come in all
abbrev pub parts_of : Measure → ℕ → ℕ → List ℕ → ℕ → List Row → List (List Row)
parts_of Tuples size advance times ticks rows = slices size advance rows
parts_of Time size advance times ticks rows = tslices size advance times ticks rows

-- whether a window of time stands in a query
abbrev pub has_time : QueryShape → Bool
has_time (shape.Read name) = false
has_time (shape.Rows pick filter source) = has_time source
has_time (shape.Total aggs source) = has_time source
has_time (shape.Frames items filter slots source) = has_time source
has_time (shape.Each measure var source size advance body) = is_time measure || has_time source || has_time body
has_time (shape.PerGroup var source key groups body) = has_time source || has_time body
has_time (shape.Partition var source key groups size advance body) = has_time source || has_time body
has_time (shape.Union l r) = has_time l || has_time r
has_time (shape.ByArrival l r) = has_time l || has_time r
has_time (shape.AsOf l r slots) = has_time l || has_time r
has_time (shape.Concat l r) = has_time l || has_time r

-- no window of time stands in a query
abbrev pub HasNoTime : QueryShape → Type 0
HasNoTime q = IsFalse (has_time q)
