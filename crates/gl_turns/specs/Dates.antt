-- The beats that bring the rows of a wire: a wire carries what a beat brings in the interval of that beat, so the cycle
-- of a row tells its beat.
use Rattle.std.specs.Prelude.{ℕ, zero, suc, ◌-◌, List, [], ◌++◌, is_some, map, option_to_list, if◌then◌else◌}
use Rattle.gl_values.specs.Results.{Row}
use Rattle.gl_wire.specs.Beats.{Beats}
pub use Rattle.gl_wire.specs.Ticks.{cycles_at, cycles_before}
use Rattle.gl_wire.specs.Wire.{Carried}
use Rattle.gl_arrival.specs.Places.{Placed, at_place}

-- the last beat up to this cycle, and 0 where there is none
abbrev pub last_beat : Beats → ℕ → ℕ
last_beat beats zero = 0
last_beat beats (suc c) = if is_some (beats (suc c)) then suc c else last_beat beats c

-- the beat that brings what comes in a cycle, where intervals begin so many cycles behind their beats: the last one
-- whose interval has begun by then
abbrev pub beat_of : ℕ → Beats → ℕ → ℕ
beat_of first beats c = last_beat beats (c - first)

-- the row of a cycle, where there is one, at its beat
abbrev pub row_at_beat : ℕ → Beats → Carried → ℕ → List (Placed Row)
row_at_beat first beats s c = map (λ (r : Row). at_place r (beat_of first beats c)) (option_to_list (s.tuple c))

-- the rows since the last end before this cycle, each at its beat
abbrev pub pending_at_beats : ℕ → Beats → Carried → ℕ → List (Placed Row)
pending_at_beats first beats s zero = []
pending_at_beats first beats s (suc c) =
    if s.ends c then [] else pending_at_beats first beats s c ++ row_at_beat first beats s c

-- the same with the cycle's own row: the stream, where this cycle has the end
abbrev pub stream_at_beats : ℕ → Beats → Carried → ℕ → List (Placed Row)
stream_at_beats first beats s c = pending_at_beats first beats s c ++ row_at_beat first beats s c
