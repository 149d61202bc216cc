-- What the windows of a front of time take, and what they are to take.
use Rattle.std.specs.Prelude.{ℕ, zero, suc, List, [], ◌∷◌, ◌++◌, if◌then◌else◌, option_to_list}
use Rattle.gl_values.specs.Results.{Row}
use Rattle.gl_values.specs.Times.{tslices}
use Rattle.gl_wire.specs.Wire.{stream}
use Rattle.gl_wire.specs.Ticks.{ticks_at, times_at}
use Rattle.gl_windows.specs.TimeFront.{TimeMachine, closes_at, states, taken}

-- what a window has taken before a cycle
abbrev pub content : TimeMachine → ℕ → ℕ → List Row
content m zero w = []
content m (suc c) w =
    content m c w ++ option_to_list (taken (m.tick c) (m.a.ends c) (m.a.tuple c) (states m c) w)

-- what the windows took that ended before a cycle, in order
abbrev pub visited : TimeMachine → ℕ → List (List Row)
visited m zero = []
visited m (suc c) =
    visited m c ++ (if closes_at m c then content m (suc c) (states m c).closed ∷ [] else [])

-- the windows of all streams that ended before a cycle
abbrev pub parts_before : TimeMachine → ℕ → List (List Row)
parts_before m zero = []
parts_before m (suc c) =
    parts_before m c
    ++ (if m.a.ends c then tslices m.size m.advance (times_at m.tick m.a c) (ticks_at m.tick m.a c) (stream m.a c) else [])
