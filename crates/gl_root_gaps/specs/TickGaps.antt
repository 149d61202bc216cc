-- Windows of time whose ticks are farther apart than tuples: a window is told while tuples of the next one come. Their
-- gaps, over one stream.
use Rattle.std.specs.Prelude.{ℕ, ◌-◌, ◌%◌, max, nat_lt, Option, Some, None, if◌then◌else◌}
use Rattle.std.specs.Int.{div_ceil}
use Rattle.gl_algebra.specs.declared.figures.Figures.{Figures}
use Rattle.gl_root_gaps.specs.declared.TickGaps.{TickGaps}
use Rattle.gl_algebra.specs.FigureTable.{stride_of}

-- the ticks from one that ends a window to the next one that does, or to the end where a window is open then, at least
abbrev pub ticks_to_end : ℕ → ℕ → ℕ
ticks_to_end size advance = max (advance - size) 1

-- the ticks from one that ends a window to the one with which its copy takes the next
abbrev pub ticks_to_next : ℕ → ℕ → ℕ
ticks_to_next size advance = max (advance - size % advance) 1

-- the cycles from a tick to the next: the body takes both, two windows that end one after another are told one after
-- another, and a copy is ready again when its next window begins
abbrev pub tick_gap : ℕ → ℕ → Figures → ℕ
tick_gap size advance s =
    max (max s.gt (div_ceil (stride_of s) (ticks_to_end size advance))) (div_ceil s.ge (ticks_to_next size advance))

-- the gaps of windows of `size` ticks, one from each `advance`-th tick on, where tuples can come closer than where a
-- tick is a beat like any other
abbrev pub tick_gaps_of : ℕ → ℕ → Figures → Option TickGaps
tick_gaps_of size advance s =
    if nat_lt s.gt s.ge then Some (record { gap = s.gt; ticks = tick_gap size advance s }) else None
