-- The figures of two sides that take turns, as the table of figures has them, and those of queries that read streams.
use Rattle.std.specs.Prelude.{ℕ, ◌+◌, ◌-◌}
use Rattle.gl_algebra.specs.declared.figures.Figures.{Figures}
pub use Rattle.gl_algebra.specs.FigureTable.{in_turn, left_wait, right_wait, turn_figures, waits}
pub use Rattle.gl_algebra.specs.Weights.{weight_of_turns}

-- the figures of a query that reads so many streams: each has a cycle of its own behind each beat
abbrev pub stream_figures : ℕ → ℕ → Figures
stream_figures a n = record { a = a; lt = a + n - 1; le = a + n - 1; nt = n; ne = n; gt = n; ge = n }
