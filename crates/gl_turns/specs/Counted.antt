-- What turns cost is within what a plan is to count for them, and the figures of queries that read streams.
use Rattle.std.specs.Prelude.{◌≡◌, ℕ, ◌+◌, ◌≤◌, List, length}
use Rattle.gl_algebra.specs.declared.figures.Figures.{Figures}
use Rattle.gl_wire.specs.Counted.{AreNarrow, IsCounted}
use Rattle.gl_turns.specs.Blocks.{cost_of_turns}
use Rattle.gl_turns.specs.TurnFigures.{left_wait, stream_figures, turn_figures, weight_of_turns}

-- turns cost no more than their weight, over columns of at most 64 bits; their registers are counted lean by the same
-- number, and they have no memory
abbrev pub TurnsAreCounted : Type 0
TurnsAreCounted =
    (p q : Figures) (columns : List ℕ) → AreNarrow columns
    → IsCounted (cost_of_turns p q columns) (weight_of_turns p q (length columns + 2))
    (weight_of_turns p q (length columns + 2)) 0

-- the gap of turns over streams is the number of streams, however they are nested
abbrev pub TurnsOfStreams : Type 0
TurnsOfStreams =
    (a b m n : ℕ) → 1 ≤ m → 1 ≤ n
    → turn_figures (stream_figures a m) (stream_figures b n)
    ≡ stream_figures (a + left_wait (stream_figures a m) (stream_figures b n) + 1) (m + n)
