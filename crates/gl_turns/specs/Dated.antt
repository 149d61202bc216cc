-- Wires that give results with places: each row is brought by the beat that its place turns into.
use Rattle.std.specs.Prelude.{◌≡◌, ℕ, List, Some, Bool, true}
use Rattle.gl_algebra.specs.declared.figures.Figures.{Figures}
use Rattle.gl_values.specs.Results.{Row}
use Rattle.gl_wire.specs.Beats.{Beats}
use Rattle.gl_wire.specs.Serves.{HasEnd}
use Rattle.gl_wire.specs.Wire.{Carried}
use Rattle.gl_arrival.specs.Changes.{moved}
pub use Rattle.gl_arrival.specs.Laws.{Rises}
use Rattle.gl_arrival.specs.Places.{Placed}
use Rattle.gl_arrival.specs.Results.{Arrivals}
use Rattle.gl_turns.specs.Dates.{stream_at_beats}

-- these rows are a result, each brought by the beat that its place turns into
pub record IsDated (Of : Arrivals) (g : ℕ → ℕ) (spill : Bool) (given : List (Placed Row)) : Type 0 where
  pub rows : List (Placed Row)
  pub is : Of rows spill
  pub same : given ≡ moved g rows

-- over these beats, what ends for a beat is such a result of it
abbrev pub Dated : Figures → (ℕ → Arrivals) → (ℕ → ℕ → ℕ) → (ℕ → Bool) → Beats → Carried → Type 0
Dated f means g spill beats s =
    (t e : ℕ) → beats t ≡ Some true → HasEnd f s t e
    → IsDated (means t) (g t) (spill t) (stream_at_beats f.a beats s e)
