-- What a wire gives over fixed beats. An induction over a plan goes by this: a block behind wires that serve is a wire
-- that serves.
use Rattle.std.specs.Prelude.{◌≡◌, ℕ, ◌≤◌, List, Some, Bool, true, false, ◌||◌}
use Rattle.gl_algebra.specs.declared.figures.Figures.{Figures}
use Rattle.gl_values.specs.Results.{Row, Results}
use Rattle.gl_algebra.specs.Results.{Inputs}
use Rattle.gl_algebra.specs.Values.{Sets}
use Rattle.gl_wire.specs.Beats.{Beats, Ends}
use Rattle.gl_wire.specs.Wire.{Carried, stream}
use Rattle.gl_wire.specs.Serves.{HasEnd, Fits, Meaning}
use Rattle.gl_wire.specs.Ticks.{cycles_at, ticks_at, times_at}
use Rattle.gl_wire.specs.Spills.{Lines, Relation, Relation2}

-- over these beats the wire fits its figures, and for a choice of spill each of its streams is a result of the beat and
-- the lines are true
pub record Serving (f : Figures) (means : ℕ → Results) (lines : Lines) (beats : Beats) (b : Carried) : Type 0 where
  pub fits : Fits f beats b
  pub spill : ℕ → Bool
  -- what ends for a beat is a result for it
  pub right : (t e : ℕ) → beats t ≡ Some true → HasEnd f b t e → means t (stream b e) (spill t)
  -- no queue is passed
  pub low : (c : ℕ) → lines.passed c ≡ false
  -- a spill is told by the line
  pub told : Ends beats → (t : ℕ) → beats t ≡ Some true → spill t ≡ true → (c : ℕ) × (lines.further c ≡ true)
  -- where the line tells of a spill there is one
  pub so : Ends beats → (c : ℕ) → lines.further c ≡ true → (t : ℕ) × (beats t ≡ Some true) × (spill t ≡ true)
  -- the line is not 1 after the last end
  pub late : Ends beats → (c : ℕ) → lines.further c ≡ true → (e : ℕ) × (c ≤ e) × (b.ends e ≡ true)

-- what the leaves give at a beat: the stream of each leaf's wire, and that of a body's input, each row at the cycle in
-- which it comes, with the times and ticks of a line beside them, and the words of the parameters
abbrev pub inputs_at : Sets → (ℕ → Bool) → (ℕ → Carried) → Carried → ℕ → Inputs
inputs_at sets tick streams body t =
    record {
      streams = λ k. stream (streams k) t;
      places = λ k. cycles_at (streams k) t;
      times = λ k. times_at tick (streams k) t;
      ticks = ticks_at tick body t;
      body = stream body t;
      body_places = cycles_at body t;
      sets = sets;
    }

-- what a block makes of results
abbrev pub through : Results → Meaning → Results
through of m ys p = (xs : List Row) × (of xs p) × (m xs ys)

-- what a block with lines makes of them: either may spill
abbrev pub through_lines : Results → Relation → Results
through_lines of m ys p = (xs : List Row) × (q : Bool) × (r : Bool) × (of xs q) × (m xs ys r) × (p ≡ (q || r))

-- what a block of two inputs makes of the results of both
abbrev pub through_both : Results → Results → Relation2 → Results
through_both left right m zs p =
    (xs : List Row) × (ys : List Row) × (q : Bool) × (r : Bool) × (s : Bool)
    × (left xs q) × (right ys r) × (m xs ys zs s) × (p ≡ ((q || r) || s))
