-- A run is right: its rows are a result of what came in, and it ends in time.
use Rattle.std.specs.Prelude.{◌≡◌, ℕ, ◌+◌, ◌<◌, ◌≤◌, Bool, List, [], ◌∷◌, Option, Some, None, IsSome, IsTrue, IsFalse, filter_map, if◌then◌else◌}
use Rattle.std.specs.List.{AllByRecursion}
use Rattle.gl_schema.specs.Beats.{Beats, Inputs, last_cycle, inputs_of}
use Rattle.gl_schema.specs.Ports.{PortValues}
use Rattle.gl_schema.specs.Seen.{Shown, shown, seen, rows_of}

-- what a query means: its inputs, the rows of a result, and whether a further group was left out
abbrev pub Meaning : Type 1
Meaning = Inputs → List (List ℕ) → Bool → Type 0

-- a meaning that a test tells
abbrev pub IsTold : (Inputs → List (List ℕ) → Bool → Bool) → Meaning
IsTold test inputs rows spill = IsTrue (test inputs rows spill)

-- in file cycles: the end is seen once, in the latency after the last beat, no row is later, no queue overflows, and
-- the rows with the group line at the end are a result of what the beats bring
pub record IsRight (means : Meaning) (latency : ℕ) (beats : Beats) (outs : List (List ℕ)) (port : PortValues)
    : Type 0 where
  pub ended : ℕ
  pub soonest : last_cycle beats ≤ ended
  pub in_time : ended ≤ last_cycle beats + latency
  pub ends : IsTrue (shown port outs ended).end
  pub once : (n : ℕ) → IsTrue (shown port outs n).end → n ≡ ended
  pub none_later : (n : ℕ) → ended < n → (shown port outs n).row ≡ None
  pub no_overflow : (n : ℕ) → IsFalse (shown port outs n).queue
  pub meets : means (inputs_of beats) (rows_of (seen port outs ended)) (shown port outs ended).group

-- the cycle of an end
abbrev pub end_in : Shown → Option ℕ
end_in s = if s.end then Some s.cycle else None

-- the same, told of the file cycles 0 to n: the end is seen in one of them, and so on
pub record IsRightTo (means : Meaning) (latency : ℕ) (beats : Beats) (outs : List (List ℕ)) (port : PortValues)
    (n : ℕ) : Type 0 where
  pub ended : ℕ
  pub soonest : last_cycle beats ≤ ended
  pub in_time : ended ≤ last_cycle beats + latency
  pub ends : filter_map end_in (seen port outs n) ≡ ended ∷ []
  pub none_later : AllByRecursion (λ s. IsSome s.row → s.cycle ≤ ended) (seen port outs n)
  pub no_overflow : AllByRecursion (λ s. IsFalse s.queue) (seen port outs n)
  pub meets : means (inputs_of beats) (rows_of (seen port outs n)) (shown port outs ended).group
