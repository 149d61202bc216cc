-- Worked streams before a front of time windows, with the visits of its windows as they were worked out by hand.
use Rattle.std.specs.Prelude.{◌≡◌, ℕ, List, [], ◌∷◌, Option, Some, None}
use Rattle.gl_windows.specs.Worked.{wire_with, ends_in}
use Rattle.gl_values.specs.Times.{tslices}
use Rattle.gl_windows.specs.Taking.{visited, parts_before}
use Rattle.gl_windows.specs.TimeFront.{TimeMachine}

abbrev pub machine : ℕ → ℕ → ℕ → ℕ → List ℕ → List (Option ℕ) → List ℕ → TimeMachine
machine size advance count stride ticks tuples ends = record { size = size; advance = advance; count = count; stride = stride; tick = ends_in ticks; a = wire_with tuples ends }

-- ticks in cycles 2, 3 and 5; tuples 1 to 4 in cycles 1, 2, 4 and 5; the end with the last; then a stream of an end alone, and one whose
-- end comes with the tick that completes its first window
abbrev pub three_streams : TimeMachine
three_streams =
    machine 2 1 3 2 (2 ∷ 3 ∷ 5 ∷ 20 ∷ 22 ∷ []) (None ∷ Some 1 ∷ Some 2 ∷ None ∷ Some 3 ∷ Some 4 ∷ None ∷ None ∷ None ∷ None ∷ None ∷ None ∷ None ∷ None
    ∷ None ∷ None ∷ None ∷ None ∷ None ∷ None ∷ Some 7 ∷ None ∷ Some 8 ∷ []) (5 ∷ 12 ∷ 22 ∷ [])

pub record WorkedTimes : Type 0 where
  -- time 0: 1; time 1: 2; time 2: 3; time 3: 4. Windows 0 to 3; the second stream one window over nothing; the third 0 to 2
  pub visits : visited three_streams 30 ≡
      ((1 ∷ []) ∷ (2 ∷ []) ∷ []) ∷ ((2 ∷ []) ∷ (3 ∷ []) ∷ []) ∷ ((3 ∷ []) ∷ (4 ∷ []) ∷ []) ∷ ((4 ∷ []) ∷ [])
      ∷ []
      ∷ ((7 ∷ []) ∷ []) ∷ ((7 ∷ []) ∷ (8 ∷ []) ∷ []) ∷ ((8 ∷ []) ∷ [])
      ∷ []
  pub parts : parts_before three_streams 30 ≡ visited three_streams 30
  -- windows of 2 ticks, one from each third tick on: the tuple with time 2 is in none; the tick that ends window 1 comes behind it
  pub gaps : tslices {A = ℕ} 2 3 (0 ∷ 1 ∷ 2 ∷ 3 ∷ []) 4 (10 ∷ 11 ∷ 12 ∷ 13 ∷ []) ≡ (10 ∷ 11 ∷ []) ∷ (13 ∷ []) ∷ []
  -- no tick and no tuple: one window over nothing
  pub nothing : tslices {A = ℕ} 4 2 [] 0 [] ≡ [] ∷ []
  -- ticks alone: a window for each j with j * 2 ≤ 5
  pub ticks : tslices {A = ℕ} 4 2 [] 5 [] ≡ [] ∷ [] ∷ [] ∷ []
