-- What is given where a front of windows of time is reasoned about: enough copies, and quiet behind an end.
use Rattle.std.specs.Prelude.{◌≡◌, ℕ, ◌+◌, ◌*◌, ◌<◌, ◌≤◌, List, true}
use Rattle.gl_wire.specs.Ticks as ticks
use Rattle.gl_windows.specs.Ticks.{by_ticks}
use Rattle.gl_windows.specs.TimeFront.{TimeMachine, turns_in}

-- the ticks and times since the end before, of what comes at a machine
abbrev pub ticks_before : TimeMachine → ℕ → ℕ
ticks_before m c = ticks.ticks_before m.tick m.a c

abbrev pub ticks_at : TimeMachine → ℕ → ℕ
ticks_at m c = ticks.ticks_at m.tick m.a c

abbrev pub times_before : TimeMachine → ℕ → List ℕ
times_before m c = ticks.times_before m.tick m.a c

abbrev pub times_at : TimeMachine → ℕ → List ℕ
times_at m c = ticks.times_at m.tick m.a c

-- copies for all windows that can be open at once, and nothing from an end to the cycle behind the opening of the next stream's window
pub record IsTimed (m : TimeMachine) : Type 0 where
  pub rows_some : 1 ≤ m.size
  pub step_some : 1 ≤ m.advance
  pub stride_some : 1 ≤ m.stride
  pub copies_some : 1 ≤ m.count
  pub cover : m.size < m.count * m.advance
  pub rested : (u d : ℕ) → m.a.ends u ≡ true → (by_ticks m.tick m.a).comes d → u < d → u + (turns_in m + 2) ≤ d
