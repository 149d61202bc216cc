-- What holds of every order of events in a valid module.
use Rattle.std.specs.Prelude.{◌≡◌, ℕ, suc, List, Some, slice_get, unwrap_or}
use Rattle.gl_verilog.specs.Module.{Module, Declaration, Nets, Memories, assigned_by, written_by}
use Rattle.gl_verilog.specs.Run.{Fit, IsRun, IsRegister, IsSettled}
use Rattle.gl_verilog.specs.Runnable.{FitInputs, HasInputs, SameState, SameInputs, SameNets}
use Rattle.gl_verilog.specs.Events.{State, Step, Schedule, IsAtRest, IsCycle, IsStart, StandsBefore, IsEventRun}

-- from a state steps lead to rest
pub record Rests (m : Module) (s : State) : Type 0 where
  pub last : State
  pub steps : Schedule m s last
  pub rest : IsAtRest last

-- every list of steps can be continued to rest
abbrev pub ComesToRest : Module → Type 0
ComesToRest m = (s t : State) → Schedule m s t → Rests m t

-- no schedule of events goes on for ever
abbrev pub Ends : Module → Type 0
Ends m = (s : ℕ → State) → ((n : ℕ) → Step m (s n) (s (suc n))) → ⊥

-- a cycle of the two-phase run: it settles with these inputs, and at the edge registers and words take what the blocks
-- assign
pub record IsTwoPhase (m : Module) (inputs : List ℕ) (start : Nets) (words : Memories) (value : Nets) (word : Memories)
    (value' : Nets) (word' : Memories) : Type 0 where
  pub fits : Fit m.declarations value word
  pub inputs' : HasInputs m value inputs
  pub held : (r : ℕ) (d : Declaration) → slice_get m.declarations r ≡ Some d → IsRegister d.kind → start r ≡ value r
  pub kept : (k at : ℕ) → words k at ≡ word k at
  pub settled : IsSettled m.assignments value word
  pub registers : (r : ℕ) (d : Declaration) → slice_get m.declarations r ≡ Some d → IsRegister d.kind
      → value' r ≡ unwrap_or (assigned_by value word m.blocks r) (value r)
  pub memories : (k at : ℕ) → word' k at ≡ unwrap_or (written_by value word m.blocks k at) (word k at)

-- every schedule of a cycle that rests is the two-phase cycle, and leaves a state in which the next may begin
abbrev pub CyclesAreTwoPhase : Module → Type 0
CyclesAreTwoPhase m =
    (inputs : List ℕ) (before seen after' : State) → StandsBefore m before → IsCycle m inputs before seen after'
    → IsTwoPhase m inputs before.nets before.words seen.nets seen.words after'.nets after'.words × StandsBefore m after'

-- every run in any order of events is a run
abbrev pub EventRunsAreRuns : Module → Type 0
EventRunsAreRuns m = (value : ℕ → Nets) (word : ℕ → Memories) → IsEventRun m value word → IsRun m value word

-- a run in some order of events that begins in this state and takes these inputs
pub record EventRunsOf (m : Module) (start : State) (inputs : ℕ → List ℕ) : Type 0 where
  pub value : ℕ → Nets
  pub word : ℕ → Memories
  pub is : IsEventRun m value word
  pub begins : is.before 0 ≡ start
  pub takes : (t : ℕ) → is.inputs t ≡ inputs t

-- there is one from any start and any inputs that fit
abbrev pub HasEventRunsOf : Module → Type 0
HasEventRunsOf m =
    (start : State) (inputs : ℕ → List ℕ) → IsStart m start → ((t : ℕ) → FitInputs m (inputs t))
    → EventRunsOf m start inputs

-- a run in some order of events that begins with these registers and words and takes these inputs, in the words of
-- two-phase runs
pub record EventRunsFrom (m : Module) (start : Nets) (words : Memories) (inputs : ℕ → Nets) : Type 0 where
  pub value : ℕ → Nets
  pub word : ℕ → Memories
  pub is : IsEventRun m value word
  pub starts : SameState m.declarations start words (value 0) (word 0)
  pub takes : (t : ℕ) → SameInputs m.declarations (inputs t) (value t)

-- there is one from any start and any inputs that fit
abbrev pub HasEventRuns : Module → Type 0
HasEventRuns m =
    (start : Nets) (words : Memories) (inputs : ℕ → Nets) → Fit m.declarations start words
    → ((t : ℕ) → Fit m.declarations (inputs t) words) → EventRunsFrom m start words inputs

-- what is seen in a two-phase run is seen in some order of events
pub record IsSeen (m : Module) (value : ℕ → Nets) (word : ℕ → Memories) : Type 0 where
  pub value' : ℕ → Nets
  pub word' : ℕ → Memories
  pub is : IsEventRun m value' word'
  pub same : (t : ℕ) → SameNets m.declarations (value t) (value' t)
      × SameState m.declarations (value t) (word t) (value' t) (word' t)

-- every two-phase run of a module is seen in some order of its events
abbrev pub RunsAreSeen : Module → Type 0
RunsAreSeen m = (value : ℕ → Nets) (word : ℕ → Memories) → IsRun m value word → IsSeen m value word
