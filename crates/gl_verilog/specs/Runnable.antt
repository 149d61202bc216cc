-- The modules that have a run from any start and any inputs, and only one.
use Rattle.std.specs.Prelude.{◌≡◌, ◌≢◌, ℕ, ◌+◌, ◌^◌, ◌<◌, ◌≤◌, false, List, [], ◌∷◌, Some, slice_get, if◌then◌else◌, not, ◌&&◌}
use Rattle.std.specs.List.{AllByRecursion, AllZip}
use Rattle.gl_verilog.specs.Module.{Input, Declaration, Module, Nets, Memories, Statement, Nothing, Put, Write, Both, If}
use Rattle.gl_verilog.specs.Run.{IsRun, IsRegister, IsSettled, Fit}
pub use Rattle.gl_verilog.specs.Run.{is_input}
use Rattle.gl_verilog.specs.Widths.{HasSize, IsDriven, IsReadable, KeepsWidth, KeepsWidthsIn, is_clock, width_at, words_in}
use Rattle.gl_verilog.specs.Order.{IsUndriven, CanBeOrdered}

-- widths are kept, every net that an assignment may drive has one, and no net depends on itself through assignments
pub record IsRunnable (m : Module) : Type 0 where
  pub sizes : AllByRecursion HasSize m.declarations
  pub assignments : AllByRecursion (KeepsWidth m.declarations) m.assignments
  pub blocks : AllByRecursion (KeepsWidthsIn m.declarations) m.blocks
  pub driven : (n : ℕ) (d : Declaration) → slice_get m.declarations n ≡ Some d → IsDriven d.kind
      → IsUndriven m.assignments n → ⊥
  pub ordered : CanBeOrdered m.assignments

-- the numbers of the input ports but the clock, in their order, counted from n
abbrev pub inputs_from : ℕ → List Declaration → List ℕ
inputs_from n [] = []
inputs_from n (d ∷ ds) =
    if (is_input d.kind && not (is_clock d)) then n ∷ inputs_from (n + 1) ds else inputs_from (n + 1) ds

-- the numbers of a module's input ports, the clock left out
abbrev pub inputs_of : Module → List ℕ
inputs_of m = inputs_from 0 m.declarations

-- one value for each input port but the clock, in their order: each fits its port
abbrev pub FitInputs : Module → List ℕ → Type 0
FitInputs m inputs = AllZip (λ n x. x < 2 ^ width_at m.declarations n) (inputs_of m) inputs

-- the input ports have these values
abbrev pub HasInputs : Module → Nets → List ℕ → Type 0
HasInputs m v inputs = AllZip (λ n x. v n ≡ x) (inputs_of m) inputs

-- two cycles hold the same in each register, and in each word of each memory
pub record SameState (ds : List Declaration) (v : Nets) (m : Memories) (v' : Nets) (m' : Memories) : Type 0 where
  pub registers : (n : ℕ) (d : Declaration) → slice_get ds n ≡ Some d → IsRegister d.kind → v n ≡ v' n
  pub words : (k : ℕ) (d : Declaration) (at : ℕ) → slice_get ds k ≡ Some d → at < words_in d.kind → m k at ≡ m' k at

-- two cycles have the same on each input port but the clock
abbrev pub SameInputs : List Declaration → Nets → Nets → Type 0
SameInputs ds v v' =
    (n : ℕ) (d : Declaration) → slice_get ds n ≡ Some d → d.kind ≡ Input → is_clock d ≡ false → v n ≡ v' n

-- two cycles have the same on each net and register but the clock
abbrev pub SameNets : List Declaration → Nets → Nets → Type 0
SameNets ds v v' = (n : ℕ) (d : Declaration) → slice_get ds n ≡ Some d → IsReadable d → v n ≡ v' n

-- given its inputs, registers and words, a cycle settles in one way at most
abbrev pub SettlesOneWay : Module → Type 0
SettlesOneWay m =
    (v v' : Nets) (words words' : Memories) → Fit m.declarations v words → IsSettled m.assignments v words
    → IsSettled m.assignments v' words' → SameInputs m.declarations v v' → SameState m.declarations v words v' words'
    → SameNets m.declarations v v'

-- two runs with the same start, and the same inputs in the cycles up to one, have the same nets, registers and words up
-- to it
abbrev pub RunsAreCausal : Module → Type 0
RunsAreCausal m =
    (value value' : ℕ → Nets) (word word' : ℕ → Memories) → IsRun m value word → IsRun m value' word'
    → SameState m.declarations (value 0) (word 0) (value' 0) (word' 0) → (c : ℕ)
    → ((t : ℕ) → t ≤ c → SameInputs m.declarations (value t) (value' t)) → (t : ℕ) → t ≤ c
    → SameNets m.declarations (value t) (value' t) × SameState m.declarations (value t) (word t) (value' t) (word' t)

-- two runs with the same start and the same inputs have the same nets, registers and words in every cycle
abbrev pub RunsAgree : Module → Type 0
RunsAgree m =
    (value value' : ℕ → Nets) (word word' : ℕ → Memories) → IsRun m value word → IsRun m value' word'
    → SameState m.declarations (value 0) (word 0) (value' 0) (word' 0)
    → ((t : ℕ) → SameInputs m.declarations (value t) (value' t)) → (t : ℕ)
    → SameNets m.declarations (value t) (value' t) × SameState m.declarations (value t) (word t) (value' t) (word' t)

-- a cycle that holds these inputs, registers and words, and is settled
pub record Settles (m : Module) (v : Nets) (words : Memories) : Type 0 where
  pub nets : Nets
  pub settled : IsSettled m.assignments nets words
  pub fits : Fit m.declarations nets words
  pub inputs : SameInputs m.declarations v nets
  pub state : SameState m.declarations v words nets words

-- each cycle settles, whatever its inputs, registers and words
abbrev pub SettlesSomeWay : Module → Type 0
SettlesSomeWay m = (v : Nets) (words : Memories) → Fit m.declarations v words → Settles m v words

-- a run that begins with these registers and words and takes these inputs
pub record RunsFrom (m : Module) (start : Nets) (words : Memories) (inputs : ℕ → Nets) : Type 0 where
  pub value : ℕ → Nets
  pub word : ℕ → Memories
  pub is : IsRun m value word
  pub starts : SameState m.declarations start words (value 0) (word 0)
  pub takes : (t : ℕ) → SameInputs m.declarations (inputs t) (value t)

-- there is a run from any start and any inputs that fit
abbrev pub HasRuns : Module → Type 0
HasRuns m =
    (start : Nets) (words : Memories) (inputs : ℕ → Nets) → Fit m.declarations start words
    → ((t : ℕ) → Fit m.declarations (inputs t) words) → RunsFrom m start words inputs

-- a statement assigns no value to the register
abbrev pub LeavesAlone : ℕ → Statement → Type 0
LeavesAlone r Nothing = Unit {0}
LeavesAlone r (Put register value) = register ≢ r
LeavesAlone r (Write memory address value) = Unit {0}
LeavesAlone r (Both first second) = LeavesAlone r first × LeavesAlone r second
LeavesAlone r (If test yes' no') = LeavesAlone r yes' × LeavesAlone r no'

-- a register that no block assigns keeps its start in every run
abbrev pub KeepsStart : Module → Type 0
KeepsStart m =
    (value : ℕ → Nets) (word : ℕ → Memories) → IsRun m value word → (r : ℕ) (d : Declaration)
    → slice_get m.declarations r ≡ Some d → IsRegister d.kind → AllByRecursion (LeavesAlone r) m.blocks → (t : ℕ)
    → value t r ≡ value 0 r
