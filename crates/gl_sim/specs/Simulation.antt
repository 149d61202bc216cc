-- What a simulator holds and shows.
use Rattle.std.specs.Prelude.{◌≡◌, ℕ, ◌+◌, ◌≤◌, List, length}
use Rattle.gl_verilog.specs.Module.{Nets, Memories}
use Rattle.gl_verilog.specs.View.{module_of, chained}
use Rattle.gl_verilog.specs.Evaluate.{IsStore, nets_of, memories_of}
use Rattle.gl_verilog.specs.Runnable.{IsRunnable, inputs_of, HasInputs, SameState, SameNets}
use Rattle.gl_verilog.specs.Run.{IsRun}
use Rattle.gl_verilog.specs.declared.module.Module.{Module}
use Rattle.gl_verilog.specs.Events.{State, IsCycle, StandsBefore}
use Rattle.gl_verilog_check.specs.Orders.{IsOrderOf}
use Rattle.gl_sim.specs.Updates.{writes_in}

-- the module, what each register and each word holds for the next cycle, and what each net had in the last cycle
-- stepped
pub record Simulation : Type 0 where
  pub design : Module
  pub values : List ℕ
  pub banks : List (List ℕ)
  pub shown : List ℕ

-- the module can run, its order and input ports are found, and there is room for all words that a cycle may write
pub record IsReady (design : Module) (picks inputs values : List ℕ) (banks : List (List ℕ)) (last : List ℕ) (places : ℕ)
    : Type 0 where
  pub runnable : IsRunnable (module_of design)
  pub order : IsOrderOf (module_of design).assignments picks
  pub ports : inputs ≡ inputs_of (module_of design)
  pub store : IsStore (module_of design).declarations values banks
  pub shown : length last ≡ length (module_of design).declarations
  pub room : writes_in (chained design.blocks) ≤ places

-- before cycle t of this run its registers and words are those that the simulator holds
abbrev pub IsAt : Simulation → (ℕ → Nets) → (ℕ → Memories) → ℕ → Type 0
IsAt s value word t =
    SameState (module_of s.design).declarations (nets_of s.values) (memories_of s.banks) (value t) (word t)

-- the nets of a cycle are those that it shows
abbrev pub Shows : Simulation → Nets → Type 0
Shows s v = SameNets (module_of s.design).declarations (nets_of s.shown) v

-- from the old to the new with these inputs it follows each run that holds the same and has these inputs, through one
-- cycle
abbrev pub FollowsRuns : Simulation → Simulation → List ℕ → Type 0
FollowsRuns old new inputs =
    (value : ℕ → Nets) (word : ℕ → Memories) (t : ℕ) → IsRun (module_of old.design) value word → IsAt old value word t
    → HasInputs (module_of old.design) (value t) inputs → Shows new (value t) × IsAt new value word (t + 1)

-- a state of events holds the registers and words that the simulator does
abbrev pub Holds : Simulation → State → Type 0
Holds s b = SameState (module_of s.design).declarations (nets_of s.values) (memories_of s.banks) b.nets b.words

-- from the old to the new with these inputs it follows every order of events: whichever schedules a cycle takes that
-- begins where the same is held, it shows what is seen, and holds what is held where the next cycle may begin
abbrev pub FollowsOrders : Simulation → Simulation → List ℕ → Type 0
FollowsOrders old new inputs =
    (before seen after' : State) → StandsBefore (module_of old.design) before → Holds old before
    → IsCycle (module_of old.design) inputs before seen after' → Shows new seen.nets × Holds new after'
    × StandsBefore (module_of new.design) after'
