-- Rings in a netlist.
use Rattle.std.specs.Prelude.{◌≡◌, ℕ, ◌*◌, ◌^◌, Bool}
use Rattle.gl_net.specs.declared.node.Bus.{Bus}
use Rattle.gl_net.specs.declared.node.Bit.{Bit}
use Rattle.gl_net.specs.Net.{Net, Run, IsRun, IsBus, Keeps}
use Rattle.gl_wire.specs.Costs.{Cost, Costs, nodes_alone}
use Rattle.gl_wire.specs.Wire.{line_at}
use Rattle.gl_wire_lanes.specs.Lanes.{Lane}
use Rattle.gl_frames_wire.specs.Rings.{IsRing, place_before}
use Rattle.gl_frames_wire.specs.declared.reach.Reach.{Reach}

-- the lane of a line and of the slot of each cycle; a ring does not ask where streams end or begin
abbrev pub lane_with : Run → Bit → (ℕ → ℕ) → (ℕ → Bool) → (ℕ → Bool) → Lane
lane_with run valid slot ends first = record { valid = line_at run valid; ends = ends; slot = slot; first = first }

-- nodes, and a memory with addresses of so many bits
abbrev pub memory_cost : ℕ → ℕ → ℕ → Cost
memory_cost nodes bits width = record { nodes = nodes; registers = 0; memories = 2 ^ bits * width }

-- in every run the place that is so many before a place, round the ring
pub record IsBeforeIn (old new : Net) (place : Bus) (reach : Reach) (out : Bus) : Type 0 where
  pub keeps : Keeps old new
  pub cost : Costs old new (nodes_alone 2)
  pub bus : IsBus new out
  pub same_width : out.width ≡ place.width
  pub before : (run : Run) → IsRun new run → (t : ℕ)
      → run.at t out.node ≡ place_before (2 ^ reach.bits) reach.back (run.at t place.node)

-- in every run, from any contents, a ring of the values of a bus, which gives what stands so many places before
pub record IsRingIn (old new : Net) (slot : Run → ℕ → ℕ) (most : Cost) (valid : Bit) (place : Bus) (reach : Reach)
    (value out : Bus) : Type 0 where
  pub keeps : Keeps old new
  pub cost : Costs old new most
  pub bus : IsBus new out
  pub same_width : out.width ≡ value.width
  pub ring : (run : Run) → IsRun new run → (ends first : ℕ → Bool)
      → IsRing (2 ^ reach.bits) reach.back (lane_with run valid (slot run) ends first) (λ c. run.at c value.node)
      (λ c. run.at c place.node) (λ c. run.at c out.node)
