-- A lag in a netlist.
use Rattle.std.specs.Prelude.{◌≡◌, ℕ, suc, ◌+◌, ◌*◌, ◌^◌, Bool, true, nat_le, if◌then◌else◌}
use Rattle.gl_net.specs.declared.node.Bus.{Bus}
use Rattle.gl_net.specs.declared.node.Bit.{Bit}
use Rattle.gl_net.specs.Net.{Net, Run, IsRun, IsBit, IsBus, Keeps}
use Rattle.gl_wire.specs.Costs.{Costs, nodes_alone}
use Rattle.gl_wire.specs.Wire.{line_at}
use Rattle.gl_frames.specs.Frames.{lag_of}
use Rattle.gl_frames_wire.specs.CountNets.{values_here}
use Rattle.gl_frames_wire.specs.RingNets.{lane_with, memory_cost}
use Rattle.gl_frames_wire.specs.Rings.{IsRing}
use Rattle.gl_frames_wire.specs.declared.reach.Reach.{Reach}

-- a line that is 1 where a count is at least so many
pub record IsManyIn (old new : Net) (count : Bus) (reach : Reach) (out : Bit) : Type 0 where
  pub keeps : Keeps old new
  pub cost : Costs old new (nodes_alone 2)
  pub bit : IsBit new out
  pub line : (run : Run) → IsRun new run → (t : ℕ)
      → line_at run out (suc t) ≡ nat_le reach.back (run.at (suc t) count.node)

-- what a ring gives where the count is at least so many, and else 0
pub record IsToldIn (old new : Net) (valid : Bit) (place count : Bus) (reach : Reach) (value out : Bus) : Type 0 where
  pub keeps : Keeps old new
  pub cost : Costs old new (memory_cost 8 reach.bits value.width)
  pub bus : IsBus new out
  pub same_width : out.width ≡ value.width
  pub given : Bus
  pub ring : (run : Run) → IsRun new run → (ends first : ℕ → Bool)
      → IsRing (2 ^ reach.bits) reach.back (lane_with run valid (λ c. 0) ends first)
      (λ c. run.at c value.node) (λ c. run.at c place.node) (λ c. run.at c given.node)
  pub told : (run : Run) → IsRun new run → (t : ℕ) → run.at (suc t) out.node
      ≡ (if nat_le reach.back (run.at (suc t) count.node) then run.at (suc t) given.node else 0)

-- in every run, from any contents, with each row of each stream its lag
pub record IsLagIn (old new : Net) (valid eos : Bit) (reach : Reach) (value out : Bus) : Type 0 where
  pub keeps : Keeps old new
  pub cost : Costs old new (record {
    nodes = 19;
    registers = reach.bits + 1;
    memories = 2 ^ reach.bits * value.width;
  })
  pub bus : IsBus new out
  pub same_width : out.width ≡ value.width
  pub lags : (run : Run) → IsRun new run → (c : ℕ) → line_at run valid (suc c) ≡ true
      → run.at (suc c) out.node ≡ lag_of (λ x. x) reach.back (values_here run valid eos value (suc c))
