-- The words of a memory, and what its block adds to a netlist.
use Rattle.std.specs.Prelude.{◌≡◌, ℕ, suc, ◌*◌, ◌^◌}
use Rattle.gl_net.specs.declared.node.Bus.{Bus}
use Rattle.gl_net.specs.declared.node.Bit.{Bit}
use Rattle.gl_net.specs.Net.{Net, Run, IsRun, IsBus, Keeps, stored_of}
use Rattle.gl_wire.specs.Costs.{Costs}

-- words in a run: one is written where the line is 1, and one is read in the same cycle
pub record IsHeld (run : Run) (write : Bit) (place at value out : Bus) : Type 0 where
  pub word : ℕ → ℕ → ℕ
  pub reads : (t : ℕ) → run.at t out.node ≡ word t (run.at t at.node)
  pub writes : (t k : ℕ) → word (suc t) k
      ≡ stored_of (run.at t write.node) (run.at t place.node) (run.at t value.node) k (word t k)

-- a memory that is written at a place and read at an address, as nodes of a netlist with their cost
pub record IsStored (old new : Net) (bits : ℕ) (write : Bit) (place at value out : Bus) : Type 0 where
  pub keeps : Keeps old new
  pub cost : Costs old new (record { nodes = 2; registers = 0; memories = 2 ^ bits * value.width })
  pub bus : IsBus new out
  pub same_width : out.width ≡ value.width
  pub held : (run : Run) → IsRun new run → IsHeld run write place at value out
