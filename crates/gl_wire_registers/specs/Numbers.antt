-- Lines and buses that carry a number, and tests of a bus against one. What a bus carries is said from cycle 1 on.
use Rattle.std.specs.Prelude.{◌≡◌, ℕ, suc, true, false, if◌then◌else◌, nat_eq, ◌&&◌}
use Rattle.gl_algebra.specs.Cost.{least_exponent}
use Rattle.gl_net.specs.declared.node.BinaryOp.{BinaryOp}
use Rattle.gl_net.specs.declared.node.Bus.{Bus}
use Rattle.gl_net.specs.declared.node.Bit.{Bit}
use Rattle.gl_net.specs.Net.{Net, Run, IsRun, IsBus, IsBit, Keeps, binary_of, binary_width}
use Rattle.gl_wire.specs.Costs.{Costs, nodes_alone}
use Rattle.gl_wire.specs.Wire.{line_at}
use Rattle.gl_wire_registers.specs.Held.{held_at}

-- the bits of each number below so many: the least, and at least one
abbrev pub bits_below : ℕ → ℕ
bits_below count = least_exponent count 1 count

-- a line that is 1 where another one is and a register holds a number, whatever reset gives the register
pub record IsWhenEqual (old new : Net) (source : Bit) (register : Bus) (number : ℕ) (out : Bit) : Type 0 where
  pub keeps : Keeps old new
  pub cost : Costs old new (nodes_alone 3)
  pub bit : IsBit new out
  pub line : (run : Run) → IsRun new run → (reset t : ℕ)
      → line_at run out t ≡ (line_at run source t && nat_eq (held_at reset run register t) number)

-- a line that is 1 in no cycle
pub record IsNever (old new : Net) (out : Bit) : Type 0 where
  pub keeps : Keeps old new
  pub cost : Costs old new (nodes_alone 1)
  pub bit : IsBit new out
  pub line : (run : Run) → IsRun new run → (t : ℕ) → line_at run out t ≡ false

-- a line that is 1 in each cycle after the reset cycle
pub record IsAlways (old new : Net) (out : Bit) : Type 0 where
  pub keeps : Keeps old new
  pub cost : Costs old new (nodes_alone 1)
  pub bit : IsBit new out
  pub line : (run : Run) → IsRun new run → (t : ℕ) → line_at run out (suc t) ≡ true

-- a number where a line is 1, and else another bus
pub record IsNumberOr (old new : Net) (line : Bit) (number : ℕ) (other out : Bus) : Type 0 where
  pub keeps : Keeps old new
  pub cost : Costs old new (nodes_alone 2)
  pub bus : IsBus new out
  pub width : out.width ≡ other.width
  pub value : (run : Run) → IsRun new run → (t : ℕ)
      → run.at (suc t) out.node ≡ (if line_at run line (suc t) then number else run.at (suc t) other.node)

-- a number where a bus carries a certain one, and else another bus
pub record IsNumberAt (old new : Net) (source : Bus) (at number : ℕ) (other out : Bus) : Type 0 where
  pub keeps : Keeps old new
  pub cost : Costs old new (nodes_alone 4)
  pub bus : IsBus new out
  pub width : out.width ≡ other.width
  pub value : (run : Run) → IsRun new run → (t : ℕ)
      → run.at (suc t) out.node ≡ (if nat_eq (run.at (suc t) source.node) at then number else run.at (suc t) other.node)

-- an operation on a bus and 1
pub record IsWithOne (old new : Net) (op : BinaryOp) (source out : Bus) : Type 0 where
  pub keeps : Keeps old new
  pub cost : Costs old new (nodes_alone 2)
  pub bus : IsBus new out
  pub width : out.width ≡ binary_width op source.width
  pub value : (run : Run) → IsRun new run → (t : ℕ)
      → run.at t out.node ≡ binary_of op source.width (run.at t source.node) 1
