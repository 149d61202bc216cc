-- Registers that drive themselves, by what they hold in each cycle, from the reset cycle on.
use Rattle.std.specs.Prelude.{◌≡◌, ℕ, suc, ◌≤◌, false, not, ◌&&◌, ◌||◌}
use Rattle.gl_bits.specs.Words.{choose_of}
use Rattle.gl_net.specs.declared.node.Bus.{Bus}
use Rattle.gl_net.specs.declared.node.Bit.{Bit}
use Rattle.gl_net.specs.Net.{Net, Run, IsRun, IsBus, IsBit, Keeps}
use Rattle.gl_wire.specs.Costs.{Costs, nodes_alone}
use Rattle.gl_wire.specs.Wire.{line_at}
use Rattle.gl_wire_registers.specs.Held.{held_at, counted_down, turned, with_registers}

-- the next value of a counter that goes down
pub record IsNextCount (old new : Net) (counter : Bus) (tick : Bit) (again : ℕ) (out : Bus) : Type 0 where
  pub keeps : Keeps old new
  pub cost : Costs old new (nodes_alone 7)
  pub bus : IsBus new out
  pub width : out.width ≡ counter.width
  pub next : (run : Run) → IsRun new run → (t : ℕ)
      → run.at (suc t) out.node ≡ counted_down 0 again false (line_at run tick (suc t)) (run.at (suc t) counter.node)

-- a counter that goes down
pub record IsCounter (old new : Net) (clear tick : Bit) (bits start cleared again : ℕ) (out : Bus) : Type 0 where
  pub keeps : Keeps old new
  pub cost : Costs old new (with_registers 10 bits)
  pub bus : IsBus new out
  pub width : out.width ≡ bits
  pub next : (run : Run) → IsRun new run → (t : ℕ)
      → held_at start run out (suc t) ≡ counted_down cleared again (line_at run clear t) (line_at run tick t)
      (held_at start run out t)

-- the next value of a pointer, where it is not past the last one
pub record IsNextPointer (old new : Net) (pointer : Bus) (tick : Bit) (last : ℕ) (out : Bus) : Type 0 where
  pub keeps : Keeps old new
  pub cost : Costs old new (nodes_alone 7)
  pub bus : IsBus new out
  pub width : out.width ≡ pointer.width
  pub next : (run : Run) → IsRun new run → (t : ℕ) → run.at (suc t) pointer.node ≤ last
      → run.at (suc t) out.node ≡ turned last (line_at run tick (suc t)) (run.at (suc t) pointer.node)

-- a pointer
pub record IsPointer (old new : Net) (tick : Bit) (bits last : ℕ) (out : Bus) : Type 0 where
  pub keeps : Keeps old new
  pub cost : Costs old new (with_registers 8 bits)
  pub bus : IsBus new out
  pub width : out.width ≡ bits
  pub next : (run : Run) → IsRun new run → (t : ℕ)
      → (held_at 0 run out t ≤ last) × (held_at 0 run out (suc t) ≡ turned last (line_at run tick t)
      (held_at 0 run out t))

-- a line that one line sets and another one clears
pub record IsLatch (old new : Net) (set clear out : Bit) : Type 0 where
  pub keeps : Keeps old new
  pub cost : Costs old new (with_registers 3 1)
  pub bit : IsBit new out
  pub line : (run : Run) → IsRun new run → (t : ℕ)
      → line_at run out (suc t) ≡ (line_at run set t || (line_at run out t && not (line_at run clear t)))

-- a register that takes a bus where a line is 1
pub record IsHold (old new : Net) (load : Bit) (source out : Bus) : Type 0 where
  pub keeps : Keeps old new
  pub cost : Costs old new (with_registers 2 source.width)
  pub bus : IsBus new out
  pub width : out.width ≡ source.width
  pub value : (run : Run) → IsRun new run → (t : ℕ)
      → run.at (suc (suc t)) out.node ≡ choose_of (run.at (suc t) load.node) (run.at (suc t) source.node)
      (run.at (suc t) out.node)
