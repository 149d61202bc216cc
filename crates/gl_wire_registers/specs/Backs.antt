-- The back of copies: what they carry, on one wire.
use Rattle.std.specs.Prelude.{◌≡◌, ℕ, zero, suc, ◌+◌, ◌*◌, List, length, slice_get, Some, if◌then◌else◌}
use Rattle.std.specs.List.{sum}
use Rattle.gl_net.specs.declared.node.Bus.{Bus}
use Rattle.gl_net.specs.declared.node.Bit.{Bit}
use Rattle.gl_net.specs.Net.{Net, Run, IsRun, IsBit, Keeps}
use Rattle.gl_wire.specs.declared.wire.Wire.{Wire}
use Rattle.gl_wire.specs.Costs.{Costs, nodes_alone}
use Rattle.gl_wire.specs.Shapes.{IsDelayed}
use Rattle.gl_wire.specs.Wire.{AreBuses, IsWire, carried, line_at, row_at, tuple_at, widths}
use Rattle.gl_wire.specs.Lift.{first_of, tuple_of_any}
use Rattle.gl_wire_registers.specs.declared.back.Merged.{Merged}
use Rattle.gl_wire_registers.specs.Held.{with_registers}
use Rattle.gl_wire_registers.specs.Lines.{carried_of}

-- one of two rows
pub record ChoosesRow (old new : Net) (test : Bit) (first second bs : List Bus) : Type 0 where
  pub keeps : Keeps old new
  pub buses : AreBuses new bs
  pub same_widths : widths bs ≡ widths first
  pub cost : Costs old new (nodes_alone (length first))
  pub row : (run : Run) → IsRun new run → (t : ℕ)
      → row_at run (suc t) bs ≡ (if line_at run test (suc t) then row_at run (suc t) first
      else row_at run (suc t) second)

-- each is a wire with columns of these widths
pub record AreWires (net : Net) (ws : List Wire) (columns : List ℕ) : Type 0 where
  pub each : (k : ℕ) (w : Wire) → slice_get ws k ≡ Some w → IsWire net w
  pub same_widths : (k : ℕ) (w : Wire) → slice_get ws k ≡ Some w → widths w.columns ≡ columns

-- the tuples of one, and where it has none those of another
pub record MergesTwo (old new : Net) (first second m : Merged) : Type 0 where
  pub keeps : Keeps old new
  pub valid : IsBit new m.valid
  pub buses : AreBuses new m.columns
  pub same_widths : widths m.columns ≡ widths first.columns
  pub cost : Costs old new (nodes_alone (length first.columns + 1))
  pub tuple : (run : Run) → IsRun new run → (t : ℕ)
      → tuple_at run m.valid m.columns t
      ≡ first_of (tuple_at run first.valid first.columns t) (tuple_at run second.valid second.columns t)

-- the nodes of a tree over n copies: for each but one a choice of each column and a gate, and a constant where there is
-- none
abbrev pub nodes_of_merge : ℕ → ℕ → ℕ
nodes_of_merge zero columns = 1
nodes_of_merge (suc n) columns = n * (columns + 1)

-- the tuples of these copies
pub record Merges (old new : Net) (ws : List Wire) (columns : List ℕ) (m : Merged) : Type 0 where
  pub keeps : Keeps old new
  pub valid : IsBit new m.valid
  pub buses : AreBuses new m.columns
  pub same_widths : widths m.columns ≡ columns
  pub cost : Costs old new (nodes_alone (nodes_of_merge (length ws) (length columns)))
  pub tuple : (run : Run) → IsRun new run → (t : ℕ)
      → tuple_at run m.valid m.columns t ≡ tuple_of_any (carried_of run ws) (length ws) t

-- a wire that carries, a cycle later, the tuples of all copies, and the ends of a line
pub record JoinsCopies (old new : Net) (ws : List Wire) (close : Bit) (columns : List ℕ) (w : Wire) : Type 0 where
  pub keeps : Keeps old new
  pub wire : IsWire new w
  pub same_widths : widths w.columns ≡ columns
  pub cost : Costs old new (with_registers (nodes_of_merge (length ws) (length columns) + length columns + 2)
      (sum columns + 2))
  pub delayed : (run : Run) → IsRun new run
      → IsDelayed 1 (record { tuple = tuple_of_any (carried_of run ws) (length ws); ends = line_at run close })
      (carried run w)
