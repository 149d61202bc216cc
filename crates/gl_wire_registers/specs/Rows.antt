-- The row of the last tuple, in registers, and the wires of copies beside it.
use Rattle.std.specs.Prelude.{◌≡◌, ℕ, suc, ◌*◌, ◌<◌, List, length, slice_get, Some, None, false, if◌then◌else◌}
use Rattle.std.specs.List.{sum}
use Rattle.gl_net.specs.declared.node.Bus.{Bus}
use Rattle.gl_net.specs.declared.node.Bit.{Bit}
use Rattle.gl_net.specs.Net.{Net, Run, IsRun, Keeps}
use Rattle.gl_wire.specs.declared.wire.Wire.{Wire}
use Rattle.gl_wire.specs.Costs.{Costs}
use Rattle.gl_wire.specs.Wire.{AreBuses, IsWire, line_at, row_at, widths}
use Rattle.gl_wire_registers.specs.Held.{with_registers}
use Rattle.gl_wire_registers.specs.Lines.{line_of, carried_of}

-- registers that take a row where a line is 1
pub record HoldsRow (old new : Net) (load : Bit) (columns bs : List Bus) : Type 0 where
  pub keeps : Keeps old new
  pub buses : AreBuses new bs
  pub same_widths : widths bs ≡ widths columns
  pub cost : Costs old new (with_registers (length (widths columns) * 2) (sum (widths columns)))
  pub row : (run : Run) → IsRun new run → (t : ℕ)
      → row_at run (suc (suc t)) bs ≡ (if line_at run load (suc t) then row_at run (suc t) columns
      else row_at run (suc t) bs)

-- a wire that carries two lines a cycle later, beside the row
pub record AddsWire (old new : Net) (source close : Bit) (row : List Bus) (w : Wire) : Type 0 where
  pub keeps : Keeps old new
  pub wire : IsWire new w
  pub columns : w.columns ≡ row
  pub cost : Costs old new (with_registers 2 2)
  pub valid : (run : Run) → IsRun new run → (t : ℕ) → line_at run w.valid (suc t) ≡ line_at run source t
  pub end : (run : Run) → IsRun new run → (t : ℕ) → line_at run w.eos (suc t) ≡ line_at run close t

-- for each copy a wire that carries its lines a cycle later, beside the row
pub record AddsWires (old new : Net) (n : ℕ) (valids ends : List Bit) (row : List Bus) (ws : List Wire) : Type 0 where
  pub keeps : Keeps old new
  pub count : length ws ≡ n
  pub cost : Costs old new (with_registers (n * 2) (n * 2))
  pub wires : (k : ℕ) (w : Wire) → slice_get ws k ≡ Some w → IsWire new w
  pub columns : (k : ℕ) (w : Wire) → slice_get ws k ≡ Some w → w.columns ≡ row
  pub first_tuple : (run : Run) → IsRun new run → (k : ℕ) → k < n → (carried_of run ws k).tuple 0 ≡ None
  pub first_end : (run : Run) → IsRun new run → (k : ℕ) → k < n → (carried_of run ws k).ends 0 ≡ false
  pub tuple : (run : Run) → IsRun new run → (k t : ℕ) → k < n
      → (carried_of run ws k).tuple (suc t) ≡ (if line_of run valids k t then Some (row_at run (suc t) row) else None)
  pub end : (run : Run) → IsRun new run → (k t : ℕ) → k < n → (carried_of run ws k).ends (suc t) ≡ line_of run ends k t
