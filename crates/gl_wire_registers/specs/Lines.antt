-- Lines and wires of many copies, by the number of the copy.
use Rattle.std.specs.Prelude.{◌≡◌, ℕ, zero, suc, ◌*◌, ◌<◌, List, [], ◌∷◌, length, Some, None, Bool, false, slice_get, not, nat_eq, ◌&&◌, ◌||◌}
use Rattle.gl_net.specs.declared.node.Bus.{Bus}
use Rattle.gl_net.specs.declared.node.Bit.{Bit}
use Rattle.gl_net.specs.Net.{Net, Run, IsRun, IsBit, Keeps}
use Rattle.gl_wire.specs.declared.wire.Wire.{Wire}
use Rattle.gl_wire.specs.Costs.{Costs, nodes_alone}
use Rattle.gl_wire.specs.Wire.{Carried, carried, line_at}
use Rattle.gl_wire_registers.specs.Held.{held_at}
use Rattle.gl_wire_registers.specs.declared.lines.LineOp.{LineOp}
use Rattle.gl_wire_registers.specs.declared.lines.LineOp.TheVariants.{Both, Either, ButNot}

-- the line of a copy
unfoldable pub line_of : Run → List Bit → ℕ → ℕ → Bool
line_of run [] k t = false
line_of run (b ∷ bs) zero t = line_at run b t
line_of run (b ∷ bs) (suc k) t = line_of run bs k t

-- what the wire of a copy carries
unfoldable pub carried_of : Run → List Wire → ℕ → Carried
carried_of run [] k = record { tuple = λ t. None; ends = λ t. false }
carried_of run (w ∷ ws) zero = carried run w
carried_of run (w ∷ ws) (suc k) = carried_of run ws k

-- what the register of a copy carries; in the reset cycle it counts as 0
unfoldable pub held_of : Run → List Bus → ℕ → ℕ → ℕ
held_of run [] k t = 0
held_of run (b ∷ bs) zero t = held_at 0 run b t
held_of run (b ∷ bs) (suc k) t = held_of run bs k t

-- what a gate makes of two lines: both, either, or the first without the second
abbrev pub line_op : LineOp → Bool → Bool → Bool
line_op Both x y = x && y
line_op Either x y = x || y
line_op ButNot x y = x && not y

-- one of the first n
abbrev pub any_to : ℕ → (ℕ → Bool) → Bool
any_to zero f = false
any_to (suc n) f = any_to n f || f n

-- the gates of a tree over n lines: one fewer than lines, and a constant where there is none
abbrev pub gates_of : ℕ → ℕ
gates_of zero = 1
gates_of (suc n) = n

-- a bus of one bit as a line
abbrev pub to_bit : Bus → Bit
to_bit b = record { node = b.node }

-- a line as a bus of one bit
abbrev pub to_bus : Bit → Bus
to_bus b = record { node = b.node; width = 1 }

-- each of these is a line of the netlist
pub record AreBits (net : Net) (bs : List Bit) : Type 0 where
  pub each : (k : ℕ) (b : Bit) → slice_get bs k ≡ Some b → IsBit net b

-- a line more, of so many nodes
pub record AddsLine (old new : Net) (price : ℕ) (b : Bit) (f : Run → ℕ → Bool) : Type 0 where
  pub keeps : Keeps old new
  pub bit : IsBit new b
  pub cost : Costs old new (nodes_alone price)
  pub line : (run : Run) → IsRun new run → (t : ℕ) → line_at run b t ≡ f run t

-- a line more for each of n copies, each of so many nodes
pub record AddsLines (old new : Net) (n price : ℕ) (bs : List Bit) (f : Run → ℕ → ℕ → Bool) : Type 0 where
  pub keeps : Keeps old new
  pub count : length bs ≡ n
  pub bits : AreBits new bs
  pub cost : Costs old new (nodes_alone (n * price))
  pub line : (run : Run) → IsRun new run → (k t : ℕ) → k < n → line_of run bs k t ≡ f run k t

-- for each copy the gate of its two lines, or of its line and one for all
unfoldable pub pairs : LineOp → List Bit → List Bit → Run → ℕ → ℕ → Bool
pairs op xs ys run k t = line_op op (line_of run xs k t) (line_of run ys k t)

-- each of several lines with one other line, through a gate
unfoldable pub with_line : LineOp → List Bit → Bit → Run → ℕ → ℕ → Bool
with_line op xs y run k t = line_op op (line_of run xs k t) (line_at run y t)

-- whether a line is 1 and a pointer is at the copy
unfoldable pub pointed : Bit → Bus → Run → ℕ → ℕ → Bool
pointed x p run k t = line_at run x t && nat_eq (held_at 0 run p t) k

-- whether one of the first n lines is 1
unfoldable pub any_line : ℕ → List Bit → Run → ℕ → Bool
any_line n xs run t = any_to n (λ k. line_of run xs k t)

-- the gate of two lines
unfoldable pub gated : LineOp → Bit → Bit → Run → ℕ → Bool
gated op x y run t = line_op op (line_at run x t) (line_at run y t)

-- whether a line is 1 and the pointer is at a number
unfoldable pub pointed_at : Bit → Bus → ℕ → Run → ℕ → Bool
pointed_at x p k run t = line_at run x t && nat_eq (held_at 0 run p t) k
