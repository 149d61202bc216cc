-- Flags of copies that open one after another and end one after another.
use Rattle.std.specs.Prelude.{◌≡◌, ℕ, suc, ◌+◌, ◌-◌, ◌*◌, ◌<◌, ◌≤◌, List, length, nat_eq, not, ◌&&◌, ◌||◌}
use Rattle.gl_net.specs.declared.node.Bus.{Bus}
use Rattle.gl_net.specs.declared.node.Bit.{Bit}
use Rattle.gl_net.specs.Net.{Net, Run, IsRun, IsBus, Keeps}
use Rattle.gl_wire.specs.Costs.{Costs, nodes_alone}
use Rattle.gl_wire_registers.specs.Held.{held_at, turned, with_registers}
use Rattle.gl_wire_registers.specs.Lines.{line_of, any_to, pointed, AreBits}
use Rattle.gl_windows.specs.declared.turns.Turn.{Turn}
use Rattle.gl_windows.specs.declared.turns.OpenCopies.{OpenCopies}

-- what the lines that open and end copies tell, and the next pointer to the oldest one
pub record Turns (old new : Net) (count : ℕ) (opens : Bit) (opened : Bus) (trigger : Bit) (flags : List Bit)
    (oldest : Bus) (r : Turn) : Type 0 where
  pub keeps : Keeps old new
  pub mids : AreBits new r.mids
  pub ends : AreBits new r.ends
  pub kept : AreBits new r.kept
  pub mids_count : length r.mids ≡ count
  pub ends_count : length r.ends ≡ count
  pub kept_count : length r.kept ≡ count
  pub next : IsBus new r.next
  pub next_width : r.next.width ≡ oldest.width
  pub cost : Costs old new (nodes_alone (count * 10 + 6))
  pub mid : (run : Run) → IsRun new run → (k t : ℕ) → k < count
      → line_of run r.mids k t ≡ (line_of run flags k t || pointed opens opened run k t)
  pub end : (run : Run) → IsRun new run → (k t : ℕ) → k < count
      → line_of run r.ends k t ≡ (pointed trigger oldest run k t && line_of run r.mids k t)
  pub stays : (run : Run) → IsRun new run → (k t : ℕ) → k < count
      → line_of run r.kept k t ≡ (line_of run r.mids k t && not (line_of run r.ends k t))
  pub turn : (run : Run) → IsRun new run → (t : ℕ) → run.at (suc t) oldest.node ≤ count - 1
      → run.at (suc t) r.next.node ≡ turned (count - 1) (any_to count (λ k. line_of run r.ends k (suc t)))
      (run.at (suc t) oldest.node)

-- the same with the flags and the pointer in registers. Reset clears the flags but the last copy's, which becomes the
-- first number, and puts the pointer to the second number
pub record Rotating (run : Run) (count last first : ℕ) (opens : Bit) (opened : Bus) (trigger : Bit) (r : OpenCopies)
    : Type 0 where
  pub mid : (k t : ℕ) → k < count → line_of run r.mids k t ≡ (line_of run r.flags k t || pointed opens opened run k t)
  pub end : (k t : ℕ) → k < count → line_of run r.ends k t
      ≡ (pointed trigger r.oldest run k t && line_of run r.mids k t)
  pub flag : (k t : ℕ) → k < count → line_of run r.flags k (suc (suc t))
      ≡ (line_of run r.mids k (suc t) && not (line_of run r.ends k (suc t)))
  pub flag_first : (k : ℕ) → k < count → line_of run r.flags k 1 ≡ (nat_eq k (count - 1) && nat_eq last 1)
  pub below : (t : ℕ) → held_at first run r.oldest t ≤ count - 1
  pub oldest : (t : ℕ) → held_at first run r.oldest (suc t) ≡ turned (count - 1)
      (any_to count (λ k. line_of run r.ends k t)) (held_at first run r.oldest t)

-- such copies more
pub record AddsRotation (old new : Net) (count last first : ℕ) (opens : Bit) (opened : Bus) (trigger : Bit)
    (r : OpenCopies) : Type 0 where
  pub keeps : Keeps old new
  pub mids : AreBits new r.mids
  pub ends : AreBits new r.ends
  pub mids_count : length r.mids ≡ count
  pub ends_count : length r.ends ≡ count
  pub cost : Costs old new (with_registers (count * 11 + 7) (count + opened.width))
  pub rotating : (run : Run) → IsRun new run → Rotating run count last first opens opened trigger r
