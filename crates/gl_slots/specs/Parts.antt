-- The parts of the front, each by its equations, from the reset cycle on.
use Rattle.std.specs.Prelude.{◌≡◌, ℕ, suc, ◌+◌, ◌-◌, ◌*◌, ◌<◌, ◌≤◌, ◌^◌, List, length, nat_eq, not, ◌&&◌, ◌||◌, if◌then◌else◌, Bool}
use Rattle.gl_net.specs.declared.node.Bus.{Bus}
use Rattle.gl_net.specs.declared.node.Bit.{Bit}
use Rattle.gl_net.specs.Net.{Net, Run, IsRun, IsBit, IsBus, Keeps}
use Rattle.gl_wire.specs.Costs.{Costs, nodes_alone}
use Rattle.gl_wire.specs.Wire.{line_at}
use Rattle.gl_wire_registers.specs.Held.{held_at, counted_down, with_registers}
use Rattle.gl_wire_registers.specs.Lines.{line_of, AreBits}
use Rattle.gl_slots.specs.declared.parts.Flush.{Flush}
use Rattle.gl_slots.specs.declared.parts.Tail.{Tail}
use Rattle.gl_slots.specs.declared.parts.Turns.{Turns}

-- the flush after an end, up to what comes next: in which cycles a slot has its turn
pub record IsFlush (run : Run) (valid eos : Bit) (stride : ℕ) (f : Flush) : Type 0 where
  pub next : (t : ℕ) → line_at run f.flush (suc t)
      ≡ (line_at run eos t || (line_at run f.flush t && not (line_at run valid t)))
  pub idle : (t : ℕ) → line_at run f.idle t ≡ (line_at run f.flush t && not (line_at run valid t || line_at run eos t))
  pub free : (t : ℕ) → line_at run f.free t ≡ (line_at run f.flush t && (line_at run valid t || line_at run eos t))
  pub next_wait : (t : ℕ)
      → held_at 0 run f.wait (suc t) ≡ counted_down (stride - 1) (stride - 1) (line_at run eos t) (line_at run f.idle t)
      (held_at 0 run f.wait t)
  pub due : (t : ℕ) → line_at run f.due t ≡ (line_at run f.idle t && nat_eq (held_at 0 run f.wait t) 0)

pub record AddsFlush (old new : Net) (valid eos : Bit) (stride : ℕ) (f : Flush) : Type 0 where
  pub keeps : Keeps old new
  pub idle : IsBit new f.idle
  pub free : IsBit new f.free
  pub due : IsBit new f.due
  pub cost : Costs old new (with_registers 19 (f.wait.width + 1))
  pub few : f.wait.width ≤ 32
  pub law : (run : Run) → IsRun new run → IsFlush run valid eos stride f

-- which slot has its turn: with an end the first one
pub record IsTurns (run : Run) (eos due : Bit) (count : ℕ) (r : Turns) : Type 0 where
  pub next : (t : ℕ)
      → held_at count run r.rest (suc t) ≡ counted_down (count - 1) 0 (line_at run eos t) (line_at run due t)
      (held_at count run r.rest t)
  pub at : (t : ℕ) → held_at 0 run r.at (suc t)
      ≡ (if line_at run eos (suc t) then count else held_at count run r.rest (suc t))
  pub trigger : (t : ℕ) → line_at run r.trigger t ≡ (line_at run eos t || line_at run due t)

pub record AddsTurns (old new : Net) (eos due : Bit) (count : ℕ) (r : Turns) : Type 0 where
  pub keeps : Keeps old new
  pub at_bus : IsBus new r.at
  pub at_fits : count < 2 ^ r.at.width
  pub trigger_bit : IsBit new r.trigger
  pub cost : Costs old new (with_registers 13 r.rest.width)
  pub few : r.rest.width ≤ 32
  pub law : (run : Run) → IsRun new run → IsTurns run eos due count r

-- whether the slot that ends takes the row that came with the end
pub record IsTail (run : Run) (valid eos idle : Bit) (r : Tail) : Type 0 where
  pub next : (t : ℕ)
      → line_at run r.held (suc t) ≡ ((line_at run eos t && line_at run valid t)
      || (line_at run r.held t && not (line_at run eos t)))
  pub tail : (t : ℕ)
      → line_at run r.tail t ≡ ((line_at run eos t && line_at run valid t)
      || (line_at run idle t && line_at run r.held t))

pub record AddsTail (old new : Net) (valid eos idle : Bit) (r : Tail) : Type 0 where
  pub keeps : Keeps old new
  pub bit : IsBit new r.tail
  pub cost : Costs old new (with_registers 6 1)
  pub law : (run : Run) → IsRun new run → IsTail run valid eos idle r

-- whether a line is 1 and it is a slot's turn
unfoldable pub turned_at : ℕ → Bit → Bus → ℕ → Run → ℕ → Bool
turned_at count x p k run t = line_at run x t && nat_eq (held_at 0 run p t) (count - k)

unfoldable pub turned_to : ℕ → Bit → Bus → Run → ℕ → ℕ → Bool
turned_to count x p run k t = line_at run x t && nat_eq (held_at 0 run p t) (count - k)

-- for each slot whether it takes the row: one with its key a tuple without the end, the one that ends what came with
-- the end
pub record TakesOf (old new : Net) (valid eos tail : Bit) (matches ends bs : List Bit) : Type 0 where
  pub keeps : Keeps old new
  pub count : length bs ≡ length matches
  pub bits : AreBits new bs
  pub cost : Costs old new (nodes_alone (length matches * 3 + 1))
  pub line : (run : Run) → IsRun new run → (k t : ℕ) → k < length matches
      → line_of run bs k t ≡ (line_of run matches k t
      && ((line_of run ends k t && line_at run tail t) || (line_at run valid t && not (line_at run eos t))))
