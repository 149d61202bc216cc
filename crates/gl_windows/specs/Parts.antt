-- The parts of the front, each by its equations, from the reset cycle on.
use Rattle.std.specs.Prelude.{◌≡◌, ℕ, suc, ◌+◌, ◌-◌, ◌*◌, ◌<◌, ◌≤◌, List, length, nat_eq, not, ◌&&◌, ◌||◌}
use Rattle.gl_net.specs.declared.node.Bit.{Bit}
use Rattle.gl_net.specs.Net.{Net, Run, IsRun, IsBit, Keeps}
use Rattle.gl_wire.specs.Costs.{Costs, nodes_alone}
use Rattle.gl_wire.specs.Wire.{line_at}
use Rattle.gl_wire_registers.specs.Held.{held_at, counted_down, with_registers}
use Rattle.gl_wire_registers.specs.Lines.{line_of, AreBits}
use Rattle.gl_windows.specs.declared.parts.Opening.{Opening}
use Rattle.gl_windows.specs.declared.parts.Flush.{Flush}
use Rattle.gl_windows.specs.declared.parts.Trigger.{Trigger}
use Rattle.gl_windows.specs.declared.parts.Tail.{Tail}

-- when a copy opens: at a unit, where none is to come before; so many are to come before the first one of a stream
pub record IsOpening (run : Run) (unit eos : Bit) (before advance : ℕ) (o : Opening) : Type 0 where
  pub next : (t : ℕ) → held_at before run o.until (suc t) ≡ counted_down before (advance - 1) (line_at run eos t)
      (line_at run unit t) (held_at before run o.until t)
  pub opens : (t : ℕ) → line_at run o.opens t ≡ (line_at run unit t && nat_eq (held_at before run o.until t) 0)

pub record AddsOpening (old new : Net) (unit eos : Bit) (before advance : ℕ) (o : Opening) : Type 0 where
  pub keeps : Keeps old new
  pub bit : IsBit new o.opens
  pub cost : Costs old new (with_registers 13 o.until.width)
  pub few : o.until.width ≤ 32
  pub law : (run : Run) → IsRun new run → IsOpening run unit eos before advance o

-- the flush after an end, up to the next tuple: in which cycles a copy has its turn
pub record IsFlush (run : Run) (valid eos : Bit) (stride : ℕ) (f : Flush) : Type 0 where
  pub next : (t : ℕ) → line_at run f.flush (suc t)
      ≡ (line_at run eos t || (line_at run f.flush t && not (line_at run valid t)))
  pub idle : (t : ℕ) → line_at run f.idle t ≡ (line_at run f.flush t && not (line_at run valid t))
  pub next_wait : (t : ℕ)
      → held_at 0 run f.wait (suc t) ≡ counted_down (stride - 1) (stride - 1) (line_at run eos t) (line_at run f.idle t)
      (held_at 0 run f.wait t)
  pub due : (t : ℕ) → line_at run f.due t ≡ (line_at run f.idle t && nat_eq (held_at 0 run f.wait t) 0)

pub record AddsFlush (old new : Net) (valid eos : Bit) (stride : ℕ) (f : Flush) : Type 0 where
  pub keeps : Keeps old new
  pub idle : IsBit new f.idle
  pub due : IsBit new f.due
  pub cost : Costs old new (with_registers 17 (f.wait.width + 1))
  pub few : f.wait.width ≤ 32
  pub law : (run : Run) → IsRun new run → IsFlush run valid eos stride f

-- when the oldest copy ends, if it is open: with the end, with the unit that completes it, or in its turn
pub record IsTrigger (run : Run) (unit eos due : Bit) (size advance : ℕ) (r : Trigger) : Type 0 where
  pub next : (t : ℕ)
      → held_at (size - 1) run r.left (suc t) ≡ counted_down (size - 1) (advance - 1) (line_at run eos t)
      (line_at run unit t) (held_at (size - 1) run r.left t)
  pub last : (t : ℕ) → line_at run r.last t ≡ (line_at run unit t && nat_eq (held_at (size - 1) run r.left t) 0)
  pub trigger : (t : ℕ)
      → line_at run r.trigger t ≡ (line_at run eos t
      || ((line_at run unit t && nat_eq (held_at (size - 1) run r.left t) 0) || line_at run due t))

pub record AddsTrigger (old new : Net) (unit eos due : Bit) (size advance : ℕ) (r : Trigger) : Type 0 where
  pub keeps : Keeps old new
  pub last : IsBit new r.last
  pub bit : IsBit new r.trigger
  pub cost : Costs old new (with_registers 15 r.left.width)
  pub few : r.left.width ≤ 32
  pub law : (run : Run) → IsRun new run → IsTrigger run unit eos due size advance r

-- whether the copy that ends takes the row that came with the end
pub record IsTail (run : Run) (valid eos idle : Bit) (r : Tail) : Type 0 where
  pub next : (t : ℕ) → line_at run r.held (suc t)
      ≡ ((line_at run eos t && line_at run valid t) || (line_at run r.held t && not (line_at run eos t)))
  pub tail : (t : ℕ)
      → line_at run r.tail t ≡ ((line_at run eos t && line_at run valid t)
      || ((line_at run idle t && line_at run r.held t) && not (line_at run eos t)))

pub record AddsTail (old new : Net) (valid eos idle : Bit) (r : Tail) : Type 0 where
  pub keeps : Keeps old new
  pub bit : IsBit new r.tail
  pub cost : Costs old new (with_registers 7 1)
  pub law : (run : Run) → IsRun new run → IsTail run valid eos idle r

-- for each copy whether it takes the row: each open one a tuple without the end, the one that ends what came with the
-- end
pub record TakesOf (old new : Net) (valid eos tail : Bit) (mids ends bs : List Bit) : Type 0 where
  pub keeps : Keeps old new
  pub count : length bs ≡ length mids
  pub bits : AreBits new bs
  pub cost : Costs old new (nodes_alone (length mids * 3 + 1))
  pub line : (run : Run) → IsRun new run → (k t : ℕ) → k < length mids
      → line_of run bs k t ≡ ((line_of run mids k t && (line_at run valid t && not (line_at run eos t)))
      || (line_of run ends k t && line_at run tail t))
