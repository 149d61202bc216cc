-- The parts of the front, each by its equations, from the reset cycle on.
use Rattle.std.specs.Prelude.{◌≡◌, ℕ, suc, ◌+◌, ◌-◌, ◌*◌, ◌<◌, ◌≤◌, ◌^◌, length, false, nat_eq, not, ◌&&◌, ◌||◌}
use Rattle.gl_net.specs.declared.node.Bit.{Bit}
use Rattle.gl_net.specs.Net.{Net, Run, IsRun, IsBit, IsBus, Keeps}
use Rattle.gl_wire.specs.Costs.{Costs, CostsAtMost}
use Rattle.gl_wire.specs.Wire.{line_at}
use Rattle.gl_wire_registers.specs.Held.{held_at, counted_down, turned, with_registers}
use Rattle.gl_wire_registers.specs.Lines.{AreBits, any_to, line_of}
use Rattle.gl_partition.specs.declared.parts.Filled.{Filled}
use Rattle.gl_partition.specs.declared.parts.Turns.{Turns}
use Rattle.gl_partition.specs.declared.slot.SlotWindows.{SlotWindows}

-- the slots from the one whose turn is next on, each with so many turns: within a slot its turns are counted down
pub record IsTurns (run : Run) (eos due : Bit) (slots copies : ℕ) (r : Turns) : Type 0 where
  pub next_within : (t : ℕ)
      → held_at (copies - 1) run r.within (suc t) ≡ counted_down (copies - 1) (copies - 1) (line_at run eos t)
      (line_at run due t) (held_at (copies - 1) run r.within t)
  pub next_rest : (t : ℕ)
      → held_at slots run r.rest (suc t) ≡ counted_down slots 0 (line_at run eos t)
      (line_at run due t && nat_eq (held_at (copies - 1) run r.within t) 0) (held_at slots run r.rest t)

pub record AddsTurns (old new : Net) (eos due : Bit) (slots copies : ℕ) (r : Turns) : Type 0 where
  pub keeps : Keeps old new
  pub rest_bus : IsBus new r.rest
  pub rest_fits : slots < 2 ^ r.rest.width
  pub cost : Costs old new (with_registers 23 (r.within.width + r.rest.width))
  pub few : r.within.width + r.rest.width ≤ 64
  pub law : (run : Run) → IsRun new run → IsTurns run eos due slots copies r

-- when the oldest window of a slot ends, if it is open: with its last tuple, or in its turn
pub record IsFilled (run : Run) (valid eos due : Bit) (size advance : ℕ) (r : Filled) : Type 0 where
  pub next : (t : ℕ)
      → held_at (size - 1) run r.left (suc t) ≡ counted_down (size - 1) (advance - 1) (line_at run eos t)
      (line_at run valid t) (held_at (size - 1) run r.left t)
  pub trigger : (t : ℕ)
      → line_at run r.trigger t
      ≡ ((line_at run valid t && nat_eq (held_at (size - 1) run r.left t) 0) || line_at run due t)

pub record AddsFilled (old new : Net) (valid eos due : Bit) (size advance : ℕ) (r : Filled) : Type 0 where
  pub keeps : Keeps old new
  pub bit : IsBit new r.trigger
  pub cost : Costs old new (with_registers 14 r.left.width)
  pub few : r.left.width ≤ 32
  pub law : (run : Run) → IsRun new run → IsFilled run valid eos due size advance r

-- the windows of a slot, to which the row that comes belongs where `matches` is 1, and so does the one that came last:
-- its registers, and which copies take the row and which one ends
pub record IsSlot (run : Run) (valid eos tail matches due : Bit) (size advance copies : ℕ) (r : SlotWindows)
    : Type 0 where
  pub next_until : (t : ℕ)
      → held_at 0 run r.until (suc t) ≡ counted_down 0 (advance - 1) (line_at run eos t)
      (line_at run valid t && line_at run matches t) (held_at 0 run r.until t)
  pub next_left : (t : ℕ)
      → held_at (size - 1) run r.left (suc t) ≡ counted_down (size - 1) (advance - 1) (line_at run eos t)
      (line_at run valid t && line_at run matches t) (held_at (size - 1) run r.left t)
  pub next_opened : (t : ℕ)
      → held_at 0 run r.opened (suc t) ≡ turned (copies - 1)
      ((line_at run valid t && line_at run matches t) && nat_eq (held_at 0 run r.until t) 0) (held_at 0 run r.opened t)
  pub below : (t : ℕ) → held_at 0 run r.oldest t < copies
  pub next_oldest : (t : ℕ)
      → held_at 0 run r.oldest (suc t) ≡ turned (copies - 1) (any_to copies (λ k. line_of run r.ends k t))
      (held_at 0 run r.oldest t)
  pub flag_first : (k : ℕ) → k < copies → line_of run r.flags k 0 ≡ false
  pub flag : (k t : ℕ) → k < copies
      → line_of run r.flags k (suc t) ≡ (line_of run r.mids k t && not (line_of run r.ends k t))
  pub mid : (k t : ℕ) → k < copies
      → line_of run r.mids k t ≡ (line_of run r.flags k t
      || (((line_at run valid t && line_at run matches t) && nat_eq (held_at 0 run r.until t) 0)
      && nat_eq (held_at 0 run r.opened t) k))
  pub end : (k t : ℕ) → k < copies
      → line_of run r.ends k t
      ≡ (((((line_at run valid t && line_at run matches t) && nat_eq (held_at (size - 1) run r.left t) 0)
      || line_at run due t) && nat_eq (held_at 0 run r.oldest t) k) && line_of run r.mids k t)
  pub take : (k t : ℕ) → k < copies
      → line_of run r.takes k t
      ≡ ((line_of run r.mids k t && ((line_at run valid t && line_at run matches t) && not (line_at run eos t)))
      || (line_of run r.ends k t && (line_at run tail t && line_at run matches t)))

pub record AddsSlot (old new : Net) (valid eos tail matches due : Bit) (size advance copies : ℕ) (r : SlotWindows)
    : Type 0 where
  pub keeps : Keeps old new
  pub takes_count : length r.takes ≡ copies
  pub takes : AreBits new r.takes
  pub ends_count : length r.ends ≡ copies
  pub ends : AreBits new r.ends
  pub cost : CostsAtMost old new (with_registers (copies * 14 + 45) (copies + 128))
  pub law : (run : Run) → IsRun new run → IsSlot run valid eos tail matches due size advance copies r
