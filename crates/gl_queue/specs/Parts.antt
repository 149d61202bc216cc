-- What each part of a ring adds to a netlist.
use Rattle.std.specs.Prelude.{◌≡◌, ℕ, suc, ◌+◌, ◌*◌, ◌%◌, ◌^◌, List, length, not, ◌&&◌, ◌||◌, nat_eq}
use Rattle.std.specs.List.{sum}
use Rattle.gl_net.specs.declared.node.Bus.{Bus}
use Rattle.gl_net.specs.declared.node.Bit.{Bit}
use Rattle.gl_net.specs.Net.{Net, Run, IsRun, IsBit, IsBus, Keeps}
use Rattle.gl_wire.specs.Costs.{Costs, nodes_alone}
use Rattle.gl_wire.specs.Wire.{AreBuses, widths, line_at}
use Rattle.gl_queue.specs.declared.ring.Places.{Places}
use Rattle.gl_queue.specs.RingLines.{AreHeld, IsPointer, ArePlaces, IsPassed}

-- a place that goes round
pub record IsPlace (old new : Net) (bits : ℕ) (step : Bit) (place : Bus) : Type 0 where
  pub keeps : Keeps old new
  pub cost : Costs old new (record { nodes = 4; registers = bits; memories = 0 })
  pub bus : IsBus new place
  pub width : place.width ≡ bits
  pub pointer : (run : Run) → IsRun new run → IsPointer run bits step place

-- a memory for each of some columns
pub record AreStored (old new : Net) (bits : ℕ) (push : Bit) (tail head : Bus) (columns outs : List Bus) : Type 0 where
  pub keeps : Keeps old new
  pub cost : Costs old new (record {
    nodes = 2 * length (widths columns);
    registers = 0;
    memories = 2 ^ bits * sum (widths columns);
  })
  pub buses : AreBuses new outs
  pub same_widths : widths outs ≡ widths columns
  pub held : (run : Run) → IsRun new run → AreHeld run push tail head columns outs

-- a line that is 1 where one place is so many before another
pub record IsMeeting (old new : Net) (bits number : ℕ) (head tail : Bus) (meets : Bit) : Type 0 where
  pub keeps : Keeps old new
  pub cost : Costs old new (nodes_alone 3)
  pub bit : IsBit new meets
  pub line : (run : Run) → IsRun new run → (t : ℕ)
      → line_at run meets (suc t) ≡ nat_eq ((run.at (suc t) head.node + number) % 2 ^ bits) (run.at (suc t) tail.node)

-- the line of what a flag is next
pub record IsFlagOf (old new : Net) (push some pop last next : Bit) : Type 0 where
  pub keeps : Keeps old new
  pub cost : Costs old new (nodes_alone 3)
  pub bit : IsBit new next
  pub line : (run : Run) → IsRun new run → (t : ℕ)
      → line_at run next t ≡ line_at run push t || (line_at run some t && not (line_at run pop t && line_at run last t))

-- the flag and the places
pub record ArePlacesOf (old new : Net) (bits : ℕ) (push hold : Bit) (p : Places) : Type 0 where
  pub keeps : Keeps old new
  pub cost : Costs old new (record { nodes = 16; registers = 2 * bits + 1; memories = 0 })
  pub some : IsBit new p.some
  pub pop : IsBit new p.pop
  pub head : IsBus new p.head
  pub head_width : p.head.width ≡ bits
  pub tail : IsBus new p.tail
  pub tail_width : p.tail.width ≡ bits
  pub places : (run : Run) → IsRun new run → ArePlaces run bits push hold p.some p.pop p.head p.tail

-- the line that tells of a push to a full ring
pub record IsPassedOf (old new : Net) (bits depth : ℕ) (push : Bit) (p : Places) (line : Bit) : Type 0 where
  pub keeps : Keeps old new
  pub cost : Costs old new (nodes_alone 6)
  pub bit : IsBit new line
  pub passed : (run : Run) → IsRun new run → IsPassed run bits depth push p.some p.pop line p.head p.tail
