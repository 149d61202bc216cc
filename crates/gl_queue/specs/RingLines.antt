-- A ring as lines and buses of a netlist carry it.
use Rattle.std.specs.Prelude.{◌≡◌, ℕ, suc, ◌+◌, ◌%◌, ◌^◌, ◌<◌, ◌≤◌, List, Bool, false, not, ◌&&◌, ◌||◌, if◌then◌else◌, nat_eq}
use Rattle.gl_values.specs.Results.{Row}
use Rattle.gl_net.specs.declared.node.Bus.{Bus}
use Rattle.gl_net.specs.declared.node.Bit.{Bit}
use Rattle.gl_net.specs.Net.{Run}
use Rattle.gl_wire.specs.Wire.{line_at, row_at, tuple_at}
use Rattle.gl_queue.specs.Queue.{IsQueue}

-- a memory for each of some columns: written where the line is 1, read at the head in the same cycle
pub record AreHeld (run : Run) (push : Bit) (tail head : Bus) (columns outs : List Bus) : Type 0 where
  pub words : ℕ → ℕ → Row
  pub reads : (t : ℕ) → row_at run t outs ≡ words t (run.at t head.node)
  pub writes : (t k : ℕ) → words (suc t) k ≡ (if nat_eq (run.at t push.node) 1 && nat_eq (run.at t tail.node) k
      then row_at run t columns else words t k)

-- a place that is 0 after reset and goes on by one where a line is 1
pub record IsPointer (run : Run) (bits : ℕ) (step : Bit) (place : Bus) : Type 0 where
  pub start : run.at 1 place.node ≡ 0
  pub next : (t : ℕ) → run.at (suc (suc t)) place.node
      ≡ (if line_at run step (suc t) then (run.at (suc t) place.node + 1) % 2 ^ bits else run.at (suc t) place.node)
  pub low : (t : ℕ) → run.at t place.node < 2 ^ bits

-- whether an entry leaves in a cycle
abbrev pub pops : Run → Bit → Bit → ℕ → Bool
pops run some hold t = line_at run some t && not (line_at run hold t)

-- the flag and the two pointers of a ring
pub record ArePlaces (run : Run) (bits : ℕ) (push hold some pop : Bit) (head tail : Bus) : Type 0 where
  pub pops : (t : ℕ) → line_at run pop t ≡ line_at run some t && not (line_at run hold t)
  pub at_head : IsPointer run bits pop head
  pub at_tail : IsPointer run bits push tail
  pub some_first : line_at run some 1 ≡ false
  pub some_next : (t : ℕ) → line_at run some (suc (suc t)) ≡ line_at run push (suc t)
      || (line_at run some (suc t) && not (line_at run pop (suc t) && nat_eq ((run.at (suc t) head.node + 1) % 2 ^ bits)
      (run.at (suc t) tail.node)))

-- the line that tells of a push to a full ring
pub record IsPassed (run : Run) (bits depth : ℕ) (push some pop passed : Bit) (head tail : Bus) : Type 0 where
  pub is : (t : ℕ) → line_at run passed (suc t)
      ≡ (line_at run push (suc t) && (line_at run some (suc t) && nat_eq
      ((run.at (suc t) head.node + depth % 2 ^ bits) % 2 ^ bits) (run.at (suc t) tail.node))) && not
      (line_at run pop (suc t))

-- two pointers of some bits, a flag, and the memories
pub record IsRingOf (run : Run) (bits depth : ℕ) (push hold some passed : Bit) (head tail : Bus)
    (columns outs : List Bus) : Type 0 where
  pub low : (t : ℕ) → run.at t head.node < 2 ^ bits
  pub head_first : run.at 1 head.node ≡ 0
  pub tail_first : run.at 1 tail.node ≡ 0
  pub some_first : line_at run some 1 ≡ false
  pub head_next : (t : ℕ) → run.at (suc (suc t)) head.node
      ≡ (if pops run some hold (suc t) then (run.at (suc t) head.node + 1) % 2 ^ bits else run.at (suc t) head.node)
  pub tail_next : (t : ℕ) → run.at (suc (suc t)) tail.node
      ≡ (if line_at run push (suc t) then (run.at (suc t) tail.node + 1) % 2 ^ bits else run.at (suc t) tail.node)
  pub tail_low : (t : ℕ) → run.at t tail.node < 2 ^ bits
  pub some_next : (t : ℕ) → line_at run some (suc (suc t)) ≡ line_at run push (suc t)
      || (line_at run some (suc t) && not (pops run some hold (suc t) && nat_eq
      ((run.at (suc t) head.node + 1) % 2 ^ bits) (run.at (suc t) tail.node)))
  pub passed_is : (t : ℕ) → line_at run passed (suc t)
      ≡ (line_at run push (suc t) && (line_at run some (suc t) && nat_eq
      ((run.at (suc t) head.node + depth % 2 ^ bits) % 2 ^ bits) (run.at (suc t) tail.node))) && not
      (pops run some hold (suc t))
  pub held : AreHeld run push tail head columns outs

-- a ring in a netlist is a queue of the rows on its columns
abbrev pub RingLinesAreQueues : Type 0
RingLinesAreQueues =
    (run : Run) (bits depth : ℕ) (push hold some passed : Bit) (head tail : Bus) (columns outs : List Bus) → 1 ≤ bits
    → 1 ≤ depth → depth ≤ 2 ^ bits → IsRingOf run bits depth push hold some passed head tail columns outs
    → IsQueue depth (tuple_at run push columns) (λ c. not (line_at run hold c)) (tuple_at run some outs)
    (line_at run passed)
