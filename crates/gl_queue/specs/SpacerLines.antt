-- A spacer as lines and buses of a netlist carry it: its queue's columns are the wire's, with the valid line and the
-- end in front.
use Rattle.std.specs.Prelude.{◌≡◌, ℕ, zero, suc, ◌-◌, List, [], ◌∷◌, Some, None, false, not, ◌&&◌, if◌then◌else◌, nat_eq}
use Rattle.gl_values.specs.Results.{Row}
use Rattle.gl_net.specs.declared.node.Bus.{Bus}
use Rattle.gl_net.specs.declared.node.Bit.{Bit}
use Rattle.gl_net.specs.Net.{Net, Run, IsRun, IsBit, IsBus, Keeps}
use Rattle.gl_wire.specs.declared.wire.Wire.{Wire}
use Rattle.gl_wire.specs.Costs.{Costs, nodes_alone}
use Rattle.gl_wire.specs.Wire.{AreBuses, IsWire, carried, line_at, tuple_at, widths}
use Rattle.gl_queue.specs.declared.merge.Merged.{Merged}
use Rattle.gl_queue.specs.declared.pacing.Paced.{Paced}
use Rattle.gl_queue.specs.Costs.{cost_of_pacing, cost_of_spacing}
use Rattle.gl_queue.specs.Queue.{IsQueue}
use Rattle.gl_queue.specs.Spacing.{Entry, IsSpacer}

-- a line as a column
abbrev pub bus_of : Bit → Bus
bus_of b = record { node = b.node; width = 1 }

-- the entry that a row of the queue stands for
abbrev pub entry_of : Row → Entry
entry_of [] = record { row = None; end = false }
entry_of (v ∷ []) = record { row = None; end = false }
entry_of (v ∷ e ∷ xs) = record { row = if nat_eq v 1 then Some xs else None; end = nat_eq e 1 }

-- a number in a register, which counts as 0 in the reset cycle
abbrev pub count_at : Run → Bus → ℕ → ℕ
count_at run b zero = 0
count_at run b (suc t) = run.at (suc t) b.node

-- a line that is 1 where a timer is not 0
pub record IsHold (old new : Net) (timer : Bus) (hold : Bit) : Type 0 where
  pub keeps : Keeps old new
  pub cost : Costs old new (nodes_alone 2)
  pub bit : IsBit new hold
  pub line : (run : Run) → IsRun new run → (t : ℕ) → line_at run hold t ≡ not (nat_eq (count_at run timer t) 0)

-- what a timer is next
pub record IsCountdown (old new : Net) (number : ℕ) (timer : Bus) (hold start : Bit) (next : Bus) : Type 0 where
  pub keeps : Keeps old new
  pub cost : Costs old new (nodes_alone 6)
  pub bus : IsBus new next
  pub width : next.width ≡ 32
  pub value : (run : Run) → IsRun new run → ((t : ℕ) → line_at run hold t ≡ not (nat_eq (count_at run timer t) 0))
      → (t : ℕ)
      → run.at (suc t) next.node ≡ (if line_at run start (suc t) then number - 1 else run.at (suc t) timer.node - 1)

-- a queue from which an entry leaves where its timer is 0, and then sets it
pub record IsPacing (run : Run) (depth g : ℕ) (push : Bit) (columns : List Bus) (p : Paced) : Type 0 where
  pub timer : ℕ → ℕ
  pub first : timer 0 ≡ 0
  pub pops : (t : ℕ) → line_at run p.pop t ≡ line_at run p.queue.some t && nat_eq (timer t) 0
  pub next : (t : ℕ) → timer (suc t) ≡ (if line_at run p.pop t then g - 1 else timer t - 1)
  pub queue : IsQueue depth (tuple_at run push columns) (λ c. nat_eq (timer c) 0)
      (tuple_at run p.queue.some p.queue.columns) (line_at run p.queue.passed)

-- the queue of a spacer and its timer, as nodes of a netlist: what they keep, cost and carry
pub record IsPacedOf (old new : Net) (depth g : ℕ) (push : Bit) (columns : List Bus) (p : Paced) : Type 0 where
  pub keeps : Keeps old new
  pub cost : Costs old new (cost_of_pacing depth (widths columns))
  pub pop : IsBit new p.pop
  pub passed : IsBit new p.queue.passed
  pub buses : AreBuses new p.queue.columns
  pub same_widths : widths p.queue.columns ≡ widths columns
  pub pacing : (run : Run) → IsRun new run → IsPacing run depth g push columns p

-- a wire behind a spacer with so many places
pub record IsSpacedOf (old new : Net) (depth g : ℕ) (a : Wire) (o : Merged) : Type 0 where
  pub keeps : Keeps old new
  pub cost : Costs old new (cost_of_spacing depth (widths a.columns))
  pub wire : IsWire new o.wire
  pub same_widths : widths o.wire.columns ≡ widths a.columns
  pub passed : IsBit new o.passed
  pub spacing : (run : Run) → IsRun new run
      → IsSpacer g depth (line_at run o.passed) (carried run a) (carried run o.wire)
