-- Where the key of the row that came last is: a register with the mark of its slot.
use Rattle.std.specs.Prelude.{◌≡◌, ℕ, suc, ◌+◌, ◌*◌, ◌<◌, List, length, Bool, true, false, if◌then◌else◌}
use Rattle.gl_net.specs.declared.node.Bus.{Bus}
use Rattle.gl_net.specs.Net.{Net, Run, IsRun, IsBus, Keeps}
use Rattle.gl_wire.specs.Costs.{Costs, nodes_alone}
use Rattle.gl_wire.specs.Wire.{line_at}
use Rattle.gl_wire_registers.specs.Held.{held_at}
use Rattle.gl_wire_registers.specs.Lines.{held_of, line_of}
use Rattle.gl_slots.specs.declared.slots.Seen.{Seen}
use Rattle.gl_slots.specs.Picks.{AreAlike}

-- the mark of one of n lines, where one at most is 1: its number from 1 on, and 0 where none is
pub record IsMark (n : ℕ) (lines : ℕ → Bool) (mark : ℕ) : Type 0 where
  pub none : ((k : ℕ) → k < n → lines k ≡ false) → mark ≡ 0
  pub one : (k : ℕ) → k < n → lines k ≡ true → ((j : ℕ) → j < n → lines j ≡ true → j ≡ k) → mark ≡ suc k

-- buses of this width that carry the marks of n slots
pub record AreMarks (net : Net) (n width : ℕ) (bs : List Bus) : Type 0 where
  pub count : length bs ≡ n
  pub alike : AreAlike net width bs
  pub value : (run : Run) → IsRun net run → (k t : ℕ) → k < n → held_of run bs k (suc t) ≡ suc k

-- the slot that has the key behind a cycle: where one has it, that one, and else the one that may take it
abbrev pub keeper : Run → Seen → ℕ → ℕ → Bool
keeper run seen t k = if line_at run seen.one t then line_of run seen.found k t else line_of run seen.nexts k t

-- a bus that carries its mark
pub record AddsMark (old new : Net) (seen : Seen) (n width : ℕ) (b : Bus) : Type 0 where
  pub keeps : Keeps old new
  pub bus : IsBus new b
  pub same_width : b.width ≡ width
  pub cost : Costs old new (nodes_alone (n * 4 + 1))
  pub mark : (run : Run) → IsRun new run → (t : ℕ) → IsMark n (keeper run seen t) (held_at 0 run b t)
