-- The parts of a fold that keeps a state for each slot in a memory.
use Rattle.std.specs.Prelude.{◌≡◌, ℕ, suc, ◌+◌, ◌*◌, ◌^◌, Bool, if◌then◌else◌, ◌&&◌, ◌||◌, nat_eq}
use Rattle.gl_net.specs.declared.node.Bit.{Bit}
use Rattle.gl_net.specs.declared.node.Bus.{Bus}
use Rattle.gl_net.specs.Net.{Net, Run, IsRun, IsBus, Keeps}
use Rattle.gl_totals.specs.Folds.{next_of, nodes_of}
use Rattle.gl_totals.specs.declared.fold.Fold.{Fold}
use Rattle.gl_totals.specs.declared.fold.Step.{Step}
use Rattle.gl_wire.specs.Costs.{Costs, CostsAtMost, nodes_alone}
use Rattle.gl_wire.specs.Wire.{line_at}

-- a word as a state, and what it is with the cycle's row
pub record IsNow (old new : Net) (valid : Bit) (word : Bus) (step : Step) (f : Fold) : Type 0 where
  pub keeps : Keeps old new
  pub cost : CostsAtMost old new (nodes_alone (1 + nodes_of step))
  pub before : f.before ≡ word
  pub now : IsBus new f.now
  pub now_width : f.now.width ≡ word.width
  pub with_row : (run : Run) → IsRun new run → (t : ℕ) → run.at (suc t) f.now.node
      ≡ (if line_at run valid (suc t) then next_of step run word.width (suc t) (run.at (suc t) word.node)
      else run.at (suc t) word.node)

-- whether a slot's word is written in a cycle
abbrev pub writes_at : Run → Bit → Bit → ℕ → Bool
writes_at run valid first t = line_at run valid t || line_at run first t

-- words of slots that take what a state is now, and the word of the slot that comes next, past what is written at once
pub record IsPast (run : Run) (valid first : Bit) (slot next now out : Bus) : Type 0 where
  pub word : ℕ → ℕ → ℕ
  pub leaves : (t k : ℕ) → word (suc (suc t)) k
      ≡ (if nat_eq (run.at (suc t) slot.node) k && writes_at run valid first (suc t) then run.at (suc t) now.node
      else word (suc t) k)
  pub reads : (t : ℕ) → run.at (suc t) out.node
      ≡ (if nat_eq (run.at (suc t) slot.node) (run.at (suc t) next.node) && writes_at run valid first (suc t)
      then run.at (suc t) now.node
      else word (suc t) (run.at (suc t) next.node))

-- a bus that carries the word of the next slot, past what is written to the memory in that cycle
pub record IsPassing (old new : Net) (valid first : Bit) (slot next now out : Bus) : Type 0 where
  pub keeps : Keeps old new
  pub cost : Costs old new (record { nodes = 6; registers = 0; memories = 2 ^ slot.width * now.width })
  pub bus : IsBus new out
  pub same_width : out.width ≡ now.width
  pub past : (run : Run) → IsRun new run → IsPast run valid first slot next now out
