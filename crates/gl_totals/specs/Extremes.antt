-- The parts of an extreme in a register that is never cleared: what it is with a cycle's row is what the register takes.
use Rattle.std.specs.Prelude.{◌≡◌, ℕ, suc, false, if◌then◌else◌, not, ◌&&◌, ◌||◌}
use Rattle.gl_net.specs.declared.node.Bit.{Bit}
use Rattle.gl_net.specs.declared.node.Bus.{Bus}
use Rattle.gl_net.specs.Net.{Net, Run, IsRun, IsBit, IsBus, Keeps}
use Rattle.gl_totals.specs.Folds.{next_of}
use Rattle.gl_totals.specs.declared.extreme.Pick.{Pick}
use Rattle.gl_totals.specs.declared.fold.Best.{Best}
use Rattle.gl_totals.specs.declared.fold.Step.TheVariants.{Keep}
use Rattle.gl_wire.specs.Costs.{CostsAtMost, nodes_alone}
use Rattle.gl_wire.specs.Wire.{line_at}

-- a line each for the value, where a row comes and it is better or no word counts, and for the word that counts, where
-- it is not taken over
pub record IsPick (old new : Net) (valid counts better : Bit) (p : Pick) : Type 0 where
  pub keeps : Keeps old new
  pub cost : CostsAtMost old new (nodes_alone 5)
  pub value : IsBit new p.value
  pub word : IsBit new p.word
  pub takes : (run : Run) → IsRun new run → (t : ℕ) → line_at run p.value (suc t)
      ≡ (line_at run valid (suc t) && (line_at run better (suc t) || not (line_at run counts (suc t))))
  pub holds : (run : Run) → IsRun new run → (t : ℕ) → line_at run p.word (suc t)
      ≡ (line_at run counts (suc t) && not (line_at run valid (suc t) && line_at run better (suc t)))

-- the value or the word, where not both are picked, and 0 where neither is
pub record IsPicked (old new : Net) (p : Pick) (x y out : Bus) : Type 0 where
  pub keeps : Keeps old new
  pub cost : CostsAtMost old new (nodes_alone 4)
  pub bus : IsBus new out
  pub same_width : out.width ≡ x.width
  pub carries : (run : Run) → IsRun new run → (t : ℕ) → (line_at run p.value (suc t) && line_at run p.word (suc t)) ≡ false
      → run.at (suc t) out.node
      ≡ (if line_at run p.value (suc t) then run.at (suc t) x.node
      else if line_at run p.word (suc t) then run.at (suc t) y.node else 0)

-- words that follow what the extreme is: with a row it is the next state, and else the word where that counts, and 0
-- where it does not
pub record HoldsBest (run : Run) (valid : Bit) (best : Best) (now : Bus) : Type 0 where
  pub word : ℕ → ℕ
  pub follows : (t : ℕ) → word (suc (suc t)) ≡ run.at (suc t) now.node
  pub takes : (t : ℕ) → run.at (suc t) now.node
      ≡ (if line_at run valid (suc t) then next_of (Keep best) run best.value.width (suc t) (word (suc t))
      else if line_at run best.some (suc t) then word (suc t) else 0)

-- a bus that carries the extreme with the cycle's row, held in a register of its width
pub record IsHeldBest (old new : Net) (valid : Bit) (best : Best) (now : Bus) : Type 0 where
  pub keeps : Keeps old new
  pub cost : CostsAtMost old new (record { nodes = 14; registers = best.value.width; memories = 0 })
  pub bus : IsBus new now
  pub same_width : now.width ≡ best.value.width
  pub held : (run : Run) → IsRun new run → HoldsBest run valid best now
