-- Lines that tell of faults, which a circuit may lack.
use Rattle.std.specs.Prelude.{◌≡◌, ℕ, Option, Some, None, Bool, false, ◌||◌}
use Rattle.gl_net.specs.declared.node.Bit.{Bit}
use Rattle.gl_net.specs.Net.{Net, Run, IsRun, IsBit, Keeps}
use Rattle.gl_wire.specs.declared.emitted.Faults.{Faults}
use Rattle.gl_wire.specs.Costs.{CostsAtMost, nodes_alone}
use Rattle.gl_wire.specs.Spills.{Lines, SameLines, both_lines}
use Rattle.gl_wire.specs.Wire.{line_at}

-- whether a line that may be absent is 1 in a cycle
abbrev pub line_of : Run → Option Bit → ℕ → Bool
line_of run None c = false
line_of run (Some bit) c = line_at run bit c

-- the lines of a circuit in a run
abbrev pub lines_of : Run → Faults → Lines
lines_of run faults = record { passed = line_of run faults.passed; further = line_of run faults.further }

-- no lines
abbrev pub no_faults : Faults
no_faults = record { passed = None; further = None }

-- the line is in the netlist, where there is one
abbrev pub IsLine : Net → Option Bit → Type 0
IsLine net None = Unit {0}
IsLine net (Some bit) = IsBit net bit

-- the lines of faults that a circuit has are in its netlist
pub record AreLines (net : Net) (faults : Faults) : Type 0 where
  pub passed : IsLine net faults.passed
  pub further : IsLine net faults.further

-- a line that is 1 where one of two is, any of which may be absent; one node at most
pub record IsEither (old new : Net) (left right out : Option Bit) : Type 0 where
  pub keeps : Keeps old new
  pub cost : CostsAtMost old new (nodes_alone 1)
  pub is : IsLine new out
  pub line : (run : Run) → IsRun new run → (c : ℕ) → line_of run out c ≡ (line_of run left c || line_of run right c)

-- the lines of two circuits together; two nodes at most
pub record AreBoth (old new : Net) (left right faults : Faults) : Type 0 where
  pub keeps : Keeps old new
  pub cost : CostsAtMost old new (nodes_alone 2)
  pub are : AreLines new faults
  pub lines : (run : Run) → IsRun new run → SameLines (lines_of run faults)
      (both_lines (lines_of run left) (lines_of run right))
