-- Gates on lines. A line counts as 0 in the reset cycle, so that each equation here holds in every cycle; there is no
-- gate `not`, whose line would be 0 there.
use Rattle.std.specs.Prelude.{◌≡◌, ℕ, zero, suc, Bool, false, nat_eq}
use Rattle.gl_net.specs.declared.node.Bus.{Bus}
use Rattle.gl_net.specs.declared.node.Bit.{Bit}
use Rattle.gl_net.specs.Net.{Net, Run, IsRun, IsBit, Keeps}
use Rattle.gl_wire.specs.Costs.{Costs, nodes_alone}
use Rattle.gl_wire.specs.Wire.{line_at}

-- a line that is 1 in a cycle exactly where a test of two lines holds
pub record IsGate (old new : Net) (test : Bool → Bool → Bool) (left right out : Bit) : Type 0 where
  pub keeps : Keeps old new
  pub cost : Costs old new (nodes_alone 1)
  pub bit : IsBit new out
  pub line : (run : Run) → IsRun new run → (t : ℕ) → line_at run out t ≡ test (line_at run left t) (line_at run right t)

-- whether two buses carry the same in a cycle; in the reset cycle nothing counts
abbrev pub same_at : Run → Bus → Bus → ℕ → Bool
same_at run x y zero = false
same_at run x y (suc t) = nat_eq (run.at (suc t) x.node) (run.at (suc t) y.node)

-- a line that is 1 where they do
pub record IsSame (old new : Net) (left right : Bus) (out : Bit) : Type 0 where
  pub keeps : Keeps old new
  pub cost : Costs old new (nodes_alone 1)
  pub bit : IsBit new out
  pub line : (run : Run) → IsRun new run → (t : ℕ) → line_at run out t ≡ same_at run left right t
