-- A netlist that is being made for a test: a reset, two ports of 67 bits, and nothing that is not driven.
use Rattle.std.specs.Prelude.{◌≡◌, ℕ, zero, suc, List, [], ◌∷◌, ◌++◌, Some, None, codes}
use Rattle.gl_net.specs.declared.node.Bus.{Bus}
use Rattle.gl_net.specs.declared.node.Port.{Port}
use Rattle.gl_net.specs.declared.node.Direction.TheVariants.{In}
use Rattle.gl_net.specs.Net.{IsBus, Keeps, Net, Value, open_at, shape_in}
use Rattle.gl_wire.specs.declared.emitted.Emitted.{Emitted}
use Rattle.gl_wire.specs.Faults.{no_faults}
use Rattle.gl_wire.specs.Wire.{IsWire, widths}

-- a port that leads in
abbrev pub input_at : List ℕ → ℕ → Port
input_at name node = record { direction = In; name = name; node = node }

-- the netlist of a test stands ready: its three ports are there, and nothing waits for a drive
pub record IsReady (net : Net) : Type 0 where
  pub reset : ℕ
  pub left : ℕ
  pub right : ℕ
  pub ports : net.ports ≡ input_at (codes "rst") reset ∷ input_at (codes "left") left ∷ input_at (codes "right") right
      ∷ []
  pub bit : shape_in net.nodes reset ≡ Some (Value 1)
  pub driven : (n : ℕ) → open_at net n ≡ None

-- the ports of both streams are there
pub record IsBench (net : Net) (left right : Bus) : Type 0 where
  pub ready : IsReady net
  pub left_bus : IsBus net left
  pub left_width : left.width ≡ 67
  pub right_bus : IsBus net right
  pub right_width : right.width ≡ 67

-- so many pairs of columns
abbrev pub widths_of_pairs : ℕ → List ℕ
widths_of_pairs zero = []
widths_of_pairs (suc n) = widths_of_pairs n ++ 1 ∷ 64 ∷ []

-- a stream of a port
pub record IsSourceOf (old new : Net) (pairs : ℕ) (e : Emitted) : Type 0 where
  pub keeps : Keeps old new
  pub wire : IsWire new e.wire
  pub same_widths : widths e.wire.columns ≡ widths_of_pairs pairs
  pub faults : e.faults ≡ no_faults
