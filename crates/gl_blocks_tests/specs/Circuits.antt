-- The source of a circuit that is tested.
use Rattle.std.specs.Prelude.{◌≡◌, ℕ, List, [], ◌∷◌, Some, None, codes}
use Rattle.gl_net.specs.declared.node.Port.{Port}
use Rattle.gl_net.specs.declared.node.Direction.TheVariants.{In}
use Rattle.gl_net.specs.Net.{Net, Value, open_at, shape_in}
use Rattle.gl_wire.specs.declared.emitted.Emitted.{Emitted}
use Rattle.gl_wire.specs.Wire.{IsWire, widths}

-- the input port of this name
abbrev pub input_at : List ℕ → ℕ → Port
input_at name node = record { direction = In; name = name; node = node }

-- two columns at the ports of a netlist that has nothing else
pub record IsSourceOf (net : Net) (first second : ℕ) (e : Emitted) : Type 0 where
  pub wire : IsWire net e.wire
  pub same_widths : widths e.wire.columns ≡ first ∷ second ∷ []
  pub undriven : (n : ℕ) → open_at net n ≡ None
  pub rst : ℕ
  pub valid : ℕ
  pub eos : ℕ
  pub a : ℕ
  pub b : ℕ
  pub ports : net.ports ≡ input_at (codes "rst") rst ∷ input_at (codes "valid") valid ∷ input_at (codes "eos") eos
      ∷ input_at (codes "a") a ∷ input_at (codes "b") b ∷ []
  pub reset : shape_in net.nodes rst ≡ Some (Value 1)
