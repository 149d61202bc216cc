-- What the builder's own steps do to a netlist.
-- A middle layer, proved equal to `Builds`: no promise rests on it.
use Rattle.std.specs.Prelude.{◌≡◌, ℕ, List, [], ◌∷◌, ◌++◌, length, Option, Some, None, slice_get, slice_set}
use Rattle.gl_net.specs.declared.node.Node.{Node}
use Rattle.gl_net.specs.declared.node.Node.TheVariants.{Input, Register, Memory}
use Rattle.gl_net.specs.declared.node.MemoryDrive.{MemoryDrive}
use Rattle.gl_net.specs.declared.node.Bus.{Bus}
use Rattle.gl_net.specs.declared.node.Store.{Store}
use Rattle.gl_net.specs.declared.node.Direction.{Direction}
use Rattle.gl_net.specs.declared.node.Direction.TheVariants.{In}
use Rattle.gl_net.specs.Net.{Net}

-- one node more, with the number n
pub record Adds (old new : Net) (x : Node) (n : ℕ) : Type 0 where
  pub nodes : new.nodes ≡ old.nodes ++ x ∷ []
  pub number : n ≡ length old.nodes
  pub ports : new.ports ≡ old.ports
  pub name : new.name ≡ old.name

-- one port more
pub record AddsPort (old new : Net) (direction : Direction) (called : List ℕ) (node : ℕ) : Type 0 where
  pub nodes : new.nodes ≡ old.nodes
  pub ports : new.ports ≡ old.ports ++ record { direction = direction; name = called; node = node } ∷ []
  pub name : new.name ≡ old.name

-- an input port more, and its node
pub record AddsInput (old new : Net) (called : List ℕ) (w n : ℕ) : Type 0 where
  pub nodes : new.nodes ≡ old.nodes ++ Input (length old.ports) w ∷ []
  pub number : n ≡ length old.nodes
  pub ports : new.ports ≡ old.ports ++ record { direction = In; name = called; node = n } ∷ []
  pub name : new.name ≡ old.name

-- the module's name
pub record Names (old new : Net) (called : List ℕ) : Type 0 where
  pub nodes : new.nodes ≡ old.nodes
  pub ports : new.ports ≡ old.ports
  pub name : new.name ≡ Some called

-- the register with what drives it, in the place of the one without
pub record Drives (old new : Net) (register next : Bus) : Type 0 where
  pub reset : Option ℕ
  pub there : slice_get old.nodes register.node ≡ Some (Register register.width reset None)
  pub nodes : new.nodes ≡ slice_set old.nodes register.node (Register register.width reset (Some next))
  pub ports : new.ports ≡ old.ports
  pub name : new.name ≡ old.name

-- a memory that nothing wrote gets what writes it, and all else stays
pub record DrivesMemory (old new : Net) (store : Store) (drive : MemoryDrive) : Type 0 where
  pub there : slice_get old.nodes store.node ≡ Some (Memory store.address_bits store.width None)
  pub nodes : new.nodes ≡ slice_set old.nodes store.node (Memory store.address_bits store.width (Some drive))
  pub ports : new.ports ≡ old.ports
  pub name : new.name ≡ old.name
