-- What holds of every netlist that a builder holds: operands stand before the nodes that read them, and widths agree.
use Rattle.std.specs.Prelude.{◌≡◌, ℕ, ◌+◌, ◌^◌, ◌<◌, ◌≤◌, Option, Some, slice_get, IfSome}
use Rattle.std.specs.Option.{option_map}
use Rattle.gl_bits.specs.Words.{IsWord, IsWidth}
use Rattle.gl_net.specs.declared.node.Node.{Node}
use Rattle.gl_net.specs.declared.node.Node.TheVariants.{Input, Constant, Not, Binary, Choose, Join, Cut, Register, Memory, MemoryRead}
use Rattle.gl_net.specs.declared.node.MemoryDrive.{MemoryDrive}
use Rattle.gl_net.specs.declared.node.Bus.{Bus}
use Rattle.gl_net.specs.declared.node.Bit.{Bit}
use Rattle.gl_net.specs.declared.node.Store.{Store}
use Rattle.gl_net.specs.declared.node.Port.{Port}
use Rattle.gl_net.specs.declared.node.Direction.{Direction}
use Rattle.gl_net.specs.declared.node.Direction.TheVariants.{In, Out}
use Rattle.gl_net.specs.Net.{Net, Value, shape_in, IsBus, IsBit, IsStore, IsAddressWidth}

-- a node reads a bus that stands before it
pub record ReadsBus (net : Net) (n : ℕ) (b : Bus) : Type 0 where
  pub before : b.node < n
  pub bus : IsBus net b

-- a node reads one bit of a node before it
pub record ReadsBit (net : Net) (n : ℕ) (b : Bit) : Type 0 where
  pub before : b.node < n
  pub bit : IsBit net b

-- a node reads a memory that stands before it
pub record ReadsStore (net : Net) (n : ℕ) (s : Store) : Type 0 where
  pub before : s.node < n
  pub store : IsStore net s

-- what a memory takes has the widths of the memory
pub record IsDrive (net : Net) (bits w : ℕ) (d : MemoryDrive) : Type 0 where
  pub write : IsBit net d.write
  pub address : IsBus net d.address
  pub address_width : d.address.width ≡ bits
  pub value : IsBus net d.value
  pub value_width : d.value.width ≡ w

-- which way the port at a place leads, and its node
unfoldable pub end_at : Net → ℕ → Option (Direction × ℕ)
end_at net place = option_map (λ p. (p.direction, p.node)) (slice_get net.ports place)

-- what the node with the number n asks of its parts; what drives a register or a memory may come later than it
abbrev pub NodeFits : Net → ℕ → Node → Type 0
NodeFits net n (Input place w) = IsWidth w × (end_at net place ≡ Some (In, n))
NodeFits net n (Constant word) = IsWord word
NodeFits net n (Not x) = ReadsBus net n x
NodeFits net n (Binary op x y) = ReadsBus net n x × ReadsBus net n y × (x.width ≡ y.width)
NodeFits net n (Choose test x y) = ReadsBit net n test × ReadsBus net n x × ReadsBus net n y × (x.width ≡ y.width)
NodeFits net n (Join x y) = ReadsBus net n x × ReadsBus net n y × (x.width + y.width ≤ 128)
NodeFits net n (Cut x high low) = ReadsBus net n x × (low ≤ high) × (high < x.width)
NodeFits net n (Register w reset next) =
    IsWidth w × IfSome reset (λ v. v < 2 ^ w) × IfSome next (λ b. IsBus net b × (b.width ≡ w))
NodeFits net n (Memory bits w drive) = IsAddressWidth bits × IsWidth w × IfSome drive (λ d. IsDrive net bits w d)
NodeFits net n (MemoryRead store x) = ReadsStore net n store × ReadsBus net n x × (x.width ≡ store.address_bits)

-- a port that leads in stands for one input node, which names it; one that leads out shows a node that carries a value
abbrev pub EndFits : Net → ℕ → Direction → ℕ → Type 0
EndFits net place In n = (w : ℕ) × (slice_get net.nodes n ≡ Some (Input place w))
EndFits net place Out n = (w : ℕ) × (shape_in net.nodes n ≡ Some (Value w))

-- every node fits the nodes that it reads, and every port fits the node at its end
pub record IsWellFormed (net : Net) : Type 0 where
  pub nodes : (n : ℕ) (x : Node) → slice_get net.nodes n ≡ Some x → NodeFits net n x
  pub ends : (place : ℕ) (p : Port) → slice_get net.ports place ≡ Some p → EndFits net place p.direction p.node
