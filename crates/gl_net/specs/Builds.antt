-- What the builder's calls promise: what the nodes that they add carry in every run, and what stays.
use Rattle.std.specs.Prelude.{◌≡◌, ◌≢◌, ℕ, suc, ◌+◌, ◌*◌, ◌^◌, List, [], ◌∷◌, ◌++◌, Option, Some, None, slice_get, slice_set, length, true}
use Rattle.gl_bits.specs.Words.{Word, not_of, join_of, cut_of, choose_of}
use Rattle.gl_net.specs.declared.node.BinaryOp.{BinaryOp}
use Rattle.gl_net.specs.declared.node.Node.{Node}
use Rattle.gl_net.specs.declared.node.Node.TheVariants.{Input, Register, Memory}
use Rattle.gl_net.specs.declared.node.MemoryDrive.{MemoryDrive}
use Rattle.gl_net.specs.declared.node.Bus.{Bus}
use Rattle.gl_net.specs.declared.node.Bit.{Bit}
use Rattle.gl_net.specs.declared.node.Store.{Store}
use Rattle.gl_net.specs.declared.node.Port.{Port}
use Rattle.gl_net.specs.declared.node.Direction.{Direction}
use Rattle.gl_net.specs.Net.{Net, Run, IsRun, IsBus, Shape, Holds, open_at, binary_of, stored_of, register_bits_of, memory_bits_of, is_free}

-- ---- gates

-- in every run the node with the number of the bus is of this kind
abbrev pub IsNode : Net → Node → Bus → Type 0
IsNode net x b = (run : Run) → IsRun net run → Holds run b.node x

-- the bus carries the word in every cycle
abbrev pub IsConstant : Net → Word → Bus → Type 0
IsConstant net word b = (run : Run) → IsRun net run → (t : ℕ) → run.at t b.node ≡ word.bits

-- the bus carries in every cycle of a run the word that the run holds under this number
pub record IsHeldBus (net : Net) (number : ℕ) (b : Bus) : Type 0 where
  pub bus : IsBus net b
  pub carries : (run : Run) → IsRun net run → (t : ℕ) → run.at t b.node ≡ run.held number

-- a bus carries the inversion of another in every run
abbrev pub IsNot : Net → Bus → Bus → Type 0
IsNot net x b = (run : Run) → IsRun net run → (t : ℕ) → run.at t b.node ≡ not_of x.width (run.at t x.node)

-- a bus carries what an operator makes of two others in every run
abbrev pub IsBinary : Net → BinaryOp → Bus → Bus → Bus → Type 0
IsBinary net op x y b =
    (run : Run) → IsRun net run → (t : ℕ) → run.at t b.node ≡ binary_of op x.width (run.at t x.node) (run.at t y.node)

-- a bus carries one of two others in every run, by a bit
abbrev pub IsChoice : Net → Bit → Bus → Bus → Bus → Type 0
IsChoice net test x y b =
    (run : Run) → IsRun net run → (t : ℕ) → run.at t b.node ≡ choose_of (run.at t test.node) (run.at t x.node)
    (run.at t y.node)

-- a bus carries the bits of two others in every run, the second below the first
abbrev pub IsJoined : Net → Bus → Bus → Bus → Type 0
IsJoined net x y b =
    (run : Run) → IsRun net run → (t : ℕ) → run.at t b.node ≡ join_of y.width (run.at t x.node) (run.at t y.node)

-- a bus carries some bits of another in every run
abbrev pub IsCut : Net → Bus → ℕ → ℕ → Bus → Type 0
IsCut net x high low b = (run : Run) → IsRun net run → (t : ℕ) → run.at t b.node ≡ cut_of high low (run.at t x.node)

-- a bus carries in every run the word that a memory holds at the address on another
abbrev pub IsWordAt : Net → Store → Bus → Bus → Type 0
IsWordAt net s x b = (run : Run) → IsRun net run → (t : ℕ) → run.at t b.node ≡ run.word t s.node (run.at t x.node)

-- ---- registers and memories

-- the node waits for what drives it
abbrev pub IsOpen : Net → ℕ → Shape → Type 0
IsOpen net n shape = open_at net n ≡ Some shape

-- what the other nodes wait for stays
abbrev pub OthersStay : Net → Net → ℕ → Type 0
OthersStay old new n = (k : ℕ) → k ≢ n → open_at new k ≡ open_at old k

-- the bus carries the word in cycle 1, the first after the reset
abbrev pub StartsAt : Net → Bus → Word → Type 0
StartsAt net b word = (run : Run) → IsRun net run → run.at 1 b.node ≡ word.bits

-- from cycle 2 on the register has what the other bus carried a cycle earlier
abbrev pub Follows : Net → Bus → Bus → Type 0
Follows net b next = (run : Run) → IsRun net run → (t : ℕ) → run.at (suc (suc t)) b.node ≡ run.at (suc t) next.node

-- a register without a reset value carries in cycle 1 what drives it in cycle 0
abbrev pub FollowsFirst : Net → Net → Bus → Bus → Type 0
FollowsFirst old new b next =
    is_free old b.node ≡ true → (run : Run) → IsRun new run → run.at 1 b.node ≡ run.at 0 next.node

-- the memory takes the value at the address at the edge of each cycle in which the bit is 1
abbrev pub Takes : Net → Store → Bit → Bus → Bus → Type 0
Takes net s write address value =
    (run : Run) → IsRun net run → (t k : ℕ)
    → run.word (suc t) s.node k ≡ stored_of (run.at t write.node) (run.at t address.node) (run.at t value.node) k
    (run.word t s.node k)

-- the register bits of a netlist grow by those of one register of this width
abbrev pub AddsRegister : Net → Net → ℕ → Type 0
AddsRegister old new width = register_bits_of new ≡ register_bits_of old + width

-- the memory bits of a netlist grow by those of one memory of this size
abbrev pub AddsMemory : Net → Net → ℕ → ℕ → Type 0
AddsMemory old new address_bits width = memory_bits_of new ≡ memory_bits_of old + 2 ^ address_bits * width

-- ---- ports

-- a port more, behind the others
abbrev pub PutsPort : Net → Net → Direction → List ℕ → ℕ → Type 0
PutsPort old new direction name node =
    new.ports ≡ old.ports ++ record { direction = direction; name = name; node = node } ∷ []

-- ---- the lists inside

-- the node of the port that comes next
abbrev pub PutsInput : List Node → List Node → List Port → ℕ → Type 0
PutsInput old new ports width = new ≡ old ++ Input (length ports) width ∷ []

-- this node is a register that nothing drives yet
abbrev pub IsOpenRegister : List Node → ℕ → Type 0
IsOpenRegister nodes at = (w : ℕ) × (reset : Option ℕ) × (slice_get nodes at ≡ Some (Register w reset None))

-- this node is a memory that nothing writes yet
abbrev pub IsOpenMemory : List Node → ℕ → Type 0
IsOpenMemory nodes at = (a : ℕ) × (w : ℕ) × (slice_get nodes at ≡ Some (Memory a w None))

-- a register gets what drives it, and all other nodes stay
abbrev pub PutsNext : List Node → List Node → ℕ → Bus → Type 0
PutsNext old new at next =
    (w : ℕ) (reset : Option ℕ) → slice_get old at ≡ Some (Register w reset None)
    → new ≡ slice_set old at (Register w reset (Some next))

-- a memory gets what writes it, and all other nodes stay
abbrev pub PutsDrive : List Node → List Node → ℕ → MemoryDrive → Type 0
PutsDrive old new at drive =
    (a w : ℕ) → slice_get old at ≡ Some (Memory a w None) → new ≡ slice_set old at (Memory a w (Some drive))
