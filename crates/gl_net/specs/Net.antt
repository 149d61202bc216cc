-- Netlists, and the runs that they allow: one clock, one value for each node in each cycle.
-- After the two-phase view of synchronous logic: within a cycle every node follows from its operands, and registers and
-- memories change together at the edge that ends the cycle (IEEE 1364-2005, clauses 5, 6 and 9).
use Rattle.std.specs.Prelude.{◌≡◌, ℕ, suc, ◌+◌, ◌-◌, ◌*◌, ◌^◌, ◌<◌, ◌≤◌, List, [], ◌∷◌, Option, Some, None, Bool, true, false, if◌then◌else◌, ◌&&◌, ◌==◌, nat_eq, filter, bit_and, bit_or, bit_xor, slice_get, option_and_then, codes, count_by, sum_by}
use Rattle.std.specs.Option.{option_map, option_map_or}
use Rattle.gl_bits.specs.Words.{IsWidth, sum_of, difference_of, product_of, not_of, eq_of, lt_of, le_of, join_of, cut_of, choose_of}
use Rattle.gl_net.specs.declared.node.BinaryOp.{BinaryOp}
use Rattle.gl_net.specs.declared.node.BinaryOp.TheVariants.{Add, Sub, Mul, And, Xor, Or, Eq, Ne, Lt, Le}
use Rattle.gl_net.specs.declared.node.Node.{Node}
use Rattle.gl_net.specs.declared.node.Node.TheVariants.{Input, Constant, Not, Binary, Choose, Join, Cut, Register, Memory, MemoryRead}
use Rattle.gl_net.specs.declared.node.Bus.{Bus}
use Rattle.gl_net.specs.declared.node.Bit.{Bit}
use Rattle.gl_net.specs.declared.node.Store.{Store}
use Rattle.gl_net.specs.declared.node.Port.{Port}
use Rattle.gl_net.specs.declared.node.Direction.{Direction}
use Rattle.gl_net.specs.declared.node.Direction.TheVariants.{In, Out}

-- a netlist: its nodes, its ports in their order, and the name of its module
pub record Net : Type 0 where
  pub nodes : List Node
  pub ports : List Port
  pub name : Option (List ℕ)

-- a run: what each node carries in each cycle, the word at each address of each memory in each cycle, the reset line,
-- and the words of the inputs that carry one in all cycles
pub record Run : Type 0 where
  pub at : ℕ → ℕ → ℕ
  pub word : ℕ → ℕ → ℕ → ℕ
  pub rst : ℕ → Bool
  pub held : ℕ → ℕ

-- what a node is to those that read it: a value, or the words of a memory
pub data Shape : Type 0 where
  Value : (width : ℕ) → Shape
  Words : (address_bits width : ℕ) → Shape

-- what an operation gives for two numbers of one width
abbrev pub binary_of : BinaryOp → ℕ → ℕ → ℕ → ℕ
binary_of Add w x y = sum_of w x y
binary_of Sub w x y = difference_of w x y
binary_of Mul w x y = product_of w x y
binary_of And w x y = bit_and x y
binary_of Xor w x y = bit_xor x y
binary_of Or w x y = bit_or x y
binary_of Eq w x y = eq_of x y
binary_of Ne w x y = not_of 1 (eq_of x y)
binary_of Lt w x y = lt_of x y
binary_of Le w x y = le_of x y

-- the width of what an operation gives
abbrev pub binary_width : BinaryOp → ℕ → ℕ
binary_width Add w = w
binary_width Sub w = w
binary_width Mul w = w
binary_width And w = w
binary_width Xor w = w
binary_width Or w = w
binary_width Eq w = 1
binary_width Ne w = 1
binary_width Lt w = 1
binary_width Le w = 1

-- how many bits a node carries, or how many words of how many bits it keeps
abbrev pub shape_of : Node → Shape
shape_of (Input port w) = Value w
shape_of (Constant word) = Value word.width
shape_of (Not x) = Value x.width
shape_of (Binary op x y) = Value (binary_width op x.width)
shape_of (Choose test x y) = Value x.width
shape_of (Join x y) = Value (x.width + y.width)
shape_of (Cut x high low) = Value (high + 1 - low)
shape_of (Register w reset next) = Value w
shape_of (Memory bits w drive) = Words bits w
shape_of (MemoryRead store x) = Value store.width

-- the word at an address after an edge
unfoldable pub stored_of : (write address value k word : ℕ) → ℕ
stored_of write address value k word = if nat_eq write 1 && nat_eq address k then value else word

-- what a node says of the cycles of a run; a register that is not driven yet says what its reset gives, and a memory
-- nothing
abbrev pub Holds : Run → ℕ → Node → Type 0
Holds run n (Input port w) = Unit {0}
Holds run n (Constant word) = (t : ℕ) → run.at t n ≡ word.bits
Holds run n (Not x) = (t : ℕ) → run.at t n ≡ not_of x.width (run.at t x.node)
Holds run n (Binary op x y) = (t : ℕ) → run.at t n ≡ binary_of op x.width (run.at t x.node) (run.at t y.node)
Holds run n (Choose test x y) =
    (t : ℕ) → run.at t n ≡ choose_of (run.at t test.node) (run.at t x.node) (run.at t y.node)
Holds run n (Join x y) = (t : ℕ) → run.at t n ≡ join_of y.width (run.at t x.node) (run.at t y.node)
Holds run n (Cut x high low) = (t : ℕ) → run.at t n ≡ cut_of high low (run.at t x.node)
Holds run n (Register w None None) = Unit {0}
Holds run n (Register w None (Some next)) = (t : ℕ) → run.at (suc t) n ≡ run.at t next.node
Holds run n (Register w (Some reset) None) = (t : ℕ) → run.rst t ≡ true → run.at (suc t) n ≡ reset
Holds run n (Register w (Some reset) (Some next)) =
    (t : ℕ) → run.at (suc t) n ≡ (if run.rst t then reset else run.at t next.node)
Holds run n (Memory bits w None) = Unit {0}
Holds run n (Memory bits w (Some drive)) =
    (t k : ℕ) → run.word (suc t) n k ≡ stored_of (run.at t drive.write.node) (run.at t drive.address.node)
    (run.at t drive.value.node) k (run.word t n k)
Holds run n (MemoryRead store x) = (t : ℕ) → run.at t n ≡ run.word t store.node (run.at t x.node)

-- a value, and each word of a memory, is below 2 ^ width
abbrev pub Fits : Run → ℕ → Shape → Type 0
Fits run n (Value w) = (t : ℕ) → run.at t n < 2 ^ w
Fits run n (Words bits w) = (t k : ℕ) → run.word t n k < 2 ^ w

-- the name of the reset port
abbrev pub reset_name : List ℕ
reset_name = codes "rst"

-- the netlist has a port of this direction and name at the node
pub record IsPort (net : Net) (direction : Direction) (name : List ℕ) (node : ℕ) : Type 0 where
  pub place : ℕ
  pub there : slice_get net.ports place ≡ Some (record { direction = direction; name = name; node = node })

-- the run obeys every node, and its reset line is 1 exactly where the input `rst` is 1
pub record IsTrace (net : Net) (run : Run) : Type 0 where
  pub fits : (n : ℕ) (x : Node) → slice_get net.nodes n ≡ Some x → Fits run n (shape_of x)
  pub holds : (n : ℕ) (x : Node) → slice_get net.nodes n ≡ Some x → Holds run n x
  pub line : (n : ℕ) → IsPort net In reset_name n → (t : ℕ) → run.rst t ≡ nat_eq (run.at t n) 1

-- cycle 0 is reset, and no later cycle is
pub record IsReset (run : Run) : Type 0 where
  pub first : run.rst 0 ≡ true
  pub later : (t : ℕ) → run.rst (suc t) ≡ false

-- a direction that leads into the netlist
abbrev pub is_inward : Direction → Bool
is_inward In = true
is_inward Out = false

-- a name begins with these bytes
abbrev pub begins_with : List ℕ → List ℕ → Bool
begins_with [] name = true
begins_with (b ∷ front) [] = false
begins_with (b ∷ front) (c ∷ name) = (b == c) && begins_with front name

-- an input port whose name begins with `set__`
unfoldable pub is_held : Port → Bool
is_held p = is_inward p.direction && begins_with (codes "set__") p.name

-- these ports, in their order
abbrev pub held_ports : List Port → List Port
held_ports ports = filter is_held ports

-- each of them carries one word in all cycles
pub record IsHeld (net : Net) (run : Run) : Type 0 where
  pub each : (k : ℕ) (p : Port) → slice_get (held_ports net.ports) k ≡ Some p → (t : ℕ) → run.at t p.node ≡ run.held k

-- a run that begins with reset, and holds what is to be held
pub record IsRun (net : Net) (run : Run) : Type 0 where
  pub trace : IsTrace net run
  pub reset : IsReset run
  pub held : IsHeld net run

-- the shape of the node with this number
unfoldable pub shape_in : List Node → ℕ → Option Shape
shape_in nodes n = option_map shape_of (slice_get nodes n)

-- what a register or a memory waits for that is not driven yet: a value of its width, or words
abbrev pub open_shape : Node → Option Shape
open_shape (Register w reset None) = Some (Value w)
open_shape (Memory bits w None) = Some (Words bits w)
open_shape _ = None

-- the shape of a node that waits for what drives it; none for any other node
unfoldable pub open_in : List Node → ℕ → Option Shape
open_in nodes n = option_and_then open_shape (slice_get nodes n)

-- the shape of a netlist's node that waits for what drives it; none for any other node
abbrev pub open_at : Net → ℕ → Option Shape
open_at net n = open_in net.nodes n

-- addresses have 1 to 32 bits
pub record IsAddressWidth (bits : ℕ) : Type 0 where
  pub some' : 1 ≤ bits
  pub most : bits ≤ 32

-- the bus is a node of the netlist that carries a value of its width
pub record IsBus (net : Net) (b : Bus) : Type 0 where
  pub there : shape_in net.nodes b.node ≡ Some (Value b.width)
  pub width : IsWidth b.width

-- the bit is a node of the netlist that carries one bit
pub record IsBit (net : Net) (b : Bit) : Type 0 where
  pub there : shape_in net.nodes b.node ≡ Some (Value 1)

-- the store is a memory of the netlist, with its widths
pub record IsStore (net : Net) (s : Store) : Type 0 where
  pub there : shape_in net.nodes s.node ≡ Some (Words s.address_bits s.width)
  pub bits : IsAddressWidth s.address_bits
  pub width : IsWidth s.width

-- what stays wherever nodes, drives, ports or a name are added: every run is one of the old netlist, so no earlier
-- value changes
pub record Grows (old new : Net) : Type 0 where
  pub runs : (run : Run) → IsRun new run → IsRun old run
  pub shapes : (n : ℕ) (shape : Shape) → shape_in old.nodes n ≡ Some shape → shape_in new.nodes n ≡ Some shape

-- what stays where a block is added that drives exactly the registers and memories that it makes
pub record Keeps (old new : Net) : Type 0 where
  pub runs : (run : Run) → IsRun new run → IsRun old run
  pub shapes : (n : ℕ) (shape : Shape) → shape_in old.nodes n ≡ Some shape → shape_in new.nodes n ≡ Some shape
  pub undriven : (n : ℕ) → open_at new n ≡ open_at old n
  pub ports : new.ports ≡ old.ports
  pub name : new.name ≡ old.name

-- the node is a register without a reset value
abbrev pub has_no_reset : Node → Bool
has_no_reset (Register w None next) = true
has_no_reset _ = false

-- a node is a register without a reset value
unfoldable pub is_free : Net → ℕ → Bool
is_free net n = option_map_or has_no_reset (slice_get net.nodes n) false

-- the nodes apart from the input ports
abbrev pub is_inner : Node → Bool
is_inner (Input port w) = false
is_inner _ = true

-- how many nodes a netlist has, input ports left out
unfoldable pub size_of : Net → ℕ
size_of net = count_by is_inner net.nodes

-- the bits that a register holds, 0 for any other node
abbrev pub register_bits : Node → ℕ
register_bits (Register w reset next) = w
register_bits _ = 0

-- the bits that a memory holds, 0 for any other node
abbrev pub memory_bits : Node → ℕ
memory_bits (Memory bits w drive) = 2 ^ bits * w
memory_bits _ = 0

-- the bits of all registers of a netlist
unfoldable pub register_bits_of : Net → ℕ
register_bits_of net = sum_by register_bits net.nodes

-- the bits of all memories of a netlist
unfoldable pub memory_bits_of : Net → ℕ
memory_bits_of net = sum_by memory_bits net.nodes
