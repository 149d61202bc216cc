-- Many registers that are opened together, read by logic, and driven together.
use Rattle.std.specs.Prelude.{◌≡◌, ◌≢◌, ℕ, suc, List, length, map, Some, None, slice_get}
use Rattle.std.specs.List.{sum}
use Rattle.gl_bits.specs.Words.{Word}
use Rattle.gl_net.specs.declared.node.Bus.{Bus}
use Rattle.gl_net.specs.Net.{Net, Run, IsRun, IsBus, Grows, Value, open_at}
use Rattle.gl_wire.specs.Costs.{Costs, nodes_alone}
use Rattle.gl_wire_registers.specs.Held.{with_registers}

-- the widths of words
abbrev pub word_widths : List Word → List ℕ
word_widths ws = map (λ w. w.width) ws

-- the node is none of these
abbrev pub NoneOf : ℕ → List Bus → Type 0
NoneOf n bs = (k : ℕ) (b : Bus) → slice_get bs k ≡ Some b → n ≢ b.node

-- one register more, which nothing drives yet
pub record OpensOne (old new : Net) (w : Word) (b : Bus) : Type 0 where
  pub grows : Grows old new
  pub ports : new.ports ≡ old.ports
  pub name : new.name ≡ old.name
  pub others : (n : ℕ) → n ≢ b.node → open_at new n ≡ open_at old n
  pub undriven : open_at new b.node ≡ Some (Value b.width)
  pub fresh : open_at old b.node ≡ None
  pub bus : IsBus new b
  pub width : b.width ≡ w.width
  pub start : (run : Run) → IsRun new run → run.at 1 b.node ≡ w.bits
  pub cost : Costs old new (with_registers 1 w.width)

-- nothing drives these registers yet, and no two of them are one
pub record AreOpen (net : Net) (bs : List Bus) : Type 0 where
  pub undriven : (k : ℕ) (b : Bus) → slice_get bs k ≡ Some b → open_at net b.node ≡ Some (Value b.width)
  pub apart : (j k : ℕ) (b d : Bus) → slice_get bs j ≡ Some b → slice_get bs k ≡ Some d → b.node ≡ d.node → j ≡ k

-- registers with these reset values, which nothing drives yet
pub record Opens (old new : Net) (resets : List Word) (bs : List Bus) : Type 0 where
  pub grows : Grows old new
  pub ports : new.ports ≡ old.ports
  pub name : new.name ≡ old.name
  pub count : length bs ≡ length resets
  pub others : (n : ℕ) → NoneOf n bs → open_at new n ≡ open_at old n
  pub still : AreOpen new bs
  pub fresh : (k : ℕ) (b : Bus) → slice_get bs k ≡ Some b → open_at old b.node ≡ None
  pub each : (k : ℕ) (b : Bus) → slice_get bs k ≡ Some b → IsBus new b
  pub widths : (k : ℕ) (b : Bus) (w : Word) → slice_get bs k ≡ Some b → slice_get resets k ≡ Some w → b.width ≡ w.width
  pub start : (k : ℕ) (b : Bus) (w : Word) → slice_get bs k ≡ Some b → slice_get resets k ≡ Some w
      → (run : Run) → IsRun new run → run.at 1 b.node ≡ w.bits
  pub cost : Costs old new (with_registers (length resets) (sum (word_widths resets)))

-- these buses can drive the registers: one each, as wide as its register
pub record MayDrive (net : Net) (bs nexts : List Bus) : Type 0 where
  pub count : length nexts ≡ length bs
  pub each : (k : ℕ) (b : Bus) → slice_get nexts k ≡ Some b → IsBus net b
  pub widths : (k : ℕ) (b d : Bus) → slice_get bs k ≡ Some b → slice_get nexts k ≡ Some d → d.width ≡ b.width

-- each register is driven by its bus from now on, and all else stays
pub record DrivesAll (old new : Net) (bs nexts : List Bus) : Type 0 where
  pub grows : Grows old new
  pub ports : new.ports ≡ old.ports
  pub name : new.name ≡ old.name
  pub others : (n : ℕ) → NoneOf n bs → open_at new n ≡ open_at old n
  pub driven : (k : ℕ) (b : Bus) → slice_get bs k ≡ Some b → open_at new b.node ≡ None
  pub value : (k : ℕ) (b d : Bus) → slice_get bs k ≡ Some b → slice_get nexts k ≡ Some d
      → (run : Run) → IsRun new run → (t : ℕ) → run.at (suc (suc t)) b.node ≡ run.at (suc t) d.node
  pub cost : Costs old new (nodes_alone 0)
