-- Laws of what stays where blocks are appended.
use Rattle.std.specs.Prelude.{◌≡◌, ℕ, Option, Some, None, slice_get}
use Rattle.gl_net.specs.declared.node.Node.{Node}
use Rattle.gl_net.specs.declared.node.Node.TheVariants.{Input, Register, Memory}
use Rattle.gl_net.specs.declared.node.MemoryDrive.{MemoryDrive}
use Rattle.gl_net.specs.declared.node.Bus.{Bus}
use Rattle.gl_net.specs.Net.{Net, Run, Shape, Value, Words, shape_of, IsRun, Keeps}
use Rattle.gl_net.specs.WellFormed.{IsWellFormed}

-- what two blocks keep, both keep together
abbrev pub KeepsCompose : Type 0
KeepsCompose = (a b c : Net) → Keeps a b → Keeps b c → Keeps a c

-- two runs have the same value, or the same words, at a node in a cycle
abbrev pub Same : Run → Run → ℕ → ℕ → Shape → Type 0
Same r s t n (Value w) = r.at t n ≡ s.at t n
Same r s t n (Words bits w) = (k : ℕ) → r.word t n k ≡ s.word t n k

-- two runs have the same inputs, reset line and start, and the same values of what is not driven yet
pub record SameOutside (net : Net) (r s : Run) : Type 0 where
  pub line : (t : ℕ) → r.rst t ≡ s.rst t
  pub inputs : (n place w : ℕ) → slice_get net.nodes n ≡ Some (Input place w) → (t : ℕ) → r.at t n ≡ s.at t n
  pub registers : (n w : ℕ) (reset : Option ℕ) (next : Option Bus)
      → slice_get net.nodes n ≡ Some (Register w reset next) → r.at 0 n ≡ s.at 0 n
  pub memories : (n bits w : ℕ) (drive : Option MemoryDrive) → slice_get net.nodes n ≡ Some (Memory bits w drive)
      → (k : ℕ) → r.word 0 n k ≡ s.word 0 n k
  pub open_registers : (n w : ℕ) (reset : Option ℕ) → slice_get net.nodes n ≡ Some (Register w reset None) → (t : ℕ)
      → r.at t n ≡ s.at t n
  pub open_memories : (n bits w : ℕ) → slice_get net.nodes n ≡ Some (Memory bits w None) → (t k : ℕ)
      → r.word t n k ≡ s.word t n k

-- a run of the netlist with the block and one of the netlist without it have the same values at the nodes of the latter
abbrev pub EarlierValuesStay : Type 0
EarlierValuesStay =
    (old new : Net) → IsWellFormed old → Keeps old new → (r s : Run) → IsRun new r → IsRun old s → SameOutside old r s
    → (t n : ℕ) (x : Node) → slice_get old.nodes n ≡ Some x → Same r s t n (shape_of x)
