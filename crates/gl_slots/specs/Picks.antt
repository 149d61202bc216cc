-- Of buses the one whose line is 1.
use Rattle.std.specs.Prelude.{◌≡◌, ℕ, suc, ◌<◌, List, length, Some, true, false, slice_get, if◌then◌else◌, bit_or}
use Rattle.gl_net.specs.declared.node.Bus.{Bus}
use Rattle.gl_net.specs.declared.node.Bit.{Bit}
use Rattle.gl_net.specs.Net.{Net, Run, IsRun, IsBus, Keeps}
use Rattle.gl_wire.specs.Costs.{Costs, nodes_alone}
use Rattle.gl_wire.specs.Wire.{line_at}
use Rattle.gl_wire_registers.specs.Held.{held_at}
use Rattle.gl_wire_registers.specs.Lines.{held_of, line_of}
use Rattle.gl_wire_registers.specs.Numbers.{bits_below}

-- the bits of a slot's number: the least, and at least one
abbrev pub bits_of_slots : ℕ → ℕ
bits_of_slots = bits_below

-- buses of this width are in the netlist
pub record AreAlike (net : Net) (width : ℕ) (bs : List Bus) : Type 0 where
  pub each : (k : ℕ) (b : Bus) → slice_get bs k ≡ Some b → IsBus net b
  pub widths : (k : ℕ) (b : Bus) → slice_get bs k ≡ Some b → b.width ≡ width

-- a bus that carries 0 in each cycle
abbrev pub CarriesZero : Net → Bus → Type 0
CarriesZero net b = (run : Run) → IsRun net run → (t : ℕ) → held_at 0 run b t ≡ 0

-- a bus where its line is 1, and else 0
pub record Masks (old new : Net) (line : Bit) (bus b : Bus) : Type 0 where
  pub keeps : Keeps old new
  pub there : IsBus new b
  pub same_width : b.width ≡ bus.width
  pub cost : Costs old new (nodes_alone 1)
  pub value : (run : Run) → IsRun new run → (t : ℕ)
      → held_at 0 run b t ≡ (if line_at run line t then held_at 0 run bus t else 0)

-- the bits of two buses together
pub record Merges (old new : Net) (left right b : Bus) : Type 0 where
  pub keeps : Keeps old new
  pub bus : IsBus new b
  pub same_width : b.width ≡ left.width
  pub cost : Costs old new (nodes_alone 1)
  pub value : (run : Run) → IsRun new run → (t : ℕ)
      → held_at 0 run b t ≡ bit_or (held_at 0 run left t) (held_at 0 run right t)

-- a number that is 0 where no line is 1, and where one alone is, what its bus carries
pub record IsPicked (run : Run) (lines : List Bit) (buses : List Bus) (t value : ℕ) : Type 0 where
  pub none : ((k : ℕ) → k < length lines → line_of run lines k t ≡ false) → value ≡ 0
  pub one : (k : ℕ) → k < length lines → line_of run lines k t ≡ true
      → ((j : ℕ) → j < length lines → line_of run lines j t ≡ true → j ≡ k) → value ≡ held_of run buses k t

-- one of many
pub record PicksOne (old new : Net) (lines : List Bit) (buses : List Bus) (width price : ℕ) (b : Bus) : Type 0 where
  pub keeps : Keeps old new
  pub bus : IsBus new b
  pub same_width : b.width ≡ width
  pub cost : Costs old new (nodes_alone price)
  pub law : (run : Run) → IsRun new run → (t : ℕ) → IsPicked run lines buses t (held_at 0 run b t)

-- a bus that carries a number
pub record IsNumber (old new : Net) (number width : ℕ) (b : Bus) : Type 0 where
  pub keeps : Keeps old new
  pub bus : IsBus new b
  pub same_width : b.width ≡ width
  pub cost : Costs old new (nodes_alone 1)
  pub value : (run : Run) → IsRun new run → (t : ℕ) → held_at 0 run b (suc t) ≡ number

-- for each of n places its number, by a rule
pub record AddsNumbers (old new : Net) (of : ℕ → ℕ) (n width : ℕ) (bs : List Bus) : Type 0 where
  pub keeps : Keeps old new
  pub count : length bs ≡ n
  pub alike : AreAlike new width bs
  pub cost : Costs old new (nodes_alone n)
  pub value : (run : Run) → IsRun new run → (k t : ℕ) → k < n → held_of run bs k (suc t) ≡ of k
