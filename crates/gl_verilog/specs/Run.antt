-- The runs of a module, cycle by cycle. After the scheduling of IEEE 1364-2005, clause 11: assignments settle, then at
-- the clock's rising edge all nonblocking updates happen at once.
use Rattle.std.specs.Prelude.{◌≡◌, ℕ, ◌+◌, ◌^◌, ◌<◌, Bool, true, false, List, Option, None, Some, slice_get, take, unwrap_or, if◌then◌else◌}
use Rattle.std.specs.Option.{option_and_then, option_map, option_map_or}
use Rattle.std.specs.List.{AllByRecursion}
use Rattle.gl_verilog.specs.Module.{Module, Declaration, Assignment, Kind, Input, OutputRegister, Register, Nets, Memories, value_of, assigned_by, written_by, number_of}

-- a kind that keeps its value until a block assigns it
abbrev pub IsRegister : Kind → Type 0
IsRegister OutputRegister = Unit {0}
IsRegister Register = Unit {0}
IsRegister _ = ⊥

-- every assigned net has the value of its expression
abbrev pub IsSettled : List Assignment → Nets → Memories → Type 0
IsSettled assignments v m = AllByRecursion (λ a. v a.target ≡ value_of v m a.value) assignments

-- each net, and each word of a memory, is below 2 ^ its width
abbrev pub Fit : List Declaration → Nets → Memories → Type 0
Fit declarations v m =
    (n : ℕ) (d : Declaration) → slice_get declarations n ≡ Some d → (v n < 2 ^ d.width)
    × ((at : ℕ) → m n at < 2 ^ d.width)

-- `value t` is what the nets hold in cycle t, `word t` what the memories hold; the start and the inputs are arbitrary
pub record IsRun (m : Module) (value : ℕ → Nets) (word : ℕ → Memories) : Type 0 where
  pub settled : (t : ℕ) → IsSettled m.assignments (value t) (word t)
  pub registers : (t n : ℕ) (d : Declaration) → slice_get m.declarations n ≡ Some d → IsRegister d.kind
      → value (t + 1) n ≡ unwrap_or (assigned_by (value t) (word t) m.blocks n) (value t n)
  pub memories : (t k at : ℕ) → word (t + 1) k at ≡ unwrap_or (written_by (value t) (word t) m.blocks k at)
      (word t k at)
  pub fits : (t : ℕ) → Fit m.declarations (value t) (word t)

-- the value of a port by its name in a cycle; None where the module has no such port
abbrev pub port_of : Module → (ℕ → Nets) → ℕ → List ℕ → Option ℕ
port_of m value t name = option_map (value t) (number_of (take m.ports m.declarations) name)

-- a declaration is an input port
abbrev pub is_input : Kind → Bool
is_input Input = true
is_input _ = false

-- whether the declaration with this number is that of an input port
abbrev pub is_input_at : List Declaration → ℕ → Bool
is_input_at ds n = option_map_or (λ d. is_input d.kind) (slice_get ds n) false

-- the number of the input port of a name; None where the module has no input port of that name
abbrev pub input_number : Module → List ℕ → Option ℕ
input_number m name =
    option_and_then (λ n. if is_input_at m.declarations n then Some n else None)
    (number_of (take m.ports m.declarations) name)

-- the value of an input port by its name in a cycle; None where the module has no input port of that name
abbrev pub input_values : Module → (ℕ → Nets) → ℕ → List ℕ → Option ℕ
input_values m value t name = option_map (value t) (input_number m name)
