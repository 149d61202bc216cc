-- What a netlist needs to be finished: names of the Verilog subset, one for each port, and a drive for all that takes
-- one. Names after IEEE 1364-2005, clause 3.7 (simple identifiers), without the keywords that the subset uses (annex
-- B).
use Rattle.std.specs.Prelude.{◌≡◌, ◌≢◌, ℕ, ◌≤◌, Bool, true, false, ◌||◌, ◌&&◌, List, [], ◌∷◌, length, Some, None, slice_get, nat_eq, nat_le, codes, IsTrue, IsSomeAnd}
use Rattle.std.specs.List.{list_any, list_all}
use Rattle.std.specs.Str.{bytes_eq}
use Rattle.gl_net.specs.declared.node.Node.{Node}
use Rattle.gl_net.specs.declared.node.Node.TheVariants.{Register}
use Rattle.gl_net.specs.declared.node.Port.{Port}
use Rattle.gl_net.specs.declared.node.Direction.TheVariants.{In}
use Rattle.gl_net.specs.Net.{Net, Value, shape_in, open_at, IsPort, reset_name}
use Rattle.gl_net.specs.WellFormed.{IsWellFormed}

-- A to Z, a to z and _
abbrev pub is_letter : ℕ → Bool
is_letter c = (nat_le 65 c && nat_le c 90) || (nat_le 97 c && nat_le c 122) || nat_eq c 95

-- a decimal digit in ASCII
abbrev pub is_digit : ℕ → Bool
is_digit c = nat_le 48 c && nat_le c 57

-- the first byte of a name is a letter
abbrev pub begins_with_letter : List ℕ → Bool
begins_with_letter [] = false
begins_with_letter (c ∷ cs) = is_letter c

-- the keywords of the Verilog subset
abbrev pub keywords : List (List ℕ)
keywords =
    codes "module" ∷ codes "endmodule" ∷ codes "input" ∷ codes "output" ∷ codes "wire" ∷ codes "reg" ∷ codes "assign"
    ∷ codes "always"
    ∷ codes "posedge" ∷ codes "begin" ∷ codes "end" ∷ codes "if" ∷ codes "else" ∷ []

-- a letter, and then letters and digits, at most 128 in all, that are no keyword
pub record IsName (name : List ℕ) : Type 0 where
  pub first : IsTrue (begins_with_letter name)
  pub each : IsTrue (list_all (λ c. is_letter c || is_digit c) name)
  pub short : length name ≤ 128
  pub free : list_any (bytes_eq name) keywords ≡ false

-- the clock, which the written module has as its first port
abbrev pub clock_name : List ℕ
clock_name = codes "clk"

-- some register has a reset value
abbrev pub has_reset_value : Node → Bool
has_reset_value (Register w (Some value) next) = true
has_reset_value _ = false

-- some register takes its first value from a reset
unfoldable pub needs_reset : Net → Bool
needs_reset net = list_any has_reset_value net.nodes

-- an input `rst` of one bit
pub record HasReset (net : Net) : Type 0 where
  pub node : ℕ
  pub port : IsPort net In reset_name node
  pub bit : shape_in net.nodes node ≡ Some (Value 1)

-- a netlist that can be written: nothing is left undriven, and names are allowed, distinct and none the clock's
pub record IsFinished (net : Net) : Type 0 where
  pub driven : (n : ℕ) → open_at net n ≡ None
  pub module_name : IsSomeAnd net.name IsName
  pub port_names : (place : ℕ) (p : Port) → slice_get net.ports place ≡ Some p → IsName p.name
  pub no_clock : (place : ℕ) (p : Port) → slice_get net.ports place ≡ Some p → p.name ≢ clock_name
  pub distinct : (i j : ℕ) (p q : Port) → slice_get net.ports i ≡ Some p → slice_get net.ports j ≡ Some q
      → p.name ≡ q.name → i ≡ j
  pub reset : needs_reset net ≡ true → HasReset net

-- a finished netlist
pub record IsNetlist (net : Net) : Type 0 where
  pub formed : IsWellFormed net
  pub finished : IsFinished net
