-- When the ports of a module are those of a schema and of a result.
use Rattle.std.specs.Prelude.{◌≡◌, ◌==◌, ℕ, ◌∷◌, Bool, true, false, not, ◌&&◌, ◌≤◌, List, map, filter, find, length, take, Option, Some, option_map, codes, bytes_eq, slice_get, IfSome}
use Rattle.std.specs.List.{AllByRecursion}
use Rattle.gl_schema.specs.declared.schema.Column.{Column}
use Rattle.gl_schema.specs.declared.schema.Schema.{Schema}
use Rattle.gl_schema.specs.Ports.{out_valid, out_eos, fault_group, fault_queue}
use Rattle.gl_schema.specs.Profile.{Direction, In, Out, ProfilePort, clk, input, input_ports, profile}
use Rattle.gl_verilog.specs.Module.{Module, Declaration, Kind, Input, OutputWire, OutputRegister}
use Rattle.gl_verilog.specs.Run.{is_input}
use Rattle.gl_verilog.specs.Widths.{is_clock}

-- the bits of the input port of a name; None where the schema asks for no such port
abbrev pub input_width : Schema → List ℕ → Option ℕ
input_width schema name = option_map (λ p. p.width) (find (λ p. bytes_eq p.name name) (input_ports true schema))

-- the declarations of a module's ports, in their order
abbrev pub ports_of : Module → List Declaration
ports_of m = take m.ports m.declarations

-- a declaration is an output, driven by an assignment or a register
abbrev pub is_output : Kind → Bool
is_output OutputWire = true
is_output OutputRegister = true
is_output _ = false

-- the port shows a column of the result: an output whose name begins with `out__`, other than valid and the end
abbrev pub shows_column : Declaration → Bool
shows_column d =
    is_output d.kind && bytes_eq (take 5 d.name) (codes "out__") && not (bytes_eq d.name out_valid) && not
    (bytes_eq d.name out_eos)

-- the columns of the result, in the order of the ports
abbrev pub result_ports : Module → List Declaration
result_ports m = filter shows_column (ports_of m)

-- the names of the ports that show the columns of a result
abbrev pub result_names : Module → List (List ℕ)
result_names m = map (λ (d : Declaration). d.name) (result_ports m)

-- the widths of the ports that show the columns of a result
abbrev pub result_widths : Module → List ℕ
result_widths m = map (λ (d : Declaration). d.width) (result_ports m)

-- an output of one bit
pub record IsLine (d : Declaration) : Type 0 where
  pub output : is_output d.kind ≡ true
  pub bit : d.width ≡ 1

-- the declaration of a port by its name
abbrev pub port_named : Module → List ℕ → Option Declaration
port_named m name = find (λ (d : Declaration). bytes_eq d.name name) (ports_of m)

-- the module has a line of this name
pub record HasLine (m : Module) (name : List ℕ) : Type 0 where
  pub port : Declaration
  pub there : port_named m name ≡ Some port
  pub line : IsLine port

-- the module has an input of one bit that is called `clk`
pub record HasClock (m : Module) : Type 0 where
  pub port : Declaration
  pub there : port_named m clk ≡ Some port
  pub input : port.kind ≡ Input
  pub bit : port.width ≡ 1

-- the clock is there, and every other input is one of the schema's, with its bits; the result's lines are there, and a
-- fault line where it is there is a line; at most 32 columns of at most 64 bits
pub record FitsSchema (m : Module) (schema : Schema) : Type 0 where
  pub clock : HasClock m
  pub inputs : (n : ℕ) (d : Declaration) → slice_get m.declarations n ≡ Some d → d.kind ≡ Input → is_clock d ≡ false
      → input_width schema d.name ≡ Some d.width
  pub valid : HasLine m out_valid
  pub end : HasLine m out_eos
  pub group : IfSome (port_named m fault_group) IsLine
  pub queue : IfSome (port_named m fault_queue) IsLine
  pub many : length (result_ports m) ≤ 32
  pub narrow : AllByRecursion (λ width. width ≤ 64) (result_widths m)

-- each input of the module stands among its ports
abbrev pub HasInputPorts : Module → Type 0
HasInputPorts m =
    (n : ℕ) (d : Declaration) → slice_get m.declarations n ≡ Some d → is_input d.kind ≡ true
    → slice_get (ports_of m) n ≡ Some d

-- each input of the module is the clock
abbrev pub HasOnlyClock : Module → Type 0
HasOnlyClock m =
    (n : ℕ) (d : Declaration) → slice_get m.declarations n ≡ Some d → is_input d.kind ≡ true → is_clock d ≡ true

-- ---- the whole profile

-- how a port of the profile is declared: an input, or an output that is a wire; one of a single bit is no vector
abbrev pub declared_kind : Direction → Kind
declared_kind In = Input
declared_kind Out = OutputWire

-- the declaration that a port of the profile has in a module
abbrev pub declared : ProfilePort → Declaration
declared p = record { name = p.name; width = p.width; is_vector = not (p.width == 1); kind = declared_kind p.direction }

-- the ports of the module are, in this order, the clock and the profile of this schema, with the tick where it is asked
-- for, and of a result with these columns
abbrev pub HasProfile : Bool → Module → Schema → List Column → Type 0
HasProfile ticks m schema columns = ports_of m ≡ map declared (input clk 1 ∷ profile ticks schema columns)
