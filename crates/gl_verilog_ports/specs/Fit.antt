-- When the ports of a module are those of a schema and of a result, and the first that is not.
use Rattle.std.specs.Prelude.{ℕ, ◌+◌, Bool, true, false, not, ◌&&◌, ◌||◌, List, [], ◌∷◌, find, Option, None, Some, Result, Ok, Err, option_map, unwrap_or, bytes_eq, nat_eq, nat_le, nat_lt, if◌then◌else◌}
use Rattle.gl_schema.specs.declared.schema.Schema.{Schema}
use Rattle.gl_schema.specs.Ports.{rst, eos, tick, out_valid, out_eos, fault_group, fault_queue}
use Rattle.gl_schema.specs.Profile.{ProfilePort, clk, input, input_ports}
use Rattle.gl_verilog.specs.Module.{Module, Declaration}
use Rattle.gl_verilog.specs.Run.{is_input}
use Rattle.gl_verilog_ports.specs.Profile.{is_output, ports_of, shows_column}
use Rattle.gl_verilog_ports.specs.declared.fitting.Ports.{Ports}
use Rattle.gl_verilog_ports.specs.declared.fitting.Misfit.{Misfit}
use Rattle.gl_verilog_ports.specs.declared.fitting.Misfit.TheVariants.{Port, Lacks}

-- the inputs that a module may have: the clock, and those of the schema, the tick and the parameters among them
abbrev pub inputs : Schema → List ProfilePort
inputs schema = input clk 1 ∷ input_ports true schema

-- an input of this name and of so many bits is among these
abbrev pub is_among : List ProfilePort → List ℕ → ℕ → Bool
is_among ports name width =
    unwrap_or (option_map (λ (p : ProfilePort). nat_eq p.width width)
    (find (λ (p : ProfilePort). bytes_eq p.name name) ports)) false

-- an input that the schema has, with the same width, or the clock
abbrev pub is_asked : Schema → Declaration → Bool
is_asked schema d = is_among (inputs schema) d.name d.width

-- whether a name is that of a line: of the result, its end, or a fault
abbrev pub is_line_name : List ℕ → Bool
is_line_name name =
    bytes_eq name out_valid || (bytes_eq name out_eos || (bytes_eq name fault_group || bytes_eq name fault_queue))

-- an output of one bit
abbrev pub is_line : Declaration → Bool
is_line d = is_output d.kind && nat_eq d.width 1

-- whether a port behind so many columns of the result is one that no module may have: an input that is neither the
-- clock nor the schema's, or has other bits; a line that is no output of one bit; a column behind 32 others, or of more
-- than 64 bits
abbrev pub is_bad : Schema → ℕ → Declaration → Bool
is_bad schema columns d =
    (is_input d.kind && not (is_asked schema d))
    || ((is_line_name d.name && not (is_line d)) || (shows_column d && (nat_le 32 columns || nat_lt 64 d.width)))

-- the columns up to a port, it included
abbrev pub with_port : ℕ → Declaration → ℕ
with_port columns d = if shows_column d then columns + 1 else columns

-- the first such port by its number, where the first of these has number n and stands behind so many columns
abbrev pub first_bad : Schema → ℕ → ℕ → List Declaration → Option ℕ
first_bad schema n columns [] = None
first_bad schema n columns (d ∷ ds) =
    if is_bad schema columns d then Some n else first_bad schema (n + 1) (with_port columns d) ds

-- the place of the input of a name among the ports
abbrev pub input_at : List Declaration → List ℕ → Option ℕ
input_at [] name = None
input_at (d ∷ ds) name =
    if is_input d.kind && bytes_eq d.name name then Some 0 else option_map (λ n. n + 1) (input_at ds name)

-- the place of the output of a name among the ports
abbrev pub output_at : List Declaration → List ℕ → Option ℕ
output_at [] name = None
output_at (d ∷ ds) name =
    if is_output d.kind && bytes_eq d.name name then Some 0 else option_map (λ n. n + 1) (output_at ds name)

-- the ports, where the clock and the lines of the result and of its end are there
abbrev pub with_needed : Option ℕ → Option ℕ → Option ℕ → Option ℕ → Option ℕ → Option ℕ → Option ℕ → Option ℕ
    → Result Ports Misfit
with_needed (Some c) (Some v) (Some e) reset input_end ticks group queue = Ok (record {
  clock = c;
  reset = reset;
  input_end = input_end;
  tick = ticks;
  valid = v;
  end = e;
  group = group;
  queue = queue;
})
with_needed (Some c) (Some v) None reset input_end ticks group queue = Err Lacks
with_needed (Some c) None e reset input_end ticks group queue = Err Lacks
with_needed None v e reset input_end ticks group queue = Err Lacks

-- the ports of a schema and a result as places, or that one that must be there is lacking
abbrev pub found_in : List Declaration → Result Ports Misfit
found_in ports =
    with_needed (input_at ports clk) (output_at ports out_valid) (output_at ports out_eos)
    (input_at ports rst) (input_at ports eos) (input_at ports tick) (output_at ports fault_group) (output_at ports fault_queue)

-- the first bad port; else the ports, or that one is lacking
abbrev pub unless_bad : Option ℕ → Result Ports Misfit → Result Ports Misfit
unless_bad (Some n) found = Err (Port n)
unless_bad None found = found

-- where the ports of a module are, or the first that does not fit the schema
abbrev pub fit_of : Module → Schema → Result Ports Misfit
fit_of m schema = unless_bad (first_bad schema 0 0 (ports_of m)) (found_in (ports_of m))
