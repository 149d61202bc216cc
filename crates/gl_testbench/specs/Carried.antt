-- What each input port carries: found once by its name, and read off the beat of each cycle.
use Rattle.std.specs.Prelude.{ℕ, ◌+◌, Bool, false, List, [], ◌∷◌, Option, None, slice_get, slice_index, unwrap_or, is_some, bytes_eq, if◌then◌else◌}
use Rattle.std.specs.Option.{option_map_or}
use Rattle.gl_bits.specs.Words.{bit}
use Rattle.gl_schema.specs.declared.schema.Column.{Column}
use Rattle.gl_schema.specs.declared.schema.Stream.{Stream}
use Rattle.gl_schema.specs.declared.schema.Schema.{Schema}
use Rattle.gl_schema.specs.Beats.{Beat}
use Rattle.gl_schema.specs.Ports.{rst, eos, tick, in_valid, in_column, in_parameter}
use Rattle.gl_verilog.specs.Module.{Declaration}
use Rattle.gl_testbench.specs.declared.pins.Pin.{Pin}
use Rattle.gl_testbench.specs.declared.pins.Pin.TheVariants as pin_is

-- the first of two that is known
abbrev pub first_known : Pin → Pin → Pin
first_known pin_is.Unknown other = other
first_known p other = p

-- the column of stream k that a port of this name carries, the columns counted from c
abbrev pub column_pin : List ℕ → List ℕ → ℕ → ℕ → List Column → Pin
column_pin name stream k c [] = pin_is.Unknown
column_pin name stream k c (x ∷ xs) =
    if bytes_eq (in_column stream x.name) name then pin_is.Column k c else column_pin name stream k (c + 1) xs

-- what it carries of the streams, counted from k
abbrev pub stream_pin : List ℕ → ℕ → List Stream → Pin
stream_pin name k [] = pin_is.Unknown
stream_pin name k (s ∷ ss) =
    if bytes_eq (in_valid s.name) name then pin_is.Valid k
    else first_known (column_pin name s.name k 0 s.columns) (stream_pin name (k + 1) ss)

-- the parameter that a port of this name carries, the parameters counted from k
abbrev pub parameter_pin : List ℕ → ℕ → List Column → Pin
parameter_pin name k [] = pin_is.Unknown
parameter_pin name k (p ∷ ps) =
    if bytes_eq (in_parameter p.name) name then pin_is.Parameter k else parameter_pin name (k + 1) ps

-- what the input port of a name carries
abbrev pub pin_named : Schema → List ℕ → Pin
pin_named schema name =
    if bytes_eq rst name then pin_is.Reset else first_known (stream_pin name 0 schema.streams)
    (if bytes_eq eos name then pin_is.End else if bytes_eq tick name then pin_is.Tick
    else parameter_pin name 0 schema.parameters)

-- the name of the declaration with this number
abbrev pub name_at : List Declaration → ℕ → List ℕ
name_at ds n = option_map_or (λ d. d.name) (slice_get ds n) []

-- what a beat puts on the port of this number, by the port's name
abbrev pub pin_at : Schema → List Declaration → ℕ → Pin
pin_at schema ds n = pin_named schema (name_at ds n)

-- the row of stream k among these
abbrev pub row_among : List (Option (List ℕ)) → ℕ → Option (List ℕ)
row_among rows k = unwrap_or (slice_get rows k) None

-- what a pin carries, given the reset line, the rows of the streams, whether the end comes, whether a tick does, and
-- the words of the parameters
abbrev pub carried : ℕ → List (Option (List ℕ)) → Bool → Bool → List ℕ → Pin → ℕ
carried reset rows ends ticks sets pin_is.Reset = reset
carried reset rows ends ticks sets (pin_is.Valid k) = bit (is_some (row_among rows k))
carried reset rows ends ticks sets (pin_is.Column k c) = slice_index (unwrap_or (row_among rows k) []) c
carried reset rows ends ticks sets pin_is.End = bit ends
carried reset rows ends ticks sets pin_is.Tick = bit ticks
carried reset rows ends ticks sets (pin_is.Parameter k) = slice_index sets k
carried reset rows ends ticks sets pin_is.Unknown = 0

-- in the cycle of the reset
abbrev pub at_reset : List ℕ → Pin → ℕ
at_reset sets p = carried 1 [] false false sets p

-- in a cycle with this beat, or with none
abbrev pub with_beat : List ℕ → Option Beat → Pin → ℕ
with_beat sets beat p =
    carried 0 (option_map_or (λ b. b.rows) beat []) (option_map_or (λ b. b.end) beat false)
    (option_map_or (λ b. b.tick) beat false) sets p
