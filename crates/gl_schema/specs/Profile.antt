-- The profile: the ports by which a module takes the beats of a schema and shows a result, in order, the clock aside.
use Rattle.std.specs.Prelude.{ℕ, ◌<◌, ◌^◌, Bool, true, false, List, [], ◌∷◌, ◌++◌, map, codes}
use Rattle.gl_values.specs.Kinds.{width_of}
use Rattle.gl_schema.specs.declared.schema.Column.{Column}
use Rattle.gl_schema.specs.declared.schema.Stream.{Stream}
use Rattle.gl_schema.specs.declared.schema.Schema.{Schema}
use Rattle.gl_schema.specs.Ports.{rst, eos, tick, in_valid, in_column, in_parameter, out_valid, out_column, out_eos, fault_group, fault_queue, Pin}

-- the name of the clock
unfoldable pub clk : List ℕ
clk = codes "clk"

-- which way a port goes
pub data Direction : Type 0 where
  In : Direction
  Out : Direction

-- a port, and its bits
pub record ProfilePort : Type 0 where
  pub direction : Direction
  pub name : List ℕ
  pub width : ℕ

-- an input port of this name and width
abbrev pub input : List ℕ → ℕ → ProfilePort
input name width = record { direction = In; name = name; width = width }

-- an output port of this name and width
abbrev pub output : List ℕ → ℕ → ProfilePort
output name width = record { direction = Out; name = name; width = width }

-- the input ports of a stream's columns
abbrev pub column_inputs : List ℕ → List Column → List ProfilePort
column_inputs stream [] = []
column_inputs stream (c ∷ cs) = input (in_column stream c.name) (width_of c.kind) ∷ column_inputs stream cs

-- the input ports of a stream: whether a tuple comes, and its columns
abbrev pub stream_inputs : Stream → List ProfilePort
stream_inputs s = input (in_valid s.name) 1 ∷ column_inputs s.name s.columns

-- the input ports of all streams, in the order of the schema
abbrev pub streams_inputs : List Stream → List ProfilePort
streams_inputs [] = []
streams_inputs (s ∷ ss) = stream_inputs s ++ streams_inputs ss

-- the tick, where it is asked for
abbrev pub tick_input : Bool → List ProfilePort
tick_input true = input tick 1 ∷ []
tick_input false = []

-- the input ports of parameters, in the order of the schema
abbrev pub parameter_inputs : List Column → List ProfilePort
parameter_inputs [] = []
parameter_inputs (p ∷ ps) = input (in_parameter p.name) (width_of p.kind) ∷ parameter_inputs ps

-- the inputs behind those of the streams: the end, the tick where it is asked for, and the parameters
abbrev pub last_inputs : Bool → Schema → List ProfilePort
last_inputs ticks schema = input eos 1 ∷ (tick_input ticks ++ parameter_inputs schema.parameters)

-- all inputs of a schema: reset, those of the streams, the end, the tick where it is asked for, and the parameters
abbrev pub input_ports : Bool → Schema → List ProfilePort
input_ports ticks schema = input rst 1 ∷ (streams_inputs schema.streams ++ last_inputs ticks schema)

-- an output for each column of a result
abbrev pub column_outputs : List Column → List ProfilePort
column_outputs columns = map (λ c. output (out_column c.name) (width_of c.kind)) columns

-- all outputs of a result: whether a row leaves, its columns, the end, and the two fault lines
abbrev pub output_ports : List Column → List ProfilePort
output_ports columns =
    output out_valid 1 ∷ (column_outputs columns ++ output out_eos 1 ∷ output fault_group 1 ∷ output fault_queue 1 ∷ [])

-- all ports but the clock
abbrev pub profile : Bool → Schema → List Column → List ProfilePort
profile ticks schema columns = input_ports ticks schema ++ output_ports columns

-- the names of the profile's ports, in their order
abbrev pub port_names : List ProfilePort → List (List ℕ)
port_names ports = map (λ p. p.name) ports

-- what is put on a port has its bits
abbrev pub CanCarry : ProfilePort → Pin → Type 0
CanCarry port pin = pin.value < 2 ^ port.width
