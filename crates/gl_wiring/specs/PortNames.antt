-- The names of the ports of an emitted module, the clock aside, in their order.
use Rattle.std.specs.Prelude.{ℕ, Bool, true, false, List, [], ◌∷◌, ◌++◌, map}
use Rattle.gl_schema.specs.declared.schema.Column.{Column}
use Rattle.gl_schema.specs.declared.schema.Stream.{Stream}
use Rattle.gl_schema.specs.declared.schema.Schema.{Schema}
use Rattle.gl_wiring.specs.declared.names.ResultNames.{ResultNames}
use Rattle.gl_wiring.specs.Naming.{beside_others}
use Rattle.gl_schema.specs.Ports.{rst, eos, tick, in_valid, in_column, in_parameter, out_valid, out_column, out_eos, fault_group, fault_queue}

-- the columns of a stream
abbrev pub column_ports : List ℕ → List Column → List (List ℕ)
column_ports stream [] = []
column_ports stream (c ∷ cs) = in_column stream c.name ∷ column_ports stream cs

-- a stream: whether a tuple comes, and its columns
abbrev pub stream_ports : Stream → List (List ℕ)
stream_ports s = in_valid s.name ∷ column_ports s.name s.columns

abbrev pub streams_ports : List Stream → List (List ℕ)
streams_ports [] = []
streams_ports (s ∷ ss) = stream_ports s ++ streams_ports ss

-- the result: whether a row leaves, its columns by their names, the end, and the two fault lines
abbrev pub result_ports : List (List ℕ) → List (List ℕ)
result_ports columns = out_valid ∷ (map out_column columns ++ out_eos ∷ fault_group ∷ fault_queue ∷ [])

-- the tick, where it is asked for
abbrev pub tick_port : Bool → List (List ℕ)
tick_port true = tick ∷ []
tick_port false = []

-- the parameters, in order
abbrev pub parameter_ports : List Column → List (List ℕ)
parameter_ports [] = []
parameter_ports (p ∷ ps) = in_parameter p.name ∷ parameter_ports ps

-- the inputs behind the end: the tick where it is asked for, and the parameters
abbrev pub late_ports : Bool → List Column → List (List ℕ)
late_ports ticks parameters = tick_port ticks ++ parameter_ports parameters

-- all ports: the inputs of the schema, and behind them these outputs
abbrev pub module_names : Bool → Schema → List (List ℕ) → List (List ℕ)
module_names ticks schema outputs =
    rst ∷ (streams_ports schema.streams ++ eos ∷ (late_ports ticks schema.parameters ++ outputs))

abbrev pub port_names : Bool → Schema → List (List ℕ) → List (List ℕ)
port_names ticks schema columns = module_names ticks schema (result_ports columns)

-- the outputs of several results, one result after the other
abbrev pub results_ports : List ResultNames → List (List ℕ)
results_ports [] = []
results_ports (r ∷ rs) = map (beside_others r.into) (result_ports r.columns) ++ results_ports rs
