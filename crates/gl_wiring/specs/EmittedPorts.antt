-- The ports of an emitted module, the clock aside, in their order, with their directions and bits.
use Rattle.std.specs.Prelude.{ℕ, List, [], ◌∷◌, ◌++◌, map}
use Rattle.gl_values.specs.Kinds.{width_of}
use Rattle.gl_schema.specs.declared.schema.Column.{Column}
use Rattle.gl_schema.specs.declared.schema.Stream.{Stream}
use Rattle.gl_schema.specs.Ports.{in_valid, in_column, in_parameter}
use Rattle.gl_net.specs.declared.node.Direction.TheVariants.{In, Out}
use Rattle.gl_net.specs.PortValues.{PortShape}

abbrev pub input : List ℕ → ℕ → PortShape
input name width = record { direction = In; name = name; width = width }

abbrev pub output : List ℕ → ℕ → PortShape
output name width = record { direction = Out; name = name; width = width }

-- the bits of columns, in order
abbrev pub column_widths : List Column → List ℕ
column_widths columns = map (λ (c : Column). width_of c.kind) columns

-- the inputs of a stream: whether a tuple comes, and its columns
abbrev pub column_inputs : List ℕ → List Column → List PortShape
column_inputs stream [] = []
column_inputs stream (c ∷ cs) = input (in_column stream c.name) (width_of c.kind) ∷ column_inputs stream cs

abbrev pub stream_columns : Stream → List PortShape
stream_columns s = column_inputs s.name s.columns

abbrev pub stream_inputs : Stream → List PortShape
stream_inputs s = input (in_valid s.name) 1 ∷ stream_columns s

abbrev pub streams_inputs : List Stream → List PortShape
streams_inputs [] = []
streams_inputs (s ∷ ss) = stream_inputs s ++ streams_inputs ss

-- the inputs of parameters, in order
abbrev pub parameter_inputs : List Column → List PortShape
parameter_inputs [] = []
parameter_inputs (p ∷ ps) = input (in_parameter p.name) (width_of p.kind) ∷ parameter_inputs ps
