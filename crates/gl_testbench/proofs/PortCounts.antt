-- How many ports a netlist has that takes the beats of a schema: at most 299 inputs, and its outputs.
use Rattle.std.proofs.Common.{◌≡◌, ℕ, suc, ◌+◌, ◌*◌, ◌≤◌, Bool, true, false, List, [], ◌∷◌, length, length-append, refl, ap, ◌∙◌, arith}
use Rattle.std.specs.List.{AllByRecursion}
use Rattle.gl_bits.proofs.AllLists.{length_map}
use Rattle.gl_values.specs.Kinds.{width_of}
use Rattle.gl_schema.specs.declared.schema.Column.{Column}
use Rattle.gl_schema.specs.declared.schema.Stream.{Stream}
use Rattle.gl_schema.specs.declared.schema.Schema.{Schema}
use Rattle.gl_schema.specs.Ports.{out_column, out_eos, fault_group, fault_queue}
use Rattle.gl_schema.specs.Profile.{ProfilePort, column_inputs, column_outputs, input_ports, output, output_ports, stream_inputs, streams_inputs, parameter_inputs, tick_input, last_inputs}
use Rattle.gl_schema.specs.Schemas.{IsSchema, IsStream}
use Rattle.gl_net.specs.Net.{Net}
use Rattle.gl_net.specs.PortValues.{port_shape, port_shapes}
use Rattle.gl_testbench.specs.Emission.{TakesBeats, port_like, profile_ports}

-- ---- inputs

columns_many : (s : List ℕ) (cs : List Column) → length (column_inputs s cs) ≡ length cs
columns_many s [] = refl
columns_many s (c ∷ cs) = ap suc (columns_many s cs)

streams_many : (ss : List Stream) → AllByRecursion IsStream ss → length (streams_inputs ss) ≤ 33 * length ss
streams_many [] h = omega arith
streams_many (s ∷ ss) h = omega (arith, length-append (stream_inputs s) (streams_inputs ss), columns_many s.name s.columns, h.0.most, streams_many ss h.1)

tick_few : (ticks : Bool) → length (tick_input ticks) ≤ 1
tick_few true = omega arith
tick_few false = omega arith

parameters_many : (ps : List Column) → length (parameter_inputs ps) ≡ length ps
parameters_many [] = refl
parameters_many (p ∷ ps) = ap suc (parameters_many ps)

-- a schema has at most 299
pub inputs_few : (ticks : Bool) (schema : Schema) → IsSchema schema → length (input_ports ticks schema) ≤ 299
inputs_few ticks schema is =
    let parameters = schema.parameters in
    omega (arith, length-append (streams_inputs schema.streams) (last_inputs ticks schema), length-append (tick_input ticks) (parameter_inputs parameters), tick_few ticks, parameters_many parameters, is.declared.most, streams_many schema.streams is.streams, is.most)

-- ---- outputs

-- one for each column, and four
pub outputs_many : (columns : List Column) → length (output_ports columns) ≡ length columns + 4
outputs_many columns =
    let tail = output out_eos 1 ∷ output fault_group 1 ∷ output fault_queue 1 ∷ [] in
    omega (arith, length-append (column_outputs columns) tail, length_map (λ (c : Column). output (out_column c.name) (width_of c.kind)) columns)

-- ---- all

-- as many as are seen from without
as_many : (net : Net) → length (profile_ports net) ≡ length net.ports
unfolding port_shapes
as_many net = length_map port_like (port_shapes net) ∙ length_map (port_shape net) net.ports

pub ports_few : (ticks : Bool) (schema : Schema) (outputs : List ProfilePort) (net : Net) → IsSchema schema → TakesBeats ticks schema outputs net
    → length net.ports ≤ 299 + length outputs
ports_few ticks schema outputs net is takes =
    omega (arith, as_many net, ap length takes.ports, length-append (input_ports ticks schema) outputs, inputs_few ticks schema is)
