-- The ports of a plan's netlist are those of the profile.
use Rattle.std.proofs.Common.{◌≡◌, ℕ, Bool, true, false, List, [], ◌∷◌, ◌++◌, map, refl, ap, ◌∙◌}
use Rattle.std.proofs.lemmas.List.{map-append}
use Rattle.gl_values.specs.Kinds.{width_of}
use Rattle.gl_schema.specs.declared.schema.Column.{Column}
use Rattle.gl_schema.specs.declared.schema.Stream.{Stream}
use Rattle.gl_schema.specs.declared.schema.Schema.{Schema}
use Rattle.gl_schema.specs.Schemas.{column_names, kinds_of}
use Rattle.gl_schema.specs.Ports.{rst, eos, tick, in_valid, in_column, in_parameter, out_valid, out_column, out_eos, fault_group, fault_queue}
use Rattle.gl_schema.specs.Profile as profile
use Rattle.gl_schema.specs.Profile.{ProfilePort}
use Rattle.gl_net.specs.Net.{Net}
use Rattle.gl_net.specs.PortValues.{port_shapes}
use Rattle.gl_verilog_ports.proofs.Profiled.{outputs_out}
use Rattle.gl_wiring.specs.Leaves.{widths_of}
use Rattle.gl_wiring.specs.EmittedPorts.{input, output, column_inputs, parameter_inputs, stream_inputs, streams_inputs}
use Rattle.gl_wiring.specs.Output.{input_ports, late_inputs, named_outputs, output_ports, plan_ports}
use Rattle.gl_testbench.specs.Emission.{TakesBeats, port_like}

columns_in : (s : List ℕ) (cs : List Column) → map port_like (column_inputs s cs) ≡ profile.column_inputs s cs
columns_in s [] = refl
columns_in s (c ∷ cs) = ap (λ (x : List ProfilePort). profile.input (in_column s c.name) (width_of c.kind) ∷ x) (columns_in s cs)

streams_in : (ss : List Stream) → map port_like (streams_inputs ss) ≡ profile.streams_inputs ss
streams_in [] = refl
streams_in (s ∷ ss) =
    map-append port_like (stream_inputs s) (streams_inputs ss)
    ∙ ap (λ (x : List ProfilePort). profile.input (in_valid s.name) 1 ∷ (x ++ map port_like (streams_inputs ss))) (columns_in s.name s.columns)
    ∙ ap (λ (x : List ProfilePort). profile.stream_inputs s ++ x) (streams_in ss)

parameters_in : (ps : List Column) → map port_like (parameter_inputs ps) ≡ profile.parameter_inputs ps
parameters_in [] = refl
parameters_in (p ∷ ps) = ap (λ (x : List ProfilePort). profile.input (in_parameter p.name) (width_of p.kind) ∷ x) (parameters_in ps)

late_in : (ticks : Bool) (ps : List Column) → map port_like (late_inputs ticks ps) ≡ profile.tick_input ticks ++ profile.parameter_inputs ps
late_in true ps = ap (λ (x : List ProfilePort). profile.input tick 1 ∷ x) (parameters_in ps)
late_in false ps = parameters_in ps

pub inputs_are : (ticks : Bool) (schema : Schema) → map port_like (input_ports ticks schema) ≡ profile.input_ports ticks schema
inputs_are ticks schema =
    let late = late_inputs ticks schema.parameters in
    ap (λ (x : List ProfilePort). profile.input rst 1 ∷ x)
    (map-append port_like (streams_inputs schema.streams) (input eos 1 ∷ late)
    ∙ ap (λ (x : List ProfilePort). x ++ profile.input eos 1 ∷ map port_like late) (streams_in schema.streams)
    ∙ ap (λ (x : List ProfilePort). profile.streams_inputs schema.streams ++ profile.input eos 1 ∷ x) (late_in ticks schema.parameters))

columns_out : (cs : List Column) → map port_like (named_outputs (widths_of (kinds_of cs)) (column_names cs)) ≡ profile.column_outputs cs
columns_out [] = refl
columns_out (c ∷ cs) = ap (λ (x : List ProfilePort). profile.output (out_column c.name) (width_of c.kind) ∷ x) (columns_out cs)

outputs_are : (cs : List Column) → map port_like (output_ports (widths_of (kinds_of cs)) (column_names cs)) ≡ profile.output_ports cs
outputs_are cs =
    let tail = output out_eos 1 ∷ output fault_group 1 ∷ output fault_queue 1 ∷ [] in
    ap (λ (x : List ProfilePort). profile.output out_valid 1 ∷ x)
    (map-append port_like (named_outputs (widths_of (kinds_of cs)) (column_names cs)) tail ∙ ap (λ (x : List ProfilePort). x ++ map port_like tail) (columns_out cs))

plan_profile : (ticks : Bool) (schema : Schema) (cs : List Column) → map port_like (plan_ports ticks schema (kinds_of cs) (column_names cs))
    ≡ profile.profile ticks schema cs
plan_profile ticks schema cs =
    map-append port_like (input_ports ticks schema) (output_ports (widths_of (kinds_of cs)) (column_names cs))
    ∙ ap (λ (x : List ProfilePort). x ++ map port_like (output_ports (widths_of (kinds_of cs)) (column_names cs))) (inputs_are ticks schema)
    ∙ ap (λ (x : List ProfilePort). profile.input_ports ticks schema ++ x) (outputs_are cs)

-- it takes the beats of the schema
pub takes_beats : (ticks : Bool) (net : Net) (schema : Schema) (cs : List Column) → port_shapes net ≡ plan_ports ticks schema (kinds_of cs) (column_names cs)
    → TakesBeats ticks schema (profile.output_ports cs) net
takes_beats ticks net schema cs ports = record { ports = ap (map port_like) ports ∙ plan_profile ticks schema cs; out = outputs_out cs }
