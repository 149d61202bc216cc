-- The ports of several roots' netlist are those of the schema and of each statement.
use Rattle.std.proofs.Common.{◌≡◌, ℕ, List, [], ◌∷◌, ◌++◌, map, refl, sym, ap, ◌∙◌}
use Rattle.std.specs.List.{AllByRecursion, flat_map}
use Rattle.std.proofs.lemmas.List.{map-append}
use Rattle.gl_bits.proofs.AllLists.{all_append, all_mapped}
use Rattle.gl_values.specs.Kinds.{width_of}
use Rattle.gl_values.specs.declared.kind.Kind.{Kind}
use Rattle.gl_schema.specs.declared.schema.Column.{Column}
use Rattle.gl_schema.specs.declared.schema.Schema.{Schema}
use Rattle.gl_schema.specs.Schemas.{column_names, kinds_of}
use Rattle.gl_schema.specs.Ports.{out_valid, out_column, out_eos, fault_group, fault_queue}
use Rattle.gl_schema.specs.Profile as profile
use Rattle.gl_schema.specs.Profile.{Out, ProfilePort}
use Rattle.gl_query.specs.declared.tree.Statement.{Statement}
use Rattle.gl_algebra.specs.declared.node.PlanNode.{PlanNode}
use Rattle.gl_net.specs.Net.{Net}
use Rattle.gl_net.specs.PortValues.{PortShape, port_shapes}
use Rattle.gl_verilog_ports.proofs.Profiled.{outputs_out}
use Rattle.gl_wiring.specs.Leaves.{widths_of}
use Rattle.gl_wiring.specs.EmittedPorts.{output}
use Rattle.gl_wiring.specs.Many.{many_ports, root_outputs}
use Rattle.gl_wiring.specs.Naming.{beside_others}
use Rattle.gl_wiring.specs.Output.{column_outputs, input_ports, result_outputs}
use Rattle.gl_testbench.specs.Emission.{TakesBeats, port_like}
use Rattle.gl_testbench.specs.Views.{within}
use Rattle.gl_compiler.specs.Meets.{result_columns}
use Rattle.gl_compiler.proofs.Faces.{inputs_are}
use Rattle.gl_many.specs.Meets.{outputs_among, port_among, take_ticks}
use Rattle.gl_many.specs.Roots.{root_of, roots_of}
use Rattle.gl_many.proofs.Standing.{AllStand, StandsAt, kinds_own}

-- ---- outputs of one statement

columns_out : (into : List ℕ) (cs : List Column) → map port_like (column_outputs (beside_others into) (widths_of (kinds_of cs)) (column_names cs)) ≡ map (port_among into) (profile.column_outputs cs)
columns_out into [] = refl
columns_out into (c ∷ cs) = ap (λ (x : List ProfilePort). profile.output (within into (out_column c.name)) (width_of c.kind) ∷ x) (columns_out into cs)

outputs_are : (into : List ℕ) (cs : List Column) → map port_like (result_outputs (beside_others into) (widths_of (kinds_of cs)) (column_names cs)) ≡ map (port_among into) (profile.output_ports cs)
outputs_are into cs =
    let named = beside_others into in
    let own = column_outputs named (widths_of (kinds_of cs)) (column_names cs) in
    let tail = output (named out_eos) 1 ∷ output (named fault_group) 1 ∷ output (named fault_queue) 1 ∷ [] in
    let lines = profile.output out_eos 1 ∷ profile.output fault_group 1 ∷ profile.output fault_queue 1 ∷ [] in
    ap (λ (x : List ProfilePort). profile.output (within into out_valid) 1 ∷ x)
    (map-append port_like own tail ∙ ap (λ (x : List ProfilePort). x ++ map port_like tail) (columns_out into cs) ∙ sym (map-append (port_among into) (profile.column_outputs cs) lines))

-- ---- of all

module _ (nodes : List PlanNode) (schema : Schema) where
  one_among : (s : Statement) (id : ℕ) → StandsAt nodes schema s id → map port_like (root_outputs nodes (root_of schema s id)) ≡ outputs_among schema s
  one_among s id at =
      let columns = result_columns schema s in
      ap (λ (kinds : List Kind). map port_like (result_outputs (beside_others s.name.text) (widths_of kinds) (column_names columns))) (kinds_own nodes schema s id at)
      ∙ outputs_are s.name.text columns

  all_among : (ss : List Statement) (ids : List ℕ) → AllStand nodes schema ss ids → map port_like (flat_map (root_outputs nodes) (roots_of schema ss ids)) ≡ flat_map (outputs_among schema) ss
  all_among [] [] all = refl
  all_among [] (id ∷ ids) all = absurd all
  all_among (s ∷ ss) [] all = absurd all
  all_among (s ∷ ss) (id ∷ ids) all =
      let rest = flat_map (root_outputs nodes) (roots_of schema ss ids) in
      map-append port_like (root_outputs nodes (root_of schema s id)) rest
      ∙ ap (λ (x : List ProfilePort). x ++ map port_like rest) (one_among s id all.0)
      ∙ ap (λ (x : List ProfilePort). outputs_among schema s ++ x) (all_among ss ids all.1)

abbrev GoesOut : ProfilePort → Type 0
GoesOut p = p.direction ≡ Out

all_out : (schema : Schema) (ss : List Statement) → AllByRecursion GoesOut (flat_map (outputs_among schema) ss)
all_out schema [] = tt
all_out schema (s ∷ ss) =
    all_append GoesOut (outputs_among schema s) (flat_map (outputs_among schema) ss)
    (all_mapped GoesOut (port_among s.name.text) (profile.output_ports (result_columns schema s)) (outputs_out (result_columns schema s))) (all_out schema ss)

-- the netlist takes the beats of the schema
pub takes_beats : (nodes : List PlanNode) (schema : Schema) (ss : List Statement) (ids : List ℕ) (net : Net) → AllStand nodes schema ss ids
    → port_shapes net ≡ many_ports (take_ticks ss) schema nodes (roots_of schema ss ids) → TakesBeats (take_ticks ss) schema (flat_map (outputs_among schema) ss) net
takes_beats nodes schema ss ids net all ports =
    let ticks = take_ticks ss in
    let outputs : List PortShape = flat_map (root_outputs nodes) (roots_of schema ss ids) in
    record {
      ports = ap (map port_like) ports ∙ map-append port_like (input_ports ticks schema) outputs
          ∙ ap (λ (x : List ProfilePort). x ++ map port_like outputs) (inputs_are ticks schema)
          ∙ ap (λ (x : List ProfilePort). profile.input_ports ticks schema ++ x) (all_among nodes schema ss ids all);
      out = all_out schema ss;
    }
