-- The module of several statements takes the inputs of the schema, and has the ports of each result.
use Rattle.std.proofs.Common.{◌≡◌, ℕ, ◌≤◌, List, [], ◌∷◌, length, map, Some, refl, ap, ◌∙◌}
use Rattle.std.specs.Prelude.{slice_get}
use Rattle.std.specs.List.{AllByRecursion, flat_map}
use Rattle.gl_bits.proofs.AllLists.{all_append, all_back, all_by_place, all_front, all_mapped, all_of_mapped, all_weaker, get_mapped}
use Rattle.gl_bits.proofs.Bools.{bytes_own}
use Rattle.gl_values.specs.Kinds.{IsKind, width_of}
use Rattle.gl_schema.specs.declared.schema.Column.{Column}
use Rattle.gl_schema.specs.declared.schema.Schema.{Schema}
use Rattle.gl_schema.specs.Ports.{fault_group, fault_queue, out_column, out_eos, out_valid}
use Rattle.gl_schema.specs.Profile.{Out, ProfilePort, clk, column_outputs, input, input_ports, output, output_ports}
use Rattle.gl_schema.specs.Schemas.{IsSchema}
use Rattle.gl_query.specs.declared.tree.Statement.{Statement}
use Rattle.gl_query.specs.Accepted.{IsAccepted}
use Rattle.gl_query.specs.Laws.{AcceptedHaveRealColumns}
use Rattle.gl_query.specs.Shapes.{query_shape}
use Rattle.gl_verilog.specs.Module.{Declaration, Module}
use Rattle.gl_verilog.specs.Valid.{AreDistinct}
use Rattle.gl_verilog_ports.specs.Profile.{HasLine, declared, port_named, ports_of}
use Rattle.gl_verilog_ports.proofs.Declared.{distinct_take}
use Rattle.gl_verilog_ports.proofs.Named.{first_named, has_named, same_named, where_named}
use Rattle.gl_verilog_ports.proofs.Profiled.{inputs_asked, outputs_out}
use Rattle.gl_testbench.specs.Views.{within}
use Rattle.gl_compiler.specs.Meets.{result_columns}
use Rattle.gl_runner.specs.Cycles.{TakesSchema}
use Rattle.gl_runner.specs.Faces.{HasColumn, HasFace}
use Rattle.gl_many.specs.Meets.{outputs_among, port_among, profile_of_all, take_ticks}
use Rattle.gl_many.specs.Runs.{faces_of}

-- ---- ports by their names

-- where no two have one name, each is the first of its name
first_is : (ds : List Declaration) (n : ℕ) (d : Declaration) → AreDistinct ds → slice_get ds n ≡ Some d → first_named ds d.name ≡ Some d
first_is ds n d distinct at =
    let some = has_named ds d.name n d at (bytes_own d.name) in
    let there = where_named ds d.name some.0 some.1 in
    some.1 ∙ ap (λ (e : Declaration). Some e) (same_named ds d.name there.n n some.0 d distinct there.there at there.named (bytes_own d.name))

-- the port is found by its name
abbrev IsFound : Module → ProfilePort → Type 0
IsFound m p = port_named m p.name ≡ Some (declared p)

all_found : (m : Module) (ps : List ProfilePort) → AreDistinct m.declarations → ports_of m ≡ map declared ps → AllByRecursion (IsFound m) ps
all_found m ps distinct face =
    all_by_place (IsFound m) ps (λ i p at.
    let there : slice_get (ports_of m) i ≡ Some (declared p) = ap (λ (ds : List Declaration). slice_get ds i) face ∙ get_mapped declared ps i p at in
    first_is (ports_of m) i (declared p) (distinct_take m.ports m.declarations distinct) there)

-- ---- the ports of one result

line_found : (m : Module) (name : List ℕ) → IsFound m (output name 1) → HasLine m name
line_found m name there = record { port = declared (output name 1); there = there; line = record { output = refl; bit = refl } }

abbrev tail : List ProfilePort
tail = output out_eos 1 ∷ output fault_group 1 ∷ output fault_queue 1 ∷ []

has_face : (m : Module) (name : List ℕ) (columns : List Column) → length columns ≤ 32 → AllByRecursion (λ (c : Column). IsKind c.kind) columns
    → AllByRecursion (IsFound m) (map (port_among name) (output_ports columns)) → HasFace m (record { name = name; columns = columns })
has_face m name columns many kinds found =
    let shown = all_of_mapped (IsFound m) (port_among name) (output_ports columns) found in
    let lines = all_back (λ (p : ProfilePort). IsFound m (port_among name p)) (column_outputs columns) tail shown.1 in
    let front = all_front (λ (p : ProfilePort). IsFound m (port_among name p)) (column_outputs columns) tail shown.1 in
    let each = all_of_mapped (λ (p : ProfilePort). IsFound m (port_among name p)) (λ (c : Column). output (out_column c.name) (width_of c.kind)) columns front in
    record {
      valid = line_found m (within name out_valid) shown.0;
      end = line_found m (within name out_eos) lines.0;
      group = rw lines.1.0 (record { output = refl; bit = refl });
      columns' = all_weaker (λ (c : Column). IsFound m (port_among name (output (out_column c.name) (width_of c.kind)))) (HasColumn m name)
          (λ c there. record { port = declared (port_among name (output (out_column c.name) (width_of c.kind))); there = there; output = refl; wide = refl }) columns each;
      many = many;
      kinds = kinds;
    }

-- ---- the ports of all

abbrev IsOut : ProfilePort → Type 0
IsOut p = p.direction ≡ Out

all_out : (schema : Schema) (statements : List Statement) → AllByRecursion IsOut (flat_map (outputs_among schema) statements)
all_out schema [] = tt
all_out schema (s ∷ ss) =
    let own : AllByRecursion IsOut (outputs_among schema s) = all_mapped IsOut (port_among s.name.text) (output_ports (result_columns schema s)) (outputs_out (result_columns schema s)) in
    all_append IsOut (outputs_among schema s) (flat_map (outputs_among schema) ss) own (all_out schema ss)

all_faces : AcceptedHaveRealColumns → (m : Module) (schema : Schema) (statements : List Statement) → IsSchema schema → AllByRecursion (IsAccepted schema) statements
    → AllByRecursion (IsFound m) (flat_map (outputs_among schema) statements) → AllByRecursion (HasFace m) (faces_of schema statements)
all_faces real_columns m schema [] fine accepted found = tt
all_faces real_columns m schema (s ∷ ss) fine accepted found =
    let real = real_columns schema (query_shape s.query) fine accepted.0 in
    let others = flat_map (outputs_among schema) ss in (
      has_face m s.name.text (result_columns schema s) real.result.most real.kinds (all_front (IsFound m) (outputs_among schema s) others found),
      all_faces real_columns m schema ss fine accepted.1 (all_back (IsFound m) (outputs_among schema s) others found),
    )

module _ (m : Module) (schema : Schema) (statements : List Statement) (distinct : AreDistinct m.declarations)
    (face : ports_of m ≡ map declared (input clk 1 ∷ profile_of_all schema statements)) where
  -- each input but the clock is the schema's
  pub takes_schema : TakesSchema m schema
  takes_schema = inputs_asked (take_ticks statements) m schema (flat_map (outputs_among schema) statements) (all_out schema statements) distinct face

  -- and each result is shown
  pub have_faces : AcceptedHaveRealColumns → IsSchema schema → AllByRecursion (IsAccepted schema) statements → AllByRecursion (HasFace m) (faces_of schema statements)
  have_faces real_columns fine accepted =
      let all = all_found m (input clk 1 ∷ profile_of_all schema statements) distinct face in
      all_faces real_columns m schema statements fine accepted
      (all_back (IsFound m) (input_ports (take_ticks statements) schema) (flat_map (outputs_among schema) statements) all.1)
