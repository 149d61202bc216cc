use Rattle.std.proofs.Common.{◌≡◌, ◌≤◌, ◌++◌, ◌∙◌, ap, sym, subst, length, le_trans, List, Some, codes, ℕ}
use Rattle.std.specs.List.{AllByRecursion, IsDistinct}
use Rattle.std.specs.Prelude.{bytes_eq, map}
use Rattle.gl_schema.specs.Names.{IsName}
use Rattle.gl_schema.specs.Schemas.{column_names}
use Rattle.gl_schema.specs.Ports.{out_column}
use Rattle.gl_schema.specs.Right.{IsRight}
use Rattle.gl_net.specs.PortValues.{port_shapes}
use Rattle.gl_algebra.specs.Added.{Placed}
use Rattle.gl_net.specs.Net.{memory_bits_of, register_bits_of, size_of}
use Rattle.gl_algebra.specs.Roots as roots
use Rattle.gl_algebra.specs.Shapes as shapes
use Rattle.gl_algebra.specs.Views.{reads_time}
use Rattle.gl_algebra.specs.Roots.{most_memory, most_registers, weight_with_output}
use Rattle.gl_testbench.proofs.OverflowRuns.{RunLaws}
use Rattle.gl_wiring.specs.Output.{plan_ports}
use Rattle.gl_wiring.specs.StreamWires.{AreStreamLeaves}
use Rattle.gl_wiring.specs.Wired as wired
use Rattle.gl_wiring.specs.Wired.{KeepsGroup, OverBeats, plan_means}
use Rattle.gl_algebra.specs.Known.{AreKnown}
use Rattle.gl_elaborate.specs.Laws.{parameter_widths}
use Rattle.gl_compiler.specs.Meets.{result_columns}
use Rattle.gl_compiler.proofs.KnownOf.{known}
use Rattle.gl_compiler.proofs.Meeting.{text_costs, text_meets}
use Rattle.gl_compiler.proofs.compiling.text_of.Goals as goal

pub wire_plan-requires : goal.wire_plan-requires
wire_plan-requires c =
    let schema = c.args.checked.now.schema in
    let statement = c.args.checked.now.statement in
    let k = known c.plans_are_right.ensures c.accepted_have_real_columns.ensures schema statement c.requires.checked c.requires.names in
    let is = c.requires.planned in
    let columns = c.in_ok-names.ensures.columns ∙ ap column_names c.requires.columns in
    record {
      schema' = c.requires.checked.of_schema;
      within = is.within;
      leaves = subst (λ (x : Placed). AreStreamLeaves schema.streams (shapes.shape_of x.nodes x.root).leaves) (sym is.at) k.leaves;
      figured = rw c.deref.ensures.value is.figures';
      known = subst (λ (x : Placed). AreKnown (parameter_widths schema) x.nodes) (sym is.at) k.right.known;
      spared = is.spare';
      named = record {
        many' = ap length columns ∙ k.many ∙ ap (λ (x : Placed). length (shapes.kinds_of x.nodes x.root)) (sym is.at);
        into = subst IsName (sym c.in_ok-names.ensures.into) k.into;
        columns = subst (AllByRecursion IsName) (sym columns) k.named;
        distinct = subst (λ (x : List (List ℕ)). IsDistinct bytes_eq x) (sym columns) k.columns.distinct;
      };
    }

pub returns-clause-meets : goal.returns-clause-meets
returns-clause-meets c =
    let schema = c.args.checked.now.schema in
    let statement = c.args.checked.now.statement in
    let k = known c.plans_are_right.ensures c.accepted_have_real_columns.ensures schema statement c.requires.checked c.requires.names in
    let is = c.requires.planned in
    let net = c.in_ok-net.net in
    let w = c.in_ok-net.ensures in
    let columns = c.in_ok-names.ensures.columns ∙ ap column_names c.requires.columns in
    let called = w.name ∙ ap (λ (n : List ℕ). Some (codes "q__" ++ n)) c.in_ok-names.ensures.into in
    let ports = subst (λ (ns : List (List ℕ)). port_shapes net ≡ plan_ports (reads_time c.args.planned.now.plan) schema (shapes.kinds_of c.args.planned.now.plan c.args.planned.now.root) ns) columns w.ports in
    let right = subst (λ (ns : List (List ℕ)). OverBeats schema (wired.gaps_of c.args.planned.now.plan c.args.planned.now.root) (λ all port. IsRight (plan_means c.args.planned.now.plan c.args.planned.now.root) (roots.latency_of c.args.planned.now.plan c.args.planned.now.root) all (map out_column ns) port) net) columns w.right in
    let group = subst (λ (ns : List (List ℕ)). OverBeats schema (wired.gaps_of c.args.planned.now.plan c.args.planned.now.root) (λ all port. KeepsGroup (map out_column ns) port) net) columns w.group in
    let ports' = subst (λ (x : Placed). port_shapes net ≡ plan_ports (reads_time x.nodes) schema (shapes.kinds_of x.nodes x.root) (column_names (result_columns schema statement))) is.at ports in
    let right' = subst (λ (x : Placed). OverBeats schema (wired.gaps_of x.nodes x.root) (λ all port. IsRight (plan_means x.nodes x.root) (roots.latency_of x.nodes x.root) all (map out_column (column_names (result_columns schema statement))) port) net) is.at right in
    let group' = subst (λ (x : Placed). OverBeats schema (wired.gaps_of x.nodes x.root) (λ all port. KeepsGroup (map out_column (column_names (result_columns schema statement))) port) net) is.at group in
    let light = le_trans (subst (λ (x : Placed). size_of net ≤ weight_with_output x.nodes x.root) is.at w.size) is.limits.light in
    let laws : RunLaws = record {
      event_runs_are_runs = c.event_runs_are_runs.ensures.runs;
      inputs_are_ports = c.inputs_are_ports.ensures;
      runs_are_causal = c.runs_are_causal.ensures;
      valid_modules_run = c.valid_modules_run.ensures;
    } in
    text_meets c.plans_tell_time.ensures schema statement net c.in_ok-made.made k c.requires.checked c.in_ok-made.ensures ports' laws c.roots_are_right.ensures light called right' group'

pub returns-clause-cost : goal.returns-clause-cost
returns-clause-cost c =
    let schema = c.args.checked.now.schema in
    let statement = c.args.checked.now.statement in
    let k = known c.plans_are_right.ensures c.accepted_have_real_columns.ensures schema statement c.requires.checked c.requires.names in
    let is = c.requires.planned in
    let net = c.in_ok-net.net in
    let w = c.in_ok-net.ensures in
    let columns = c.in_ok-names.ensures.columns ∙ ap column_names c.requires.columns in
    let ports = subst (λ (ns : List (List ℕ)). port_shapes net ≡ plan_ports (reads_time c.args.planned.now.plan) schema (shapes.kinds_of c.args.planned.now.plan c.args.planned.now.root) ns) columns w.ports in
    let ports' = subst (λ (x : Placed). port_shapes net ≡ plan_ports (reads_time x.nodes) schema (shapes.kinds_of x.nodes x.root) (column_names (result_columns schema statement))) is.at ports in
    text_costs c.plans_tell_time.ensures schema statement net c.in_ok-made.made k c.requires.checked c.in_ok-made.ensures ports'
    (subst (λ (x : Placed). register_bits_of net ≤ most_registers x.nodes x.root) is.at w.registers) (subst (λ (x : Placed). memory_bits_of net ≤ most_memory x.nodes x.root) is.at w.memories)
