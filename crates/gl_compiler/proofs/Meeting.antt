-- The text of a plan's netlist meets its statement.
use Rattle.std.proofs.Common.{◌≡◌, ℕ, ◌+◌, ◌≤◌, Bool, List, ◌∷◌, ◌++◌, length, map, Option, Some, sym, ap, subst, ◌∙◌, arith, codes}
use Rattle.gl_bits.specs.Limits.{most_weight}
use Rattle.gl_bits.proofs.Options.{some_same}
use Rattle.gl_schema.specs.declared.schema.Column.{Column}
use Rattle.gl_gaps.specs.declared.Gaps.{Gaps}
use Rattle.gl_schema.specs.declared.schema.Schema.{Schema}
use Rattle.gl_schema.specs.Schemas.{column_names}
use Rattle.gl_schema.specs.Beats.{Beats}
use Rattle.gl_gaps.specs.Keeps.{gaps_with}
use Rattle.gl_schema.specs.Ports.{PortValues, out_column}
use Rattle.gl_schema.specs.Profile.{ProfilePort, clk, input, output_ports}
use Rattle.gl_schema.specs.Right.{IsRight, Meaning}
use Rattle.gl_query.specs.declared.tree.Statement.{Statement}
use Rattle.gl_query.specs.Checked.{IsChecked}
use Rattle.gl_query.specs.Results.{IsResult}
use Rattle.gl_algebra.specs.Roots as roots
use Rattle.gl_algebra.specs.Roots.{most_memory, most_registers, root_figures}
use Rattle.gl_root_gaps.specs.Roots.{gap_with, ticks_with}
use Rattle.gl_algebra.specs.Shapes.{Shape, kinds_of as kinds_of_node}
use Rattle.gl_algebra.specs.Views.{reads_time}
use Rattle.gl_algebra.specs.declared.figures.Figures.{Figures}
use Rattle.gl_root_gaps.specs.declared.TickGaps.{TickGaps}
use Rattle.gl_net.specs.Net.{Net, memory_bits_of, register_bits_of, size_of}
use Rattle.gl_net.specs.PortValues.{port_shapes}
use Rattle.gl_verilog.specs.Run.{port_of}
use Rattle.gl_verilog_ports.specs.Profile.{HasProfile, declared}
use Rattle.gl_verilog_ports.proofs.Profiled.{names_shown}
use Rattle.gl_elaborate.specs.Laws.{PlansTellTime}
use Rattle.gl_elaborate.specs.Plans.{plan_of}
use Rattle.gl_elaborate.specs.Whole.{RootsAreRight, statement_ticks}
use Rattle.gl_wiring.specs.Output.{plan_ports}
use Rattle.gl_wiring.specs.Wired as wired
use Rattle.gl_wiring.specs.Wired.{KeepsGroup, OverBeats, plan_means}
use Rattle.gl_testbench.specs.declared.emitting.Emitted.{Emitted}
use Rattle.gl_testbench.specs.Driven.{OverRuns}
use Rattle.gl_testbench.specs.Emission.{IsEmission, TakesBeats}
use Rattle.gl_testbench.specs.Emitted.{IsEmitted}
use Rattle.gl_testbench.specs.Overflow.{TellsGroup}
use Rattle.gl_testbench.proofs.Emissions.{holds_of_runs}
use Rattle.gl_testbench.proofs.OverflowRuns.{KeepsLine, RunLaws, keeps_past, tells_group}
use Rattle.gl_testbench.proofs.PinLemmas.{outs_other}
use Rattle.gl_testbench.proofs.PortCounts.{outputs_many, ports_few}
use Rattle.gl_testbench.proofs.Showing.{NoClock, right_past, right_wider}
use Rattle.gl_compiler.specs.Meets.{Meets, WhereDriven, result_columns, takes_ticks}
use Rattle.gl_compiler.specs.Built.{gaps_of, latency_of}
use Rattle.gl_compiler.specs.Compiles.{HasCost}
use Rattle.gl_compiler.proofs.Faces.{takes_beats}
use Rattle.gl_compiler.proofs.KnownOf.{Known}
use Rattle.gl_compiler.proofs.PlanResults.{plan_result}

module _ (time : PlansTellTime) (schema : Schema) (statement : Statement) (net : Net) (made : Emitted) (k : Known schema statement) (is : IsChecked schema statement) (t : IsEmitted net made)
    (ports : port_shapes net ≡ plan_ports (reads_time (plan_of schema statement).nodes) schema (kinds_of_node (plan_of schema statement).nodes (plan_of schema statement).root) (column_names (result_columns schema statement))) where
  abbrev columns : List Column
  columns = result_columns schema statement

  abbrev outs : List (List ℕ)
  outs = map out_column (column_names columns)

  none : NoClock outs
  none = outs_other (column_names columns)

  -- the figures and the results of the plan
  abbrev latency : ℕ
  latency = roots.latency_of (plan_of schema statement).nodes (plan_of schema statement).root

  abbrev gaps : Gaps
  gaps = wired.gaps_of (plan_of schema statement).nodes (plan_of schema statement).root

  abbrev means : Meaning
  means = plan_means (plan_of schema statement).nodes (plan_of schema statement).root

  abbrev ticks : Bool
  ticks = takes_ticks statement

  takes : TakesBeats ticks schema (output_ports columns) net
  takes = takes_beats ticks net schema columns (ports
      ∙ ap (λ (b : Bool). plan_ports b schema (kinds_of_node (plan_of schema statement).nodes (plan_of schema statement).root) (column_names columns)) (time schema statement)
      ∙ ap (λ (x : Shape). plan_ports ticks schema x.kinds (column_names columns)) k.right.shape)

  text : IsEmission net schema made.text.items
  text = t.text ticks schema (output_ports columns) is.of_schema takes

  face : HasProfile ticks text.design schema columns
  face = text.face ∙ ap (λ (ps : List ProfilePort). map declared (input clk 1 ∷ ps)) takes.ports

  -- the columns of the result are found on the module
  named : (Q : Beats → List (List ℕ) → PortValues → Type 0) → OverRuns text.design schema gaps (λ beats port. Q beats outs port) → WhereDriven text.design schema gaps Q
  named Q over = λ beats value word driven.
      subst (λ (names : List (List ℕ)). Q beats names (port_of text.design value)) (sym (names_shown ticks text.design schema columns text.has.valid.names face)) (over beats value word driven)

  -- what holds of the plan's netlist holds of the text: that it is right
  text_right : OverBeats schema gaps (λ all port. IsRight means latency all outs port) net → OverRuns text.design schema gaps (λ all port. IsRight (IsResult schema statement) latency all outs port)
  text_right right = λ beats value word driven.
      right_wider means (IsResult schema statement) latency beats outs (plan_result schema statement beats driven.are k.right) (port_of text.design value)
      (holds_of_runs net schema made.text.items text gaps (λ all port. IsRight means latency all outs port) (right_past means latency outs none) right beats value word driven)

  -- and that the overflow line is kept
  text_keeps : OverBeats schema gaps (λ all port. KeepsGroup outs port) net → OverRuns text.design schema gaps (λ all port. KeepsLine outs port)
  text_keeps keeps = holds_of_runs net schema made.text.items text gaps (λ all port. KeepsLine outs port) (keeps_past outs none)
      (λ run all trace are keep stimulus. let h = keeps run all trace are keep stimulus in record { lasts = h.lasts; stays = h.stays })

  -- it has at most 335 ports
  few : length net.ports ≤ 3900
  few = omega (arith, ports_few ticks schema (output_ports columns) net is.of_schema takes, outputs_many columns, k.columns.most)

  -- the gaps of a root with these figures
  abbrev gaps_from : Option TickGaps → Figures → Gaps
  gaps_from t f = gaps_with (gap_with t f.gt) (ticks_with t)

  -- a text of the plan's netlist meets the statement
  pub text_meets : RunLaws → RootsAreRight → size_of net ≤ most_weight → net.name ≡ Some (codes "q__" ++ statement.name.text) → OverBeats schema gaps (λ all port. IsRight means latency all outs port) net → OverBeats schema gaps (λ all port. KeepsGroup outs port) net
      → Meets schema statement (latency_of schema statement) (gaps_of schema statement) made.text.items
  text_meets laws tops light called right keeps =
      subst (λ (f : Figures). Meets schema statement (f.le + 1) (gaps_from (statement_ticks schema statement) f) made.text.items) (tops schema statement is).figures
      (subst (λ (t : Option TickGaps). Meets schema statement latency (gaps_from t (root_figures (plan_of schema statement).nodes (plan_of schema statement).root)) made.text.items) (tops schema statement is).ticks (record {
        accepted = is.accepted;
        design = text.design;
        has = text.has;
        fits = t.fits light few;
        name = some_same text.design.name (codes "q__" ++ statement.name.text) (text.name' ∙ called);
        face = face;
        runs = text.runs;
        right = named (IsRight (IsResult schema statement) latency) (text_right right);
        group = named (TellsGroup (IsResult schema statement))
            (tells_group laws net schema made.text.items text (λ port. port) (λ t port port' same. same) outs none (IsResult schema statement) latency gaps (text_right right) (text_keeps keeps));
      }))

  -- and has the bits of the netlist
  pub text_costs : register_bits_of net ≤ most_registers (plan_of schema statement).nodes (plan_of schema statement).root → memory_bits_of net ≤ most_memory (plan_of schema statement).nodes (plan_of schema statement).root
      → HasCost schema statement made.text.items made.cost
  text_costs registers memories = record {
    design = text.design;
    has = text.has;
    registers = t.registers ∙ sym text.registers;
    memories = t.memories ∙ sym text.memories;
    few_registers = subst (λ n. n ≤ most_registers (plan_of schema statement).nodes (plan_of schema statement).root) (sym t.registers) registers;
    few_memories = subst (λ n. n ≤ most_memory (plan_of schema statement).nodes (plan_of schema statement).root) (sym t.memories) memories;
  }
