-- The text of several roots' netlist meets all of their statements.
use Rattle.std.proofs.Common.{◌≡◌, ℕ, ◌+◌, ◌≤◌, List, [], ◌∷◌, map, Global, sym, ap, subst, ◌∙◌, codes}
use Rattle.std.specs.List.{AllByRecursion, flat_map}
use Rattle.gl_bits.proofs.AllLists.{map_map}
use Rattle.gl_bits.proofs.Options.{some_same}
use Rattle.gl_schema.specs.declared.schema.Column.{Column}
use Rattle.gl_gaps.specs.declared.Gaps.{Gaps}
use Rattle.gl_schema.specs.declared.schema.Schema.{Schema}
use Rattle.gl_schema.specs.Schemas.{column_names}
use Rattle.gl_schema.specs.Ports.{PortValues, out_column}
use Rattle.gl_schema.specs.Profile.{ProfilePort, clk, input}
use Rattle.gl_schema.specs.Right.{IsRight, Meaning}
use Rattle.gl_query.specs.declared.tree.Statement.{Statement}
use Rattle.gl_query.specs.Results.{IsResult}
use Rattle.gl_algebra.specs.declared.figures.Figures.{Figures}
use Rattle.gl_algebra.specs.declared.node.PlanNode.{PlanNode}
use Rattle.gl_algebra.specs.FigureTable.{figures_of}
use Rattle.gl_net.specs.Net.{Net, memory_bits_of, register_bits_of}
use Rattle.gl_verilog.specs.Run.{port_of}
use Rattle.gl_verilog_ports.specs.Profile.{declared}
use Rattle.gl_figures.specs.Reach.{OnceIsLess}
use Rattle.gl_elaborate.specs.Plans.{Several, plans_of}
use Rattle.gl_wiring.specs.Many.{AreWired, IsRightFor, ids_of, many_ports}
use Rattle.gl_wiring.specs.Wired.{plan_means}
use Rattle.gl_testbench.specs.declared.emitting.Emitted.{Emitted}
use Rattle.gl_testbench.specs.Driven.{OverRuns}
use Rattle.gl_testbench.specs.Emission.{IsEmission, TakesBeats}
use Rattle.gl_testbench.specs.Emitted.{IsEmitted}
use Rattle.gl_testbench.specs.Overflow.{TellsGroup}
use Rattle.gl_testbench.specs.Views.{seen_as}
use Rattle.gl_testbench.proofs.Emissions.{holds_of_runs}
use Rattle.gl_testbench.proofs.OverflowRuns.{KeepsLine, RunLaws, keeps_past, tells_group}
use Rattle.gl_testbench.proofs.PinLemmas.{outs_other}
use Rattle.gl_testbench.proofs.Showing.{NoClock, right_past, right_wider}
use Rattle.gl_testbench.proofs.Views.{past_within, view_steady}
use Rattle.gl_plan.specs.declared.several.PlannedSeveral.{PlannedSeveral}
use Rattle.gl_plan.specs.Together.{ArePlanned, several_at}
use Rattle.gl_compiler.specs.Meets.{result_columns}
use Rattle.gl_many.specs.Meets.{IsRightAmong, MeetTogether, most_memory_of_all, most_registers_of_all, outputs_among, outs_of, own_latency, shared_gaps, take_ticks}
use Rattle.gl_many.specs.Roots.{CanStand, root_of, roots_of}
use Rattle.gl_many.proofs.Ports.{takes_beats}
use Rattle.gl_many.proofs.Results.{root_result}
use Rattle.gl_many.proofs.Sizes.{few, light}
use Rattle.gl_many.proofs.Standing.{AllStand, Laws, StandsAt, all_accepted, figures_own, gaps_own, ids_are, reads_ticks, they_stand}

-- ---- one of them

module _ (runs : RunLaws) (schema : Schema) (nodes : List PlanNode) (gaps : Gaps) (net : Net) (text : List ℕ) (e : IsEmission net schema text) where
  module _ (s : Statement) (id : ℕ) (at : StandsAt nodes schema s id) (wired : IsRightFor schema nodes gaps net (root_of schema s id)) where
    abbrev outs : List (List ℕ)
    outs = map out_column (column_names (result_columns schema s))

    abbrev view : PortValues → PortValues
    view = seen_as s.name.text

    abbrev means : Meaning
    means = plan_means nodes id

    abbrev latency : ℕ
    latency = (figures_of nodes id).le + 1

    none : NoClock outs
    none = outs_other (column_names (result_columns schema s))

    -- what holds of the netlist, seen as this result, holds of the text: that it is right
    text_right : OverRuns e.design schema gaps (λ beats port. IsRight (IsResult schema s) latency beats outs (view port))
    text_right = λ beats value word driven.
        right_wider means (IsResult schema s) latency beats outs (root_result nodes schema s id beats driven.are at.right) (view (port_of e.design value))
        (holds_of_runs net schema text e gaps (λ all port. IsRight means latency all outs (view port))
        (past_within s.name.text (λ all port. IsRight means latency all outs port) (right_past means latency outs none)) wired.right beats value word driven)

    -- and that its overflow line is kept
    text_keeps : OverRuns e.design schema gaps (λ beats port. KeepsLine outs (view port))
    text_keeps =
        holds_of_runs net schema text e gaps (λ all port. KeepsLine outs (view port)) (past_within s.name.text (λ all port. KeepsLine outs port) (keeps_past outs none))
        (λ run all trace are keep stimulus. let h = wired.group run all trace are keep stimulus in record { lasts = h.lasts; stays = h.stays })

    one_right : IsRightAmong schema gaps e.design s
    one_right =
        let named : outs ≡ outs_of schema s = map_map out_column (λ (c : Column). c.name) (result_columns schema s) in
        let soon : latency ≡ own_latency schema s = ap (λ (f : Figures). f.le + 1) (figures_own nodes schema s id at) in
        record {
          right =
              subst (λ (n : ℕ). OverRuns e.design schema gaps (λ beats port. IsRight (IsResult schema s) n beats (outs_of schema s) (view port))) soon
              (subst (λ (names : List (List ℕ)). OverRuns e.design schema gaps (λ beats port. IsRight (IsResult schema s) latency beats names (view port))) named text_right);
          group =
              subst (λ (names : List (List ℕ)). OverRuns e.design schema gaps (λ beats port. TellsGroup (IsResult schema s) beats names (view port))) named
              (tells_group runs net schema text e view (view_steady s.name.text) outs none (IsResult schema s) latency gaps text_right text_keeps);
        }

  -- ---- all of them

  all_right : (ss : List Statement) (ids : List ℕ) → AllStand nodes schema ss ids → AllByRecursion (IsRightFor schema nodes gaps net) (roots_of schema ss ids)
      → AllByRecursion (IsRightAmong schema gaps e.design) ss
  all_right [] ids all wired = tt
  all_right (s ∷ ss) [] all wired = absurd all
  all_right (s ∷ ss) (id ∷ ids) all wired = (one_right s id all.0 wired.0, all_right ss ids all.1 wired.1)

-- the netlist has no more bits than the joint plan counts
module _ (schema : Schema) (ss : List Statement) (p : PlannedSeveral) (is : ArePlanned schema ss p) (net : Net) (wired : AreWired schema p.plan (roots_of schema ss p.roots.items) net)
    (ids : ids_of (roots_of schema ss p.roots.items) ≡ p.roots.items) where
  few_registers : register_bits_of net ≤ most_registers_of_all (plans_of [] schema ss)
  few_registers =
      subst (λ (all : Several). register_bits_of net ≤ most_registers_of_all all) is.at
      (subst (λ (is : List ℕ). register_bits_of net ≤ most_registers_of_all (several_at p.plan is)) ids wired.registers)

  few_memories : memory_bits_of net ≤ most_memory_of_all (plans_of [] schema ss)
  few_memories =
      subst (λ (all : Several). memory_bits_of net ≤ most_memory_of_all all) is.at
      (subst (λ (is : List ℕ). memory_bits_of net ≤ most_memory_of_all (several_at p.plan is)) ids wired.memories)

module _ (laws : Laws) (schema : Schema) (ss : List Statement) (p : PlannedSeveral) (can : CanStand schema ss) (is : ArePlanned schema ss p) where
  -- a text of the netlist of the statements' roots meets them
  pub text_meets : RunLaws → OnceIsLess → (heap : Global) (net : Net) (made : Emitted) → AreWired schema p.plan (roots_of schema ss p.roots.items) net → IsEmitted net made
      → MeetTogether schema ss (shared_gaps schema ss) made.text.items
  text_meets runs once heap net made wired t =
      let ids = p.roots.items in
      let all = they_stand laws schema ss p can is in
      let ticks = take_ticks ss in
      let outputs : List ProfilePort = flat_map (outputs_among schema) ss in
      let ports = wired.ports ∙ ap (λ b. many_ports b schema p.plan (roots_of schema ss ids)) (reads_ticks laws schema ss p can is heap) in
      let takes : TakesBeats ticks schema outputs net = takes_beats p.plan schema ss ids net all ports in
      let text : IsEmission net schema made.text.items = t.text ticks schema outputs can.of_schema takes in
      let gaps = gaps_own p.plan schema ss ids all in
      let own = ids_are p.plan schema ss ids all in
      record {
        accepted = all_accepted p.plan schema ss ids all;
        design = text.design;
        has = text.has;
        fits = t.fits (light laws schema ss p can is net once wired) (few laws schema ss p can is net takes);
        name = some_same text.design.name (codes "q__many") (text.name' ∙ wired.name);
        face = text.face ∙ ap (λ (ps : List ProfilePort). map declared (input clk 1 ∷ ps)) takes.ports;
        few_registers = subst (λ (n : ℕ). n ≤ most_registers_of_all (plans_of [] schema ss)) (sym text.registers) (few_registers schema ss p is net wired own);
        few_memories = subst (λ (n : ℕ). n ≤ most_memory_of_all (plans_of [] schema ss)) (sym text.memories) (few_memories schema ss p is net wired own);
        runs = text.runs;
        each = all_right runs schema p.plan (shared_gaps schema ss) net made.text.items text ss ids all
            (subst (λ (g : Gaps). AllByRecursion (IsRightFor schema p.plan g net) (roots_of schema ss ids)) gaps wired.each);
      }
