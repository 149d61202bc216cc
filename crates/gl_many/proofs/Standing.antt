-- Statements at their roots in a joint plan: what is known of each, and that they can be wired together.
use Rattle.std.proofs.Common.{◌≡◌, ℕ, ◌+◌, ◌<◌, ◌≤◌, ◌^◌, max, List, [], ◌∷◌, length, map, Some, None, Global, refl, sym, ap, subst, ◌∙◌, arith}
use Rattle.std.specs.Prelude.{bytes_eq, is_some, unwrap_or, ◌||◌, if◌then◌else◌}
use Rattle.std.specs.List.{AllByRecursion, AllZip, IsDistinct, list_any}
use Rattle.gl_gaps.specs.Keeps.{gaps_with}
use Rattle.gl_schema.specs.declared.schema.Schema.{Schema}
use Rattle.gl_schema.specs.Schemas.{kinds_of}
use Rattle.gl_query.specs.declared.tree.Statement.{Statement}
use Rattle.gl_query.specs.Accepted.{IsAccepted}
use Rattle.gl_query.specs.Checked.{IsChecked}
use Rattle.gl_query.specs.Laws.{AcceptedHaveRealColumns}
use Rattle.gl_algebra.specs.Known.{AreKnown}
use Rattle.gl_algebra.specs.declared.figures.Figures.{Figures}
use Rattle.gl_algebra.specs.declared.node.PlanNode.{PlanNode}
use Rattle.gl_algebra.specs.FigureTable.{figures_of}
use Rattle.gl_algebra.specs.Shapes.{Shape}
use Rattle.gl_algebra.specs.Shapes as shapes
use Rattle.gl_algebra.specs.Small.{AreFigures}
use Rattle.gl_algebra.specs.Views.{reads_time}
use Rattle.gl_elaborate.specs.Laws.{IsRightAt, PlansAreRight, PlansTellTime, SeveralAreRight, parameter_widths}
use Rattle.gl_elaborate.specs.Plans.{Several}
use Rattle.gl_elaborate.specs.Whole.{statement_ticks}
use Rattle.gl_plan.specs.Planned.{AreAllSmall}
use Rattle.gl_plan.specs.declared.several.PlannedSeveral.{PlannedSeveral}
use Rattle.gl_plan.specs.Together.{ArePlanned, latency_alone}
use Rattle.gl_root_gaps.specs.Roots.{gap_with, tick_gaps_at, ticks_with}
use Rattle.gl_root_gaps.specs.Together.{farthest_ticks, gap_alone, gap_together, ticks_alone, ticks_together}
use Rattle.gl_wiring.specs.Many.{CanWireAll, CanWireRoot, gaps_together, ids_of, intos, result_names}
use Rattle.gl_wiring.specs.StreamWires.{AreStreamLeaves}
use Rattle.gl_compiler.specs.Meets.{result_columns}
use Rattle.gl_compiler.proofs.KnownOf.{Known, known}
use Rattle.gl_many.specs.Meets.{own_figures, own_gap, own_latency, own_tick_gap, shared_gap, shared_gaps, shared_tick_gap, shared_ticks, take_ticks}
use Rattle.gl_many.specs.Roots.{CanStand, IsNamed, names_of, root_of, roots_of}
use Rattle.gl_many.proofs.Times.{several-time}

-- a statement at a node of a joint plan
pub record StandsAt (nodes : List PlanNode) (schema : Schema) (statement : Statement) (id : ℕ) : Type 0 where
  pub is : IsChecked schema statement
  pub known' : Known schema statement
  pub right : IsRightAt nodes schema statement id

module _ (nodes : List PlanNode) (schema : Schema) (statement : Statement) (id : ℕ) (at : StandsAt nodes schema statement id) where
  -- its figures and its shape are its own
  pub figures_own : figures_of nodes id ≡ own_figures schema statement
  figures_own = at.right.figures

  pub kinds_own : shapes.kinds_of nodes id ≡ kinds_of (result_columns schema statement)
  kinds_own = ap (λ (x : Shape). x.kinds) at.right.shape

  -- and so are its gaps
  gap_at : gap_alone nodes id ≡ own_gap schema statement
  gap_at = λ i. gap_with (at.right.ticks i) (figures_own i).gt

  ticks_at : ticks_alone nodes id ≡ own_tick_gap schema statement
  ticks_at = λ i. unwrap_or (ticks_with (at.right.ticks i)) (gap_at i)

  can_wire : CanWireRoot schema nodes (root_of schema statement id)
  can_wire =
      let k = at.known' in
      let same = k.right.shape ∙ sym at.right.shape in
      record {
        within = at.right.within;
        leaves = subst (λ (x : Shape). AreStreamLeaves schema.streams x.leaves) same k.leaves;
        named = record {
          many' = k.many ∙ ap (λ (x : Shape). length x.kinds) same;
          into = k.into;
          columns = k.named;
          distinct = k.columns.distinct;
        };
      }

abbrev pub AllStand : List PlanNode → Schema → List Statement → List ℕ → Type 0
AllStand nodes schema ss ids = AllZip (StandsAt nodes schema) ss ids

-- ---- where all stand

module _ (nodes : List PlanNode) (schema : Schema) where
  pub ids_are : (ss : List Statement) (ids : List ℕ) → AllStand nodes schema ss ids → ids_of (roots_of schema ss ids) ≡ ids
  ids_are [] [] all = refl
  ids_are [] (id ∷ ids) all = absurd all
  ids_are (s ∷ ss) [] all = absurd all
  ids_are (s ∷ ss) (id ∷ ids) all = ap (λ (x : List ℕ). id ∷ x) (ids_are ss ids all.1)

  intos_are : (ss : List Statement) (ids : List ℕ) → AllStand nodes schema ss ids → intos (result_names (roots_of schema ss ids)) ≡ names_of ss
  intos_are [] [] all = refl
  intos_are [] (id ∷ ids) all = absurd all
  intos_are (s ∷ ss) [] all = absurd all
  intos_are (s ∷ ss) (id ∷ ids) all = ap (λ (x : List (List ℕ)). s.name.text ∷ x) (intos_are ss ids all.1)

  each_wires : (ss : List Statement) (ids : List ℕ) → AllStand nodes schema ss ids → AllByRecursion (CanWireRoot schema nodes) (roots_of schema ss ids)
  each_wires [] [] all = tt
  each_wires [] (id ∷ ids) all = absurd all
  each_wires (s ∷ ss) [] all = absurd all
  each_wires (s ∷ ss) (id ∷ ids) all = (can_wire nodes schema s id all.0, each_wires ss ids all.1)

  pub can_wire_all : (figures : List Figures) (ss : List Statement) (ids : List ℕ) → CanStand schema ss → AreFigures nodes figures → AreKnown (parameter_widths schema) nodes → AllStand nodes schema ss ids
      → CanWireAll schema nodes figures (roots_of schema ss ids)
  can_wire_all figures ss ids can figured are_known all = record {
    schema' = can.of_schema;
    figured = figured;
    known = are_known;
    each = each_wires ss ids all;
    distinct = subst (λ (names : List (List ℕ)). IsDistinct bytes_eq names) (sym (intos_are ss ids all)) can.distinct;
  }

  pub all_accepted : (ss : List Statement) (ids : List ℕ) → AllStand nodes schema ss ids → AllByRecursion (IsAccepted schema) ss
  all_accepted [] ids all = tt
  all_accepted (s ∷ ss) [] all = absurd all
  all_accepted (s ∷ ss) (id ∷ ids) all = (all.0.is.accepted, all_accepted ss ids all.1)

  -- ---- figures

  gap_own : (ss : List Statement) (ids : List ℕ) → AllStand nodes schema ss ids → gap_together nodes ids ≡ shared_gap schema ss
  gap_own [] [] all = refl
  gap_own [] (id ∷ ids) all = absurd all
  gap_own (s ∷ ss) [] all = absurd all
  gap_own (s ∷ ss) (id ∷ ids) all =
      ap (λ n. max n (gap_together nodes ids)) (gap_at nodes schema s id all.0) ∙ ap (max (own_gap schema s)) (gap_own ss ids all.1)

  farthest_own : (ss : List Statement) (ids : List ℕ) → AllStand nodes schema ss ids → farthest_ticks nodes ids ≡ shared_tick_gap schema ss
  farthest_own [] [] all = refl
  farthest_own [] (id ∷ ids) all = absurd all
  farthest_own (s ∷ ss) [] all = absurd all
  farthest_own (s ∷ ss) (id ∷ ids) all =
      ap (λ n. max n (farthest_ticks nodes ids)) (ticks_at nodes schema s id all.0) ∙ ap (max (own_tick_gap schema s)) (farthest_own ss ids all.1)

  any_own : (ss : List Statement) (ids : List ℕ) → AllStand nodes schema ss ids
      → list_any (λ id. is_some (tick_gaps_at nodes id)) ids ≡ list_any (λ s. is_some (statement_ticks schema s)) ss
  any_own [] [] all = refl
  any_own [] (id ∷ ids) all = absurd all
  any_own (s ∷ ss) [] all = absurd all
  any_own (s ∷ ss) (id ∷ ids) all = λ i. is_some (all.0.right.ticks i) || any_own ss ids all.1 i

  ticks_own : (ss : List Statement) (ids : List ℕ) → AllStand nodes schema ss ids → ticks_together nodes ids ≡ shared_ticks schema ss
  ticks_own ss ids all = λ i. if any_own ss ids all i then Some (farthest_own ss ids all i) else None

  pub gaps_own : (ss : List Statement) (ids : List ℕ) → AllStand nodes schema ss ids → gaps_together nodes (ids_of (roots_of schema ss ids)) ≡ shared_gaps schema ss
  gaps_own ss ids all = ap (gaps_together nodes) (ids_are ss ids all) ∙ (λ i. gaps_with (gap_own ss ids all i) (ticks_own ss ids all i))

  latencies_own : (ss : List Statement) (ids : List ℕ) → AllStand nodes schema ss ids → map (latency_alone nodes) ids ≡ map (own_latency schema) ss
  latencies_own [] [] all = refl
  latencies_own [] (id ∷ ids) all = absurd all
  latencies_own (s ∷ ss) [] all = absurd all
  latencies_own (s ∷ ss) (id ∷ ids) all =
      ap (λ (f : Figures). (f.le + 1) ∷ map (latency_alone nodes) ids) (figures_own nodes schema s id all.0) ∙ ap (λ (x : List ℕ). own_latency schema s ∷ x) (latencies_own ss ids all.1)

-- ---- statements that can stand do, in their joint plan

-- the laws of what stands below, by which they do
pub record Laws : Type 0 where
  pub columns : AcceptedHaveRealColumns
  pub plans : PlansAreRight
  pub several : SeveralAreRight
  pub time : PlansTellTime

all_stand : Laws → (nodes : List PlanNode) (schema : Schema) (ss : List Statement) (ids : List ℕ) → AllByRecursion (IsChecked schema) ss → AllByRecursion IsNamed ss
    → AllZip (IsRightAt nodes schema) ss ids → AllStand nodes schema ss ids
all_stand laws nodes schema [] [] checked named right = tt
all_stand laws nodes schema [] (id ∷ ids) checked named right = absurd right
all_stand laws nodes schema (s ∷ ss) [] checked named right = absurd right
all_stand laws nodes schema (s ∷ ss) (id ∷ ids) checked named right = (
  record { is = checked.0; known' = known laws.plans laws.columns schema s checked.0 named.0; right = right.0 },
  all_stand laws nodes schema ss ids checked.1 named.1 right.1,
)

all_short : (nodes : List PlanNode) (ids : List ℕ) → AreAllSmall nodes → AllByRecursion (λ id. id < length nodes) ids
    → AllByRecursion (λ latency. latency ≤ 2 ^ 32) (map (latency_alone nodes) ids)
all_short nodes [] small within = tt
all_short nodes (id ∷ ids) small within = let soon = (small id within.0).le in (omega (arith, soon), all_short nodes ids small within.1)

module _ (laws : Laws) (schema : Schema) (ss : List Statement) (p : PlannedSeveral) (can : CanStand schema ss) (is : ArePlanned schema ss p) where
  pub they_stand : AllStand p.plan schema ss p.roots.items
  they_stand = subst (λ (all : Several). AllStand all.nodes schema ss all.roots) (sym is.at)
      (all_stand laws _ schema ss _ can.checked can.named (laws.several schema ss can.checked).each)

  pub no_others : AreKnown (parameter_widths schema) p.plan
  no_others = subst (λ (all : Several). AreKnown (parameter_widths schema) all.nodes) (sym is.at) (laws.several schema ss can.checked).known

  pub reads_ticks : Global → reads_time p.plan ≡ take_ticks ss
  reads_ticks heap = ap (λ (all : Several). reads_time all.nodes) is.at ∙ several-time laws.time heap schema ss

  pub latencies_are : p.latencies.items ≡ map (own_latency schema) ss
  latencies_are = is.latencies' ∙ latencies_own p.plan schema ss p.roots.items they_stand

  pub gap_is : p.gap ≡ shared_gap schema ss
  gap_is = is.gap' ∙ gap_own p.plan schema ss p.roots.items they_stand

  pub ticks_are : p.ticks ≡ shared_ticks schema ss
  ticks_are = is.ticks' ∙ ticks_own p.plan schema ss p.roots.items they_stand

  pub short : AllByRecursion (λ latency. latency ≤ 2 ^ 32) p.latencies.items
  short =
      let small = subst (λ (all : Several). AreAllSmall all.nodes) (sym is.at) is.limits.small in
      subst (AllByRecursion (λ latency. latency ≤ 2 ^ 32)) (sym is.latencies') (all_short p.plan p.roots.items small is.within)
