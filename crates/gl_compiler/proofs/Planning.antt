-- What the plan of a statement says of what is compiled.
use Rattle.std.proofs.Common.{◌≡◌, ℕ, ◌+◌, ◌≤◌, ◌^◌, Option, Some, None, refl, sym, subst, ap, ◌∙◌, arith}
use Rattle.std.specs.Prelude.{unwrap_or}
use Rattle.gl_gaps.specs.declared.Gaps.{Gaps}
use Rattle.gl_schema.specs.declared.schema.Schema.{Schema}
use Rattle.gl_gaps.specs.Keeps.{gaps_with}
use Rattle.gl_query.specs.declared.tree.Statement.{Statement}
use Rattle.gl_query.specs.Checked.{IsChecked}
use Rattle.gl_query.specs.Columns.{sources_of}
use Rattle.gl_query.specs.Shapes.{QueryShape, query_shape}
use Rattle.gl_algebra.specs.Added.{Placed}
use Rattle.gl_algebra.specs.FigureTable.{figures_of}
use Rattle.gl_algebra.specs.Roots as roots
use Rattle.gl_root_gaps.specs.Roots as root_gaps
use Rattle.gl_root_gaps.specs.Roots.{RootsComeCloser, gap_with, ticks_with}
use Rattle.gl_algebra.specs.declared.figures.Figures.{Figures}
use Rattle.gl_figures.proofs.PrintedLemmas.{root_small}
use Rattle.gl_elaborate.specs.Laws.{PlansAreRight}
use Rattle.gl_elaborate.specs.Plans.{plan_of}
use Rattle.gl_elaborate.specs.Whole.{RootsAreRight, query_ticks, whole_figures}
use Rattle.gl_plan.specs.declared.planning.Planned.{Planned}
use Rattle.gl_plan.specs.Planned.{IsPlanned}
use Rattle.gl_compiler.specs.Built.{GapsAreNoFarther, IsBuilt, IsNoFarther, copies_of, gap_of, gaps_of, latency_of, own_gap_of, printed_gaps, ticks_of}

-- the gaps of a query of this shape
abbrev pub gaps_at : Schema → QueryShape → Gaps
gaps_at s q = gaps_with (gap_with (query_ticks (sources_of s) q) (whole_figures s q).gt) (ticks_with (query_ticks (sources_of s) q))

-- ticks with a gap of their own, or with that of beats, are no farther apart than both
within_own : (own gap : ℕ) (ticks : Option ℕ) → gap ≤ own → ((n : ℕ) → ticks ≡ Some n → n ≤ own) → unwrap_or ticks gap ≤ own
within_own own gap None near each = near
within_own own gap (Some n) near each = each n refl

-- beats and ticks may come as close as the query's own gap says, and beats closer with spare copies, or where ticks are farther apart
pub no_farther : PlansAreRight → RootsAreRight → RootsComeCloser → GapsAreNoFarther
no_farther plans tops comes schema statement checked =
    let right = plans schema statement checked in
    let top = tops schema statement checked in
    let at = plan_of schema statement in
    let closer = comes at.nodes at.root right.plan right.within in
    let gap : root_gaps.gap_of at.nodes at.root ≡ gap_of schema statement = λ i. gap_with (top.ticks i) (top.figures i).gt in
    let ticks : root_gaps.ticks_of at.nodes at.root ≡ ticks_of schema statement = ap ticks_with top.ticks in
    let own : (figures_of at.nodes at.root).gt ≡ own_gap_of schema statement = ap (λ (f : Figures). f.gt) right.figures in
    let never = closer.never_farther in
    let near : gap_of schema statement ≤ own_gap_of schema statement = omega (arith, never, gap, own) in
    record {
      never_farther = near;
      ticks_neither = within_own (own_gap_of schema statement) (gap_of schema statement) (ticks_of schema statement) near
          (λ n e. let few = (closer.with_ticks n (ticks ∙ e)).1 in omega (arith, few, own));
      with_spare = λ it h. let less = closer.with_spare it (top.spare ∙ h) in omega (arith, less, gap, own);
      with_ticks = λ it h. let less = (closer.with_ticks it.ticks (ticks ∙ ap ticks_with h)).0 in omega (arith, less, gap, own);
    }

-- statements whose queries have one shape have the same gaps
pub gaps_by_shape : (s : Schema) (st st' : Statement) → query_shape st.query ≡ query_shape st'.query → gaps_of s st ≡ gaps_of s st'
gaps_by_shape s st st' same = ap (λ (q : QueryShape). gaps_at s q) same

module _ (schema : Schema) (statement : Statement) (p : Planned) (checked : IsChecked schema statement) (is : IsPlanned schema statement p) where
  pub is_built : IsBuilt schema statement
  is_built = record { accepted = checked.accepted; within = is.limits }

  pub short : PlansAreRight → p.printed.latency ≤ 2 ^ 32
  short plans =
      let right = plans schema statement checked in
      let same = ap (λ (x : Placed). roots.latency_of x.nodes x.root) is.at in
      let small = is.limits.small (plan_of schema statement).root right.within in
      let soon = root_small (plan_of schema statement).nodes (plan_of schema statement).root right.plan right.within small in
      omega (arith, is.printed'.latency, same, soon)

  pub copies_are : p.printed.copies ≡ copies_of schema statement
  copies_are = is.printed'.copies ∙ ap (λ (x : Placed). roots.copies_with_spare x.nodes x.root) is.at

  -- what is printed of the plan's root is the statement's
  module _ (tops : RootsAreRight) where
    pub latency_is : p.printed.latency ≡ latency_of schema statement
    latency_is = is.printed'.latency ∙ ap (λ (x : Placed). roots.latency_of x.nodes x.root) is.at ∙ ap (λ (f : Figures). f.le + 1) (tops schema statement checked).figures

    pub gap_is : p.printed.gap ≡ gap_of schema statement
    gap_is =
        let top = tops schema statement checked in
        is.printed'.gap ∙ ap (λ (x : Placed). root_gaps.gap_of x.nodes x.root) is.at ∙ (λ i. gap_with (top.ticks i) (top.figures i).gt)

    pub ticks_are : p.printed.ticks ≡ ticks_of schema statement
    ticks_are = is.printed'.ticks ∙ ap (λ (x : Placed). root_gaps.ticks_of x.nodes x.root) is.at ∙ ap ticks_with (tops schema statement checked).ticks

    pub gaps_are : printed_gaps p.printed ≡ gaps_of schema statement
    gaps_are = λ i. gaps_with (gap_is i) (ticks_are i)

    pub closer_is : GapsAreNoFarther → IsNoFarther schema statement (printed_gaps p.printed)
    closer_is no_farther = subst (IsNoFarther schema statement) (sym gaps_are) (no_farther schema statement checked)
