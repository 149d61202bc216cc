-- What the joint plan of several statements gives, and the limit that it passes. No root has spare copies there.
use Rattle.std.specs.Prelude.{ℕ, ◌≡◌, ◌+◌, ◌<◌, ◌≤◌, sum_by, List, [], map, length}
use Rattle.std.specs.List.{AllByRecursion}
use Rattle.gl_bits.specs.Limits.{most_weight}
use Rattle.gl_schema.specs.declared.schema.Schema.{Schema}
use Rattle.gl_query.specs.declared.tree.Statement.{Statement}
use Rattle.gl_query.specs.Checked.{IsChecked}
use Rattle.gl_query_check.specs.declared.checking.Checked.{Checked}
use Rattle.gl_algebra.specs.declared.node.PlanNode.{PlanNode}
use Rattle.gl_algebra.specs.FigureTable.{figures_of}
use Rattle.gl_algebra.specs.Small.{AreFigures}
use Rattle.gl_algebra.specs.Roots.{output_part}
use Rattle.gl_algebra.specs.Weights.{weight_of}
use Rattle.gl_root_gaps.specs.Together.{gap_together, ticks_together}
use Rattle.gl_figures.specs.declared.Limit.{Limit}
use Rattle.gl_figures.specs.declared.Limit.TheVariants.{Latency, Nodes}
use Rattle.gl_figures.specs.Answered.{capped}
use Rattle.gl_elaborate.specs.Plans.{Several, plans_of}
use Rattle.gl_plan.specs.declared.planning.PlanFault.{PlanFault}
use Rattle.gl_plan.specs.declared.planning.PlanFault.TheVariants as fault
use Rattle.gl_plan.specs.Planned.{AreAllSmall, IsLateAt}
use Rattle.gl_plan.specs.declared.several.PlannedSeveral.{PlannedSeveral}

-- ---- what is asked

-- a statement that was checked over this schema
pub record IsCheckedOver (schema : Schema) (checked : Checked) : Type 0 where
  pub same : checked.schema ≡ schema
  pub is : IsChecked checked.schema checked.statement

-- the statements of a list of checked ones, in their order
abbrev pub statements_of : List Checked → List Statement
statements_of all = map (λ (checked : Checked). checked.statement) all

-- the joint plan of checked statements behind a plan's nodes
abbrev pub plans_over : List PlanNode → Schema → List Checked → Several
plans_over nodes schema all = plans_of nodes schema (statements_of all)

-- a joint plan with these nodes, and a root for each statement
abbrev pub several_at : List PlanNode → List ℕ → Several
several_at nodes roots = record { nodes = nodes; roots = roots }

-- ---- the limits

-- the weights of roots, each with its output's part: what two of them share counts for each
abbrev pub weight_together : List PlanNode → List ℕ → ℕ
weight_together nodes roots = sum_by (λ root. weight_of nodes root + output_part nodes root) roots

-- each figure of the plan is below 2^32, and the roots weigh at most 262,144 together
pub record AreWithinLimits (all : Several) : Type 0 where
  pub small : AreAllSmall all.nodes
  pub light : weight_together all.nodes all.roots ≤ most_weight

-- the figures are below 2^32, and the roots weigh more together; this is it, or 2^62 where it is more
pub record AreTooHeavy (all : Several) (weight : ℕ) : Type 0 where
  pub small : AreAllSmall all.nodes
  pub heavy : most_weight < weight_together all.nodes all.roots
  pub is : weight ≡ capped (weight_together all.nodes all.roots)

-- the limit that a joint plan passes: latency comes before weight
abbrev pub PassLimit : Several → Limit → Type 0
PassLimit all (Latency node) = IsLateAt all.nodes node
PassLimit all (Nodes weight) = AreTooHeavy all weight

-- why statements have no joint plan within the limits; want of memory is free
abbrev pub PassOr : Several → PlanFault → Type 0
PassOr all (fault.Limit limit) = PassLimit all limit
PassOr all fault.Memory = Unit {0}

-- ---- what is printed

-- the cycles from a beat with the end to the end on the output of a root, which comes one cycle after the root's
abbrev pub latency_alone : List PlanNode → ℕ → ℕ
latency_alone nodes root = (figures_of nodes root).le + 1

-- the joint plan of statements, which is within the limits, the figures of its nodes, and what is printed
pub record ArePlanned (schema : Schema) (statements : List Statement) (p : PlannedSeveral) : Type 0 where
  pub at : several_at p.plan p.roots.items ≡ plans_of [] schema statements
  pub within : AllByRecursion (λ root. root < length p.plan) p.roots.items
  pub limits : AreWithinLimits (plans_of [] schema statements)
  pub figures' : AreFigures p.plan p.figures.items
  pub latencies' : p.latencies.items ≡ map (latency_alone p.plan) p.roots.items
  pub gap' : p.gap ≡ gap_together p.plan p.roots.items
  pub ticks' : p.ticks ≡ ticks_together p.plan p.roots.items

-- ---- laws

-- a joint plan that passes a limit passes no other, and is not within the limits
pub record HaveOneLimit (all : Several) (limit : Limit) : Type 0 where
  pub only : (other : Limit) → PassLimit all other → other ≡ limit
  pub over : AreWithinLimits all → ⊥

-- a joint plan that passes limits has one that is answered, and no other
abbrev pub SeveralPassOneLimit : Type 0
SeveralPassOneLimit = (all : Several) (limit : Limit) → PassLimit all limit → HaveOneLimit all limit
