-- What the plan of a statement gives, and the limit that it passes.
use Rattle.std.specs.Prelude.{ℕ, ◌≡◌, ◌<◌, ◌≤◌, List, length}
use Rattle.gl_bits.specs.Limits.{most_weight}
use Rattle.gl_schema.specs.declared.schema.Schema.{Schema}
use Rattle.gl_query.specs.declared.tree.Statement.{Statement}
use Rattle.gl_algebra.specs.declared.node.PlanNode.{PlanNode}
use Rattle.gl_algebra.specs.Added.{Placed, placed_at}
use Rattle.gl_algebra.specs.FigureTable.{AreSmall, figures_of}
use Rattle.gl_algebra.specs.Small.{AreFigures}
use Rattle.gl_algebra.specs.Roots.{spare_at, weight_with_output}
use Rattle.gl_figures.specs.declared.Limit.{Limit}
use Rattle.gl_figures.specs.declared.Limit.TheVariants.{Latency, Nodes}
use Rattle.gl_figures.specs.Answered.{capped, AreSmallBefore, IsPrinted}
use Rattle.gl_elaborate.specs.Plans.{plan_of}
use Rattle.gl_plan.specs.declared.planning.PlanFault.{PlanFault}
use Rattle.gl_plan.specs.declared.planning.PlanFault.TheVariants as fault
use Rattle.gl_plan.specs.declared.planning.Planned.{Planned}

-- each figure of a plan is below 2^32
abbrev pub AreAllSmall : List PlanNode → Type 0
AreAllSmall nodes = AreSmallBefore nodes (length nodes)

-- every figure of a plan is below 2^32, and its weight with the output is at most 262,144
pub record IsWithinLimits (at : Placed) : Type 0 where
  pub small : AreAllSmall at.nodes
  pub light : weight_with_output at.nodes at.root ≤ most_weight

-- this node is the first that has a figure of 2^32 or more
pub record IsLateAt (nodes : List PlanNode) (node : ℕ) : Type 0 where
  pub within : node < length nodes
  pub before : AreSmallBefore nodes node
  pub large : AreSmall (figures_of nodes node) → ⊥

-- the figures are below 2^32, and the weight with the output is more than 262,144; this is it, or 2^62 where it is more
pub record IsTooHeavy (at : Placed) (weight : ℕ) : Type 0 where
  pub small : AreAllSmall at.nodes
  pub heavy : most_weight < weight_with_output at.nodes at.root
  pub is : weight ≡ capped (weight_with_output at.nodes at.root)

-- the limit that a plan passes: latency comes before weight
abbrev pub PassesLimit : Placed → Limit → Type 0
PassesLimit at (Latency node) = IsLateAt at.nodes node
PassesLimit at (Nodes weight) = IsTooHeavy at weight

-- a statement's plan, which is within the limits, the figures of its nodes, and what is printed of it
pub record IsPlanned (schema : Schema) (statement : Statement) (p : Planned) : Type 0 where
  pub at : placed_at p.plan p.root ≡ plan_of schema statement
  pub within : p.root < length p.plan
  pub limits : IsWithinLimits (plan_of schema statement)
  pub figures' : AreFigures p.plan p.figures.items
  pub printed' : IsPrinted p.plan p.root p.printed
  pub spare' : p.spare ≡ spare_at p.plan p.root

-- why a statement has no such plan; want of memory is free
abbrev pub PassesOr : Placed → PlanFault → Type 0
PassesOr at (fault.Limit limit) = PassesLimit at limit
PassesOr at fault.Memory = Unit {0}

-- a plan that passes a limit passes no other, and is not within the limits
pub record HasOneLimit (at : Placed) (limit : Limit) : Type 0 where
  pub only : (other : Limit) → PassesLimit at other → other ≡ limit
  pub over : IsWithinLimits at → ⊥

-- a plan that passes limits has one that is answered, and no other
abbrev pub PlansPassOneLimit : Type 0
PlansPassOneLimit = (at : Placed) (limit : Limit) → PassesLimit at limit → HasOneLimit at limit
