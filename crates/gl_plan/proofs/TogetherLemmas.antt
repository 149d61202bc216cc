-- Joint plans: one limit, and roots within.
use Rattle.std.proofs.Common.{◌≡◌, ℕ, ◌<◌, List, [], ◌∷◌, length, sym, ap, subst, ◌∙◌, arith}
use Rattle.std.specs.List.{AllByRecursion, AllZip}
use Rattle.gl_schema.specs.declared.schema.Schema.{Schema}
use Rattle.gl_query.specs.declared.tree.Statement.{Statement}
use Rattle.gl_query.specs.Checked.{IsChecked}
use Rattle.gl_query_check.specs.declared.checking.Checked.{Checked}
use Rattle.gl_algebra.specs.declared.node.PlanNode.{PlanNode}
use Rattle.gl_algebra.specs.Added.{placed_at}
use Rattle.gl_elaborate.specs.Laws.{IsRightAt, SeveralAreRight}
use Rattle.gl_elaborate.specs.Plans.{Several}
use Rattle.gl_plan.proofs.LimitLemmas.{one_limit}
use Rattle.gl_figures.specs.declared.Limit.{Limit}
use Rattle.gl_figures.specs.declared.Limit.TheVariants.{Latency, Nodes}
use Rattle.gl_plan.specs.Together.{AreWithinLimits, IsCheckedOver, PassLimit, SeveralPassOneLimit, plans_over, statements_of}

-- ---- one limit

one : (all : Several) (limit other : Limit) → PassLimit all limit → PassLimit all other → other ≡ limit
one all (Latency m) (Latency n) a b = (one_limit (placed_at all.nodes 0) (Latency m) a).only (Latency n) b
one all (Latency m) (Nodes w) a b = absurd (a.large (b.small m a.within))
one all (Nodes v) (Latency n) a b = absurd (b.large (a.small n b.within))
one all (Nodes v) (Nodes w) a b = ap Nodes (b.is ∙ sym a.is)

over : (all : Several) (limit : Limit) → PassLimit all limit → AreWithinLimits all → ⊥
over all (Latency m) a w = a.large (w.small m a.within)
over all (Nodes v) a w = absurd (omega (arith, w.light, a.heavy))

pub several-one-limit : SeveralPassOneLimit
several-one-limit all limit a = record { only = λ other b. one all limit other a b; over = over all limit a }

-- ---- roots

roots-in : (nodes : List PlanNode) (schema : Schema) (statements : List Statement) (roots : List ℕ)
    → AllZip (IsRightAt nodes schema) statements roots → AllByRecursion (λ root. root < length nodes) roots
roots-in nodes schema [] [] each = tt
roots-in nodes schema (s ∷ statements) (root ∷ roots) each = (each.0.within, roots-in nodes schema statements roots each.1)
roots-in nodes schema [] (root ∷ roots) each = absurd each
roots-in nodes schema (s ∷ statements) [] each = tt

each-checked : (schema : Schema) (all : List Checked) → AllByRecursion (IsCheckedOver schema) all
    → AllByRecursion (IsChecked schema) (statements_of all)
each-checked schema [] over = tt
each-checked schema (c ∷ all) over =
    (subst (λ (s : Schema). IsChecked s c.statement) over.0.same over.0.is, each-checked schema all over.1)

-- the root of each statement is a node of their joint plan
pub roots-within : SeveralAreRight → (schema : Schema) (all : List Checked) → AllByRecursion (IsCheckedOver schema) all
    → (nodes : List PlanNode) (roots : List ℕ) → nodes ≡ (plans_over [] schema all).nodes → roots ≡ (plans_over [] schema all).roots
    → AllByRecursion (λ root. root < length nodes) roots
roots-within several-right schema all over nodes roots p q =
    let right = several-right schema (statements_of all) (each-checked schema all over) in
    rw (p, q) (roots-in _ schema (statements_of all) _ right.each)
