-- The circuits of all that some roots reach, each node once.
use Rattle.std.specs.Prelude.{ℕ, ◌≡◌, ◌*◌, ◌+◌, true, List, nat_eq, Option}
use Rattle.std.specs.List.{AllByRecursion, list_any}
use Rattle.gl_algebra.specs.declared.figures.Figures.{Figures}
use Rattle.gl_algebra.specs.declared.node.PlanNode.{PlanNode}
use Rattle.gl_net.specs.declared.node.Bit.{Bit}
use Rattle.gl_net.specs.Net.{Net, Keeps}
use Rattle.gl_figures.specs.Reach.{keys_of_reached, lean_of_reached, store_of_reached, weight_of_reached}
use Rattle.gl_wire.specs.declared.emitted.Emitted.{Emitted}
use Rattle.gl_wire.specs.declared.wire.Wire.{Wire}
use Rattle.gl_wire.specs.Costs.{Cost, CostsAtMost}
use Rattle.gl_wiring.specs.Put.{CanPut}
use Rattle.gl_wiring.specs.Tables.{HasCircuit}

-- what a plan counts for all that roots reach, each node once
abbrev pub once_cost : List PlanNode → List ℕ → Cost
once_cost nodes roots = record {
  nodes = weight_of_reached nodes roots;
  registers = 64 * lean_of_reached nodes roots + keys_of_reached nodes roots;
  memories = store_of_reached nodes roots;
}

-- each root can be put
abbrev pub CanPutAll : List PlanNode → List Figures → List ℕ → Net → Option Bit → List Wire → Type 0
CanPutAll nodes figures roots net tick leaves = AllByRecursion (λ root. CanPut nodes figures root net tick leaves) roots

-- each root has a circuit in the table, what stood before is kept, and no more is added than the plan counts for each node
-- once
pub record AreReached (nodes : List PlanNode) (roots : List ℕ) (old new : Net) (tick : Option Bit) (leaves : List Wire)
    (table : List (Option Emitted)) : Type 0 where
  pub keeps : Keeps old new
  pub cost : CostsAtMost old new (once_cost nodes roots)
  pub gives : (root : ℕ) → list_any (λ r. nat_eq r root) roots ≡ true → HasCircuit nodes new tick leaves table root
