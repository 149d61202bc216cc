-- Tables of circuits: one for each marked node below a limit.
use Rattle.std.specs.Prelude.{ℕ, ◌≡◌, ◌<◌, ◌+◌, ◌*◌, Bool, true, false, List, length, get_or, Option, Some, None, slice_get}
use Rattle.std.specs.List.{AllByRecursion}
use Rattle.gl_algebra.specs.declared.figures.Figures.{Figures}
use Rattle.gl_algebra.specs.declared.node.PlanNode.{PlanNode}
use Rattle.gl_algebra.specs.Views.{children_of}
use Rattle.gl_net.specs.declared.node.Bit.{Bit}
use Rattle.gl_net.specs.Net.{Net, Keeps}
use Rattle.gl_figures.specs.Reach.{keys_part, lean_part, store_part, sum_where, weight_part}
use Rattle.gl_wire.specs.declared.emitted.Emitted.{Emitted}
use Rattle.gl_wire.specs.declared.wire.Wire.{Wire}
use Rattle.gl_wire.specs.Costs.{Cost, CostsAtMost}
use Rattle.gl_wiring.specs.Put.{CanPut, Gives, IsPutBehind}
use Rattle.gl_wiring.specs.Roots.{GivesOnce}

abbrev pub is_marked : List Bool → ℕ → Bool
is_marked marks id = get_or marks id false

-- what a plan counts for all marked nodes below a limit, each once
abbrev pub cost_up_to : List PlanNode → List Bool → ℕ → Cost
cost_up_to nodes marks limit =
    let marked : ℕ → Bool = is_marked marks in
    record {
      nodes = sum_where marked (weight_part nodes) limit;
      registers = 64 * sum_where marked (lean_part nodes) limit + sum_where marked (keys_part nodes) limit;
      memories = sum_where marked (store_part nodes) limit;
    }

-- each marked node can be put, and its children are marked
pub record CanPutMarked (nodes : List PlanNode) (figures : List Figures) (marks : List Bool) (net : Net)
    (tick : Option Bit) (leaves : List Wire) : Type 0 where
  pub as_many : length marks ≡ length nodes
  pub closed : (id : ℕ) (node : PlanNode) → slice_get nodes id ≡ Some node → is_marked marks id ≡ true
      → AllByRecursion (λ child. is_marked marks child ≡ true) (children_of node)
  pub can : (id : ℕ) → is_marked marks id ≡ true → CanPut nodes figures id net tick leaves

-- an entry of a table is a circuit that gives a node's results, and over one stream where its ticks are farther apart
pub record HasCircuit (nodes : List PlanNode) (net : Net) (tick : Option Bit) (leaves : List Wire)
    (table : List (Option Emitted)) (id : ℕ) : Type 0 where
  pub circuit : Emitted
  pub there : slice_get table id ≡ Some (Some circuit)
  pub gives : Gives nodes id net tick leaves circuit
  pub once : GivesOnce nodes id net tick leaves circuit

-- so are those of all children of a node
abbrev pub HaveChildren : List PlanNode → ℕ → Net → Option Bit → List Wire → List (Option Emitted) → Type 0
HaveChildren nodes id net tick leaves table = (node : PlanNode) → slice_get nodes id ≡ Some node
    → AllByRecursion (HasCircuit nodes net tick leaves table) (children_of node)

-- the circuits of all marked nodes below a limit: what stood before is kept, and no more is added than the plan counts
-- for each of them once
pub record ArePutTo (nodes : List PlanNode) (marks : List Bool) (limit : ℕ) (old new : Net) (tick : Option Bit)
    (leaves : List Wire) (table : List (Option Emitted)) : Type 0 where
  pub as_many : length table ≡ limit
  pub keeps : Keeps old new
  pub cost : CostsAtMost old new (cost_up_to nodes marks limit)
  pub gives : (id : ℕ) → id < limit → is_marked marks id ≡ true → HasCircuit nodes new tick leaves table id

-- an entry: the node's circuit where it is marked, else none
pub record IsSlot (nodes : List PlanNode) (id : ℕ) (old new : Net) (tick : Option Bit) (leaves : List Wire)
    (marked : Bool) (slot : Option Emitted) : Type 0 where
  pub over : marked ≡ false → (slot ≡ None) × (new ≡ old)
  pub once : marked ≡ true → (e : Emitted) × (slot ≡ Some e) × IsPutBehind nodes id old new tick leaves e
      × GivesOnce nodes id new tick leaves e
