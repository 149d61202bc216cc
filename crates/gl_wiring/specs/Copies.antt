-- Copies of a body behind a front, of windows and of groups alike: the source, spaced where its tuples may come too
-- fast, and a circuit of the body behind each wire of the front.
use Rattle.std.specs.Prelude.{◌≡◌, ℕ, ◌+◌, ◌-◌, ◌*◌, ◌<◌, ◌≤◌, Bool, true, false, List, [], ◌∷◌, length, Option, Some, None, is_some, slice_get, option_map}
use Rattle.gl_algebra.specs.declared.figures.Figures.{Figures}
use Rattle.gl_algebra.specs.declared.node.PlanNode.{PlanNode}
use Rattle.gl_algebra.specs.Cost.{lean_of_spacer, store_of_spacer}
use Rattle.gl_algebra.specs.FigureTable.{NoCloser, figures_of, spaced}
use Rattle.gl_algebra.specs.Shapes.{Shape, kinds_of, unsteady}
use Rattle.gl_algebra.specs.Views.{body_of}
use Rattle.gl_algebra.specs.Weights.{weight_of_spacer}
use Rattle.gl_net.specs.declared.node.Bit.{Bit}
use Rattle.gl_net.specs.Net.{Net, Run, IsRun, Keeps}
use Rattle.gl_wire.specs.declared.emitted.Emitted.{Emitted}
use Rattle.gl_wire.specs.declared.wire.Wire.{Wire}
use Rattle.gl_wire.specs.Apart.{CarriesApart}
use Rattle.gl_wire.specs.Beats.{Beats, Spaced}
use Rattle.gl_wire.specs.Blocks.{IsBehindLines}
use Rattle.gl_wire.specs.Costs.{Cost, CostsAtMost}
use Rattle.gl_wire.specs.Serves.{Fits}
use Rattle.gl_wire.specs.Shapes.{Same}
use Rattle.gl_wire.specs.Spills.{never}
use Rattle.gl_wire.specs.Wire.{IsWire, carried, widths}
use Rattle.gl_wire_registers.specs.declared.front.Front.{Front}
use Rattle.gl_wire_registers.specs.Fronts.{IsBacked, IsFronted, Machine}
use Rattle.gl_wiring.specs.Leaves.{widths_of}
use Rattle.gl_wiring.specs.Put.{CanPut, Gives, plan_cost}

-- whether a node is put over copies of a body
abbrev pub is_over : PlanNode → Bool
is_over node = is_some (body_of node)

abbrev pub IsOverCopies : List PlanNode → ℕ → Type 0
IsOverCopies nodes id = option_map is_over (slice_get nodes id) ≡ Some true

-- beats of the second figures leave `gap` cycles behind all that a beat of the first ones causes
pub record LeavesRoom (gap : ℕ) (f g : Figures) : Type 0 where
  pub closer : NoCloser f g
  pub after : f.lt - f.a + gap ≤ g.gt
  pub after_end : f.le - f.a + gap ≤ g.ge

-- what a plan counts for the spacer of this gap, if one stands, for columns of these widths
abbrev pub cost_of_spaced : ℕ → Figures → List ℕ → Cost
cost_of_spaced gap f columns =
    let lines = length columns + 2 in
    record {
      nodes = weight_of_spacer gap f lines;
      registers = 64 * lean_of_spacer gap f lines;
      memories = store_of_spacer gap f lines;
    }

-- what a plan counts from a node's source on, with the spacer of this gap and what stands behind it
abbrev pub cost_from : List PlanNode → ℕ → ℕ → Cost → Cost
cost_from nodes source gap fore =
    let spacer = cost_of_spaced gap (figures_of nodes source) (widths_of (kinds_of nodes source)) in
    record {
      nodes = spacer.nodes + fore.nodes;
      registers = spacer.registers + fore.registers;
      memories = spacer.memories + fore.memories;
    }

-- a wire that carries the same rows, as far apart as this gap over all beats that leave room for it
pub record IsSpacedFor (old new : Net) (gap : ℕ) (f : Figures) (a b : Emitted) : Type 0 where
  pub behind : IsBehindLines old new f (spaced gap f) (λ sets. never Same)
      (widths a.wire.columns) (cost_of_spaced gap f (widths a.wire.columns)) a b
  pub apart : (run : Run) → IsRun new run → (g : Figures) → LeavesRoom gap (spaced gap f) g → (beats : Beats)
      → Spaced g beats
      → Fits f beats (carried run a.wire) → CarriesApart gap (carried run b.wire)

-- the rows of a node's source, as far apart as this gap
pub record IsSpacedSource (nodes : List PlanNode) (source gap : ℕ) (old new : Net) (tick : Option Bit)
    (leaves : List Wire) (e : Emitted) : Type 0 where
  pub below : Emitted
  pub gives : Gives nodes source old tick leaves below
  pub spaced' : IsSpacedFor old new gap (figures_of nodes source) below e

-- a node's shape, its pace left out
abbrev pub paceless : Shape → Shape
paceless s = record s { pace = unsteady; arrives = false }

-- a body can be put behind each wire of these columns
pub record CanStandBehind (nodes : List PlanNode) (figures : List Figures) (body : ℕ) (columns : List ℕ) : Type 0 where
  pub within : body < length nodes
  pub each : (net : Net) (wire : Wire) → IsWire net wire → widths wire.columns ≡ columns
      → CanPut nodes figures body net None (wire ∷ [])

-- a body can be put behind each of these wires
pub record CanCopy (nodes : List PlanNode) (figures : List Figures) (body : ℕ) (net : Net) (wires : List Wire)
    : Type 0 where
  pub within : body < length nodes
  pub each : (k : ℕ) (wire : Wire) → slice_get wires k ≡ Some wire → CanPut nodes figures body net None (wire ∷ [])

-- `count` circuits of a node
abbrev pub times : ℕ → Cost → Cost
times count cost = record {
  nodes = count * cost.nodes;
  registers = count * cost.registers;
  memories = count * cost.memories;
}

-- a circuit of the body behind each of `count` wires, which is its one leaf; it reads no ticks
pub record AreBodies (nodes : List PlanNode) (body : ℕ) (old new : Net) (wires : List Wire) (count : ℕ)
    (copies : List Emitted) : Type 0 where
  pub keeps : Keeps old new
  pub cost : CostsAtMost old new (times count (plan_cost nodes body))
  pub as_many : length copies ≡ count
  pub gives : (k : ℕ) (wire : Wire) (e : Emitted) → slice_get wires k ≡ Some wire → slice_get copies k ≡ Some e
      → Gives nodes body new None (wire ∷ []) e

-- a machine over copies of a body, behind its source: the front, a circuit of the body behind each of the front's wires,
-- and the back
pub record IsPutOver (nodes : List PlanNode) (body : ℕ) (m : Machine) (source : Emitted) (old new : Net) (e : Emitted)
    : Type 0 where
  pub mid : Net
  pub behind : Net
  pub front : Front
  pub copies : List Emitted
  pub fronted : IsFronted old mid m source front
  pub bodies : AreBodies nodes body mid behind front.wires m.count copies
  pub backed : IsBacked behind new m front copies e
