-- The wires of a plan's leaves: the wire at place k is that of stream k, and a body's input is the wire at place 0. Beside
-- them a line may tell of ticks.
use Rattle.std.specs.Prelude.{◌≡◌, ℕ, List, [], ◌∷◌, map, Bool, Option, Some, None, false, is_some, slice_get, IsTrue}
use Rattle.std.specs.List.{AllByRecursion}
use Rattle.gl_values.specs.Kinds.{width_of}
use Rattle.gl_values.specs.declared.kind.Kind.{Kind}
use Rattle.gl_algebra.specs.declared.node.PlanNode.{PlanNode}
use Rattle.gl_algebra.specs.declared.node.PlanNode.TheVariants.{Stream, Body}
use Rattle.gl_algebra.specs.FigureTable.{input_figures}
use Rattle.gl_net.specs.declared.node.Bit.{Bit}
use Rattle.gl_net.specs.Net.{Net, Run}
use Rattle.gl_wire.specs.declared.wire.Wire.{Wire}
use Rattle.gl_wire.specs.Beats.{Beats}
use Rattle.gl_wire.specs.Faults.{line_of}
use Rattle.gl_wire.specs.Serves.{Fits}
use Rattle.gl_wire.specs.Ticks.{TicksFit}
use Rattle.gl_wire.specs.Wire.{Carried, IsWire, carried, widths}

-- what is carried where there is no wire
abbrev pub silent : Carried
silent = record { tuple = λ c. None; ends = λ c. false }

abbrev pub carried_by : Run → Option Wire → Carried
carried_by run None = silent
carried_by run (Some wire) = carried run wire

-- what the wire at a place carries in a run
abbrev pub leaf : Run → List Wire → ℕ → Carried
leaf run leaves place = carried_by run (slice_get leaves place)

-- the place of a leaf's wire
abbrev pub leaf_place : PlanNode → ℕ
leaf_place (Stream number kinds) = number
leaf_place _ = 0

abbrev pub leaf_kinds : PlanNode → List Kind
leaf_kinds (Stream number kinds) = kinds
leaf_kinds (Body kinds) = kinds
leaf_kinds _ = []

-- the widths of columns of these kinds
abbrev pub widths_of : List Kind → List ℕ
widths_of kinds = map width_of kinds

-- there is a wire for a leaf, with the leaf's columns
pub record HasLeaf (net : Net) (leaves : List Wire) (node : PlanNode) : Type 0 where
  pub wire : Wire
  pub there : slice_get leaves (leaf_place node) ≡ Some wire
  pub is : IsWire net wire
  pub same_widths : widths wire.columns ≡ widths_of (leaf_kinds node)

-- and for each of some leaves
abbrev pub HaveLeaves : Net → List Wire → List PlanNode → Type 0
HaveLeaves net leaves [] = Unit {0}
HaveLeaves net leaves (node ∷ nodes) = HasLeaf net leaves node × HaveLeaves net leaves nodes

-- where the time of rows is read, there is a line of ticks beside a stream
abbrev pub HasLine : Bool → Option Bit → PlanNode → Type 0
HasLine reads tick (Stream number kinds) = IsTrue reads → IsTrue (is_some tick)
HasLine reads tick _ = Unit {0}

-- and beside each of some leaves
abbrev pub HaveLine : Bool → Option Bit → List PlanNode → Type 0
HaveLine reads tick nodes = AllByRecursion (HasLine reads tick) nodes

-- each leaf's wire carries a tuple or an end with a beat, in the beat's own cycle, and each tick comes with a beat
pub record LeavesFit (run : Run) (tick : Option Bit) (leaves : List Wire) (beats : Beats) : Type 0 where
  pub each : (place : ℕ) (wire : Wire) → slice_get leaves place ≡ Some wire
      → Fits input_figures beats (carried run wire)
  pub ticks : TicksFit (line_of run tick) beats
