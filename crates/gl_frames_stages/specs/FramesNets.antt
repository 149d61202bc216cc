-- A select of frames in a netlist.
use Rattle.std.specs.Prelude.{◌≡◌, ℕ, List, map}
use Rattle.gl_algebra.specs.Columns.{kind_of_frame}
use Rattle.gl_algebra.specs.Results.{row_of_frames}
use Rattle.gl_algebra.specs.declared.node.PlanFrame.{PlanFrame}
use Rattle.gl_values.specs.Kinds.{width_of}
use Rattle.gl_values.specs.declared.kind.Kind.{Kind}
use Rattle.gl_net.specs.declared.node.Bus.{Bus}
use Rattle.gl_net.specs.Net.{Net, Run, IsRun, Keeps}
use Rattle.gl_wire.specs.Costs.{CostsAtMost}
use Rattle.gl_wire.specs.Wire.{AreBuses, row_at, widths}
use Rattle.gl_frames_stages.specs.Columns.{Tells}
use Rattle.gl_frames_stages.specs.Inputs.{rows_by}
use Rattle.gl_frames_stages.specs.ItemCosts.{cost_of_items}
use Rattle.gl_frames_stages.specs.declared.input.Input.{Input}

-- the widths of the items' columns
abbrev pub frames_widths : List Kind → List PlanFrame → List ℕ
frames_widths kinds items = map width_of (map (kind_of_frame kinds) items)

-- a bus for each of some items, so many cycles behind each row
pub record AreItemsIn (old new : Net) (cycles : ℕ) (input : Input) (items : List PlanFrame) (outs : List Bus) : Type 0 where
  pub keeps : Keeps old new
  pub cost : CostsAtMost old new (cost_of_items input.source.kinds.now cycles items)
  pub buses : AreBuses new outs
  pub same_widths : widths outs ≡ frames_widths input.source.kinds.now items
  pub row : (run : Run) → IsRun new run → Tells run input.lines cycles
      (row_of_frames run.held input.source.kinds.now items) (rows_by run input) (λ t. row_at run t outs)
