-- What frames cost at most is within what a plan counts for their node.
use Rattle.std.specs.Prelude.{◌+◌, All, List, length}
use Rattle.gl_algebra.specs.Columns.{FrameFits}
use Rattle.gl_algebra.specs.Cost.{store_of_frames}
use Rattle.gl_algebra.specs.Frames.{delay_of_frames}
use Rattle.gl_algebra.specs.Weights.{weight_of_frames}
use Rattle.gl_algebra.specs.declared.node.PlanFrame.{PlanFrame}
use Rattle.gl_values.specs.Kinds.{IsKind}
use Rattle.gl_values.specs.declared.kind.Kind.{Kind}
use Rattle.gl_wire.specs.Counted.{IsCounted}
use Rattle.gl_frames_stages.specs.ItemCosts.{cost_of_frames}

-- a node of items has as many lines as items, and two; its weight counts for its registers too
abbrev pub FramesAreCounted : Type 0
FramesAreCounted =
    (kinds : List Kind) (items : List PlanFrame) → All IsKind kinds → All (FrameFits kinds) items
    → IsCounted (cost_of_frames kinds (delay_of_frames kinds items) items)
    (weight_of_frames kinds (length items + 2) items) (weight_of_frames kinds (length items + 2) items)
    (store_of_frames kinds (length items + 2) items)
