-- Every item of a node of frames is made by slots, where rings have places for its rows.
use Rattle.std.proofs.Common.{ℕ, ◌≤◌, List, [], ◌∷◌, Option, Some, None, All, arith}
use Rattle.std.specs.List.{AllByRecursion}
use Rattle.std.proofs.lemmas.List.Elements.{All-from_recursion}
use Rattle.gl_algebra.specs.declared.node.PlanFrame.{PlanFrame}
use Rattle.gl_algebra.specs.declared.node.PlanFrame.TheVariants.{Lag, Over, Own}
use Rattle.gl_algebra.specs.declared.node.PlanFrameAgg.{PlanFrameAgg}
use Rattle.gl_algebra.specs.declared.node.PlanFrameAgg.TheVariants.{Avg, Count, LastValue, Max, Min, Sum}
use Rattle.gl_frames_slots.specs.Items.{IsSlotItem, IsSlotOver, ReachFits}
use Rattle.gl_frames_parted.specs.Parted.{place_of_frame, place_over, places_of_frames}

reach_fits : (bits : ℕ) (back : Option ℕ) → place_over back ≤ bits → ReachFits bits back
reach_fits bits None le = tt
reach_fits bits (Some back) le = le

-- every function over a frame is made by slots
over_fits : (bits : ℕ) (agg : PlanFrameAgg) (filter back : Option ℕ) → place_over back ≤ bits → IsSlotOver bits agg filter back
over_fits bits Count filter back le = reach_fits bits back le
over_fits bits (Sum operand) filter back le = reach_fits bits back le
over_fits bits (Min operand) filter back le = reach_fits bits back le
over_fits bits (Max operand) filter back le = reach_fits bits back le
over_fits bits (Avg operand) filter back le = reach_fits bits back le
over_fits bits (LastValue operand) filter back le = tt

frame_fits : (bits : ℕ) (item : PlanFrame) → place_of_frame item ≤ bits → IsSlotItem bits item
frame_fits bits (Own operand) le = tt
frame_fits bits (Lag operand back) le = le
frame_fits bits (Over agg filter back) le = over_fits bits agg filter back le

all_fit : (bits : ℕ) (items : List PlanFrame) → places_of_frames items ≤ bits → AllByRecursion (IsSlotItem bits) items
all_fit bits [] le = tt
all_fit bits (item ∷ items) le = (frame_fits bits item (omega (arith, le)), all_fit bits items (omega (arith, le)))

-- and so is every item
pub items_fit : (items : List PlanFrame) → All (IsSlotItem (places_of_frames items)) items
items_fit items = All-from_recursion (IsSlotItem (places_of_frames items)) items (all_fit (places_of_frames items) items (omega arith))
