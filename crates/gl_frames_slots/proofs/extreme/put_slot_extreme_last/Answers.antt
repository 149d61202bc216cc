use Rattle.std.proofs.Common.{ℕ, Option, Some, sym, subst}
use Rattle.std.specs.Prelude.{IfOk}
use Rattle.gl_algebra.specs.Frames.{delay_of_extreme}
use Rattle.gl_algebra.specs.Results.{counts_in}
use Rattle.gl_algebra.specs.Columns.{kind_of_operand}
use Rattle.gl_values.specs.Kinds.{width_of}
use Rattle.gl_frames.specs.Frames.{total_over}
use Rattle.gl_totals.specs.Totals.{extreme_of}
use Rattle.gl_frames_stages.specs.Framing.{value_in}
use Rattle.gl_frames_slots.specs.ItemCosts.{cost_of_slot_extreme_by}
use Rattle.gl_frames_slots.specs.Items.{IsSlotItemIn}
use Rattle.gl_frames_slots.proofs.extreme.put_slot_extreme_last.Goals as goal

pub returns-in-None : goal.returns-in-None
returns-in-None c =
    let kind = kind_of_operand c.args.input.source.kinds.now c.args.ranking.operand in
    subst (λ (f : Option ℕ). IfOk c.put_slot_extreme_item.result (IsSlotItemIn c.args.net.now c.put_slot_extreme_item.new.net (cost_of_slot_extreme_by c.args.input.rows.slot.width f (width_of kind) c.args.back)
    (delay_of_extreme (Some c.args.back)) (width_of kind) (λ sets. total_over (extreme_of c.args.ranking.extreme kind) (value_in sets c.args.ranking.operand) (Some c.args.back) (counts_in f)) c.args.input c.args.count))
    (sym c.in-None.is) c.put_slot_extreme_item.ensures
