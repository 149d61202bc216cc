use Rattle.std.proofs.Common.{ℕ, Option, sym, subst}
use Rattle.std.specs.Prelude.{IfOk}
use Rattle.gl_algebra.specs.Columns.{kind_of_operand}
use Rattle.gl_algebra.specs.Results.{value_over}
use Rattle.gl_algebra.specs.declared.node.PlanFrameAgg.TheVariants.{LastValue}
use Rattle.gl_values.specs.Kinds.{width_of}
use Rattle.gl_frames_slots.specs.ItemCosts.{cost_of_slot_over}
use Rattle.gl_frames_slots.specs.Items.{IsSlotItemIn}
use Rattle.gl_frames_slots.proofs.last.put_slot_last_of.Goals as goal

pub returns-in-None : goal.returns-in-None
returns-in-None c =
    let kinds = c.args.input.source.kinds.now in
    let operand = c.args.operand in
    let back = c.args.back in
    subst (λ (f : Option ℕ). IfOk c.put_slot_own_last.result (IsSlotItemIn c.args.net.now c.put_slot_own_last.new.net (cost_of_slot_over c.args.input.rows.slot.width kinds (LastValue operand) f back) 1
    (width_of (kind_of_operand kinds operand)) (λ sets rows. value_over sets kinds f back rows (LastValue operand)) c.args.input c.args.count)) (sym c.in-None.is) (c.put_slot_own_last.ensures back)
