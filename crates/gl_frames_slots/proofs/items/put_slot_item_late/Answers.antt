use Rattle.std.proofs.Common.{ℕ, ◌-◌, subst}
use Rattle.gl_frames_stages.specs.DelayNets.{IsLateIn}
use Rattle.gl_frames_slots.proofs.ItemsNet.{item_late}
use Rattle.gl_frames_slots.proofs.items.put_slot_item_late.Goals as goal

pub returns : goal.returns
returns c =
    item_late c.args.net.now c.put_slot_item.new.net c.put_late.new.net c.args.input c.args.count c.args.input.source.kinds.now c.args.item c.args.cycles c.in_ok-early.early c.in_ok-out.out c.requires.late
    c.in_ok-early.ensures
    (subst (λ (d : ℕ). IsLateIn c.put_slot_item.new.net c.put_late.new.net (c.args.cycles - d) c.in_ok-early.early c.in_ok-out.out) c.delay_of_frame-gone.ensures c.in_ok-out.ensures)
