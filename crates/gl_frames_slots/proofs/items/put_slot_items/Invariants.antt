use Rattle.std.proofs.Common.{take}
use Rattle.gl_frames_slots.specs.Items.{AreSlotItemsIn}
use Rattle.gl_frames_slots.proofs.items.put_slot_items.Given as goal

abbrev pub invariant-loop-item : goal.invariant-loop-item
invariant-loop-item l = AreSlotItemsIn l.initial.net l.net l.input l.count l.cycles (take l.item-index l.items) l.all
