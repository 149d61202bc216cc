use Rattle.std.proofs.Common.{take}
use Rattle.gl_frames_stages.specs.FramesNets.{AreItemsIn}
use Rattle.gl_frames_stages.proofs.frames.put_items.Given as goal

abbrev pub invariant-loop-item : goal.invariant-loop-item
invariant-loop-item l = AreItemsIn l.initial.net l.net l.cycles l.input (take l.item-index l.items) l.all
