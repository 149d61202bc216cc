use Rattle.gl_net.proofs.Growth.{same_keeps}
use Rattle.gl_frames_slots.proofs.ItemsNet.{has_lines}
use Rattle.gl_frames_slots.proofs.extreme.put_slot_packed_by.Goals as goal

pub put_packed-requires-clause-input : goal.put_packed-requires-clause-input
put_packed-requires-clause-input c = has_lines c.args.net.now c.args.net.now c.args.input (same_keeps c.args.net.now) c.requires.input

pub returns : goal.returns
returns c =
    let packed = c.in_ok-packed.ensures in
    record {
      keeps = packed.keeps;
      cost = packed.cost;
      bus = packed.bus;
      width = packed.width;
      values = packed.values;
      packs = packed.packs;
    }
