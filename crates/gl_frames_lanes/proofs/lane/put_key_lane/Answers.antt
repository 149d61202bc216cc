use Rattle.std.proofs.Common.{arith, ap, length, ◌+◌, ◌*◌, ◌∙◌}
use Rattle.std.specs.List.{sum}
use Rattle.gl_net.proofs.Determined.{keeps_then}
use Rattle.gl_wire.proofs.ColumnLemmas.{wire_kept}
use Rattle.gl_frames_lanes.proofs.LaneNet.{lane_is}
use Rattle.gl_frames_lanes.proofs.lane.put_key_lane.Goals as goal

pub put_late-requires-clause-late : goal.put_late-requires-clause-late
put_late-requires-clause-late c =
    wire_kept c.look.new.net c.tell.new.net c.in_ok-looking.looking.late
    (keeps_then c.look.new.net c.find_slots.new.net c.tell.new.net c.in_ok-found.ensures.keeps c.in_ok-told.ensures.keeps) c.in_ok-looking.ensures.late

pub returns : goal.returns
returns c =
    let look = c.in_ok-looking.ensures in
    let found = c.in_ok-found.ensures in
    let told = c.in_ok-told.ensures in
    let lane = c.in_ok-lane.ensures in
    let keys = c.args.keys in
    let k_told = keeps_then c.find_slots.new.net c.tell.new.net c.put_late.new.net told.keeps lane.keeps in
    let k_found = keeps_then c.look.new.net c.find_slots.new.net c.put_late.new.net found.keeps k_told in
    let as_many = ap length look.same_widths in
    let as_wide = ap sum look.same_widths in
    let two = ap (λ w. keys.groups * (w + 2)) look.last_width in
    record {
      keeps = keeps_then c.args.net.now c.look.new.net c.put_late.new.net look.keeps k_found;
      cost = record {
        nodes = omega (arith, look.cost.nodes, found.cost.nodes, told.cost.nodes, lane.cost.nodes, as_many);
        registers = omega (arith, look.cost.registers, found.cost.registers, told.cost.registers, lane.cost.registers, as_wide, two, told.slot_width);
        memories = omega (arith, look.cost.memories, found.cost.memories, told.cost.memories, lane.cost.memories);
      };
      has = record {
        wire = lane.has.wire;
        same_widths = lane.has.same_widths ∙ look.same_widths;
        slot = lane.has.slot;
        slot_width = lane.has.slot_width ∙ told.slot_width;
        first = lane.has.first;
        further = lane.has.further;
      };
      law = λ run r.
          let at_told = lane.keeps.runs run r in
          let at_found = told.keeps.runs run at_told in
          let at_look = found.keeps.runs run at_found in
          let is_look = look.law run at_look in
          lane_is run keys c.requires.some c.requires.fits c.args.wire.now c.in_ok-looking.looking c.in_ok-found.found c.in_ok-told.told c.in_ok-lane.lane
          is_look look.same_line (found.law run at_found is_look.asked) (told.law run at_told) (lane.law run r);
    }
