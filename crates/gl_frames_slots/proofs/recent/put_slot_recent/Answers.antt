use Rattle.std.proofs.Common.{suc, Bool, Some, ap, arith, ◌∙◌}
use Rattle.std.specs.Prelude.{◌&&◌}
use Rattle.gl_frames.specs.Frames.{last_value_of}
use Rattle.gl_net.proofs.Determined.{keeps_then}
use Rattle.gl_wire.specs.Wire.{line_at}
use Rattle.gl_wire.proofs.ColumnLemmas.{bit_kept, bus_kept}
use Rattle.gl_frames_stages.specs.Columns.{carried_by}
use Rattle.gl_frames_slots.specs.RecentNets.{TakesBySlot}
use Rattle.gl_frames_slots.proofs.ItemsNet.{rows_kept}
use Rattle.gl_frames_slots.proofs.MeetLemmas.{tells_next}
use Rattle.gl_frames_slots.proofs.RecentNet.{recent_told}
use Rattle.gl_frames_slots.proofs.recent.put_slot_recent.Goals as goal

pub put_slot_last-requires-clause-rows : goal.put_slot_last-requires-clause-rows
put_slot_last-requires-clause-rows c = rows_kept _ _ c.args.rows c.in_ok-takes.ensures.keeps c.requires.rows

pub put_slot_age-requires-clause-rows : goal.put_slot_age-requires-clause-rows
put_slot_age-requires-clause-rows c = rows_kept _ _ c.args.rows (keeps_then _ c.both.new.net _ c.in_ok-takes.ensures.keeps c.in_ok-last.ensures.keeps) c.requires.rows

pub put_young-requires-clause-passes : goal.put_young-requires-clause-passes
put_young-requires-clause-passes c =
    bit_kept _ _ c.args.passes (keeps_then _ c.both.new.net _ c.in_ok-takes.ensures.keeps (keeps_then _ c.put_slot_last.new.net _ c.in_ok-last.ensures.keeps c.in_ok-old.ensures.keeps)) c.requires.passes

pub put_young-requires-clause-value : goal.put_young-requires-clause-value
put_young-requires-clause-value c =
    bus_kept _ _ c.args.value (keeps_then _ c.both.new.net _ c.in_ok-takes.ensures.keeps (keeps_then _ c.put_slot_last.new.net _ c.in_ok-last.ensures.keeps c.in_ok-old.ensures.keeps)) c.requires.value

pub returns : goal.returns
returns c =
    let rows = c.args.rows in
    let value = c.args.value in
    let back = c.args.back in
    let takes = c.in_ok-takes.ensures in
    let last = c.in_ok-last.ensures in
    let aged = c.in_ok-old.ensures in
    let now = c.in_ok-now.ensures in
    let out = c.in_ok-out.ensures in
    record {
      keeps = keeps_then _ c.both.new.net _ takes.keeps (keeps_then _ c.put_slot_last.new.net _ last.keeps (keeps_then _ c.put_slot_age.new.net _ aged.keeps (keeps_then _ c.put_young.new.net _ now.keeps out.keeps)));
      cost = record {
        nodes = omega (arith, takes.cost.nodes, last.cost.nodes, aged.cost.nodes, now.cost.nodes, out.cost.nodes);
        registers = omega (arith, takes.cost.registers, last.cost.registers, aged.cost.registers, now.cost.registers, out.cost.registers, now.same_width);
        memories = omega (arith, takes.cost.memories, last.cost.memories, aged.cost.memories, now.cost.memories, out.cost.memories);
      };
      bus = out.bus;
      same_width = out.same_width ∙ now.same_width;
      tells = λ run r ends told p v row passes is.
          let at_now = out.keeps.runs run r in
          let at_aged = now.keeps.runs run at_now in
          let at_last = aged.keeps.runs run at_aged in
          let at_takes = last.keeps.runs run at_last in
          let line : TakesBySlot run rows c.in_ok-takes.takes p row = (λ t. takes.line run at_takes (suc t) ∙ ap (λ (b : Bool). line_at run rows.valid (suc t) && b) (passes t)) in
          tells_next run rows ends 0 (last_value_of v (Some back) p) row (carried_by run c.in_ok-now.now) (carried_by run c.in_ok-out.out) (out.value run r)
          (recent_told run rows ends c.args.passes c.in_ok-old.old v p row (carried_by run value) (carried_by run c.in_ok-last.last) (carried_by run c.in_ok-now.now) back
          (last.tells run at_last ends told p v row line is) is passes (aged.ages run at_aged ends told p row line) (now.chosen run at_now));
    }
