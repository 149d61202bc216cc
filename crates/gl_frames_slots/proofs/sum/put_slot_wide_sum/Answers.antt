use Rattle.std.proofs.Common.{◌≡◌, ◌*◌, ◌^◌, ap, arith, ◌∙◌}
use Rattle.gl_net.proofs.Determined.{keeps_then}
use Rattle.gl_wire.proofs.ColumnLemmas.{bus_kept}
use Rattle.gl_frames_stages.specs.Columns.{carried_by}
use Rattle.gl_frames_stages.specs.SlideNets.{widened}
use Rattle.gl_frames_stages.proofs.SumStage.{widened_fits, widened_none}
use Rattle.gl_frames_slots.specs.Stages.{ends_late}
use Rattle.gl_frames_slots.proofs.ItemsNet.{rows_kept}
use Rattle.gl_frames_slots.proofs.MeetLemmas.{rows_told}
use Rattle.gl_frames_slots.proofs.SumNet.{changed_sum}
use Rattle.gl_frames_slots.proofs.sum.put_slot_wide_sum.Goals as goal

pub put_wide_change-requires-clause-own_width : goal.put_wide_change-requires-clause-own_width
put_wide_change-requires-clause-own_width c = c.in_ok-slide.ensures.own_width ∙ c.requires.value_width

pub put_wide_change-requires-clause-gone_width : goal.put_wide_change-requires-clause-gone_width
put_wide_change-requires-clause-gone_width c = c.in_ok-slide.ensures.gone_width ∙ c.requires.value_width

pub put_rows_later-requires : goal.put_rows_later-requires
put_rows_later-requires c =
    record { rows = rows_kept _ _ c.args.rows (keeps_then _ c.put_slot_slide.new.net _ c.in_ok-slide.ensures.keeps c.in_ok-change.ensures.keeps) c.requires.rows }

pub put_slot_summed-requires-clause-value : goal.put_slot_summed-requires-clause-value
put_slot_summed-requires-clause-value c = bus_kept _ _ c.in_ok-change.change c.in_ok-late.ensures.keeps c.in_ok-change.ensures.bus

pub returns : goal.returns
returns c =
    let value = c.args.value in
    let rows = c.args.rows in
    let reach = c.args.reach in
    let kind = c.args.wide.kind in
    let w = c.args.wide.width in
    let slide = c.in_ok-slide.ensures in
    let change = c.in_ok-change.ensures in
    let late = c.in_ok-late.ensures in
    let sum = c.in_ok-sum.ensures in
    let s = c.in_ok-slide.slide in
    let x = c.in_ok-change.change in
    let words : 2 ^ c.in_ok-late.late.slot.width * x.width ≡ 2 ^ rows.slot.width * w = ap (λ n. 2 ^ n * x.width) late.same_width ∙ ap (λ n. 2 ^ rows.slot.width * n) change.same_width in
    record {
      keeps = keeps_then _ c.put_slot_slide.new.net _ slide.keeps (keeps_then _ c.put_wide_change.new.net _ change.keeps (keeps_then _ c.put_rows_later.new.net _ late.keeps sum.keeps));
      cost = record {
        nodes = omega (arith, slide.cost.nodes, change.cost.nodes, late.cost.nodes, sum.cost.nodes);
        registers = omega (arith, slide.cost.registers, change.cost.registers, late.cost.registers, sum.cost.registers, change.same_width);
        memories = omega (arith, slide.cost.memories, change.cost.memories, late.cost.memories, sum.cost.memories, words);
      };
      bus = sum.bus;
      same_width = sum.same_width ∙ change.same_width;
      tells = λ run r ends told counts.
          let at_late = sum.keeps.runs run r in
          let at_change = late.keeps.runs run at_late in
          let at_slide = change.keeps.runs run at_change in
          let behind = late.behind run at_late in
          changed_sum run rows c.in_ok-late.late ends w x.width reach.back (widened kind w) (widened_none kind w) (widened_fits kind w)
          (carried_by run value) (carried_by run s.own) (carried_by run s.gone) (carried_by run x) (carried_by run c.in_ok-sum.sum) change.same_width
          (slide.owns run at_slide) (slide.leaves run at_slide ends told counts) (change.changes run at_change)
          behind (sum.tells run r (ends_late 2 ends) (rows_told run 2 rows c.in_ok-late.late ends behind told));
    }
