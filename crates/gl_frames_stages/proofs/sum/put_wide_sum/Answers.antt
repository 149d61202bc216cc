use Rattle.std.proofs.Common.{arith, ◌∙◌}
use Rattle.gl_net.proofs.Determined.{keeps_then}
use Rattle.gl_wire.proofs.ColumnLemmas.{bit_kept, bus_kept}
use Rattle.gl_frames_stages.specs.Columns.{carried_by}
use Rattle.gl_frames_stages.specs.SlideNets.{widened}
use Rattle.gl_frames_stages.proofs.SumStage.{changed_sum, widened_fits, widened_none}
use Rattle.gl_frames_stages.proofs.sum.put_wide_sum.Goals as goal

pub put_wide_change-requires-clause-own_width : goal.put_wide_change-requires-clause-own_width
put_wide_change-requires-clause-own_width c = c.in_ok-slide.ensures.own_width ∙ c.requires.value_width

pub put_wide_change-requires-clause-gone_width : goal.put_wide_change-requires-clause-gone_width
put_wide_change-requires-clause-gone_width c = c.in_ok-slide.ensures.gone_width ∙ c.requires.value_width

pub delay_lines-requires-clause-valid : goal.delay_lines-requires-clause-valid
delay_lines-requires-clause-valid c =
    bit_kept _ _ c.args.lines.valid (keeps_then _ c.put_slide.new.net _ c.in_ok-slide.ensures.keeps c.in_ok-change.ensures.keeps) c.requires.valid

pub delay_lines-requires-clause-eos : goal.delay_lines-requires-clause-eos
delay_lines-requires-clause-eos c =
    bit_kept _ _ c.args.lines.eos (keeps_then _ c.put_slide.new.net _ c.in_ok-slide.ensures.keeps c.in_ok-change.ensures.keeps) c.requires.eos

pub put_summed-requires-clause-value : goal.put_summed-requires-clause-value
put_summed-requires-clause-value c = bus_kept _ _ c.in_ok-change.change c.in_ok-late.ensures.keeps c.in_ok-change.ensures.bus

pub returns : goal.returns
returns c =
    let value = c.args.value in
    let lines = c.args.lines in
    let reach = c.args.reach in
    let w = c.args.width in
    let slide = c.in_ok-slide.ensures in
    let change = c.in_ok-change.ensures in
    let late = c.in_ok-late.ensures in
    let sum = c.in_ok-sum.ensures in
    let s = c.in_ok-slide.slide in
    let x = c.in_ok-change.change in
    record {
      keeps = keeps_then _ c.put_slide.new.net _ slide.keeps (keeps_then _ c.put_wide_change.new.net _ change.keeps (keeps_then _ c.delay_lines.new.net _ late.keeps sum.keeps));
      cost = record {
        nodes = omega (arith, slide.cost.nodes, change.cost.nodes, late.cost.nodes, sum.cost.nodes);
        registers = omega (arith, slide.cost.registers, change.cost.registers, late.cost.registers, sum.cost.registers, change.same_width);
        memories = omega (arith, slide.cost.memories, change.cost.memories, late.cost.memories, sum.cost.memories);
      };
      bus = sum.bus;
      same_width = sum.same_width ∙ change.same_width;
      tells = λ run r.
          let at_late = sum.keeps.runs run r in
          let at_change = late.keeps.runs run at_late in
          let at_slide = change.keeps.runs run at_change in
          changed_sum run lines c.in_ok-late.late w x.width reach.back (widened c.args.kind w) (widened_none c.args.kind w) (widened_fits c.args.kind w)
          (carried_by run value) (carried_by run s.own) (carried_by run s.gone) (carried_by run x) (carried_by run c.in_ok-sum.sum) change.same_width
          (slide.owns run at_slide) (slide.leaves run at_slide) (change.changes run at_change) (late.behind run at_late) (sum.tells run r);
    }
