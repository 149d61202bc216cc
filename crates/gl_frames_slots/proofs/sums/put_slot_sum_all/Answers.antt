use Rattle.std.proofs.Common.{◌≡◌, suc, ◌*◌, ◌^◌, None, map, ap, arith, sym, ◌∙◌}
use Rattle.std.specs.Prelude.{if◌then◌else◌}
use Rattle.gl_algebra.specs.Results.{counts_in}
use Rattle.gl_algebra.specs.Columns.{kind_of_operand}
use Rattle.gl_values.specs.Kinds.{width_of}
use Rattle.gl_values.specs.Totals.{sum_total}
use Rattle.gl_frames.specs.Frames.{total_over}
use Rattle.gl_frames.specs.Laws.{masked}
use Rattle.gl_frames.proofs.SumLemmas.{filters_mask}
use Rattle.gl_net.proofs.Determined.{keeps_then}
use Rattle.gl_frames_stages.specs.Columns.{carried_by}
use Rattle.gl_frames_stages.specs.Framing.{value_in}
use Rattle.gl_frames_slots.specs.Items.{rows_in}
use Rattle.gl_frames_slots.proofs.ItemsNet.{has_lines, rows_kept, tells_as, tells_made}
use Rattle.gl_frames_slots.proofs.sums.put_slot_sum_all.Goals as goal

pub put_operand-requires-clause-source : goal.put_operand-requires-clause-source
put_operand-requires-clause-source c = c.requires.input.source

pub put_masked-requires-clause-input : goal.put_masked-requires-clause-input
put_masked-requires-clause-input c = has_lines c.args.net.now c.put_operand.new.net c.args.input c.in_ok-value.ensures.keeps c.requires.input

pub put_slot_summed-requires-clause-rows : goal.put_slot_summed-requires-clause-rows
put_slot_summed-requires-clause-rows c =
    rows_kept _ _ c.args.input.rows (keeps_then _ c.put_operand.new.net _ c.in_ok-value.ensures.keeps c.in_ok-masked.ensures.keeps) c.requires.input.rows

pub returns : goal.returns
returns c =
    let input = c.args.input in
    let slot = input.rows.slot.width in
    let p = counts_in c.args.filter in
    let m = c.in_ok-masked.masked in
    let value = c.in_ok-value.ensures in
    let masks = c.in_ok-masked.ensures in
    let sum = c.in_ok-sum.ensures in
    let w = width_of (kind_of_operand input.source.kinds.now c.args.operand) in
    let wide : m.width ≡ w = masks.same_width ∙ value.same_width in
    let own = ap (λ n. 2 ^ slot * n) wide in
    record {
      keeps = keeps_then _ c.put_operand.new.net _ value.keeps (keeps_then _ c.put_masked.new.net _ masks.keeps sum.keeps);
      cost = record {
        nodes = omega (arith, value.cost.nodes, masks.cost.nodes, sum.cost.nodes);
        registers = omega (arith, value.cost.registers, masks.cost.registers, sum.cost.registers, wide);
        memories = omega (arith, value.cost.memories, masks.cost.memories, sum.cost.memories, own);
      };
      bus = sum.bus;
      same_width = sum.same_width ∙ wide;
      tells = λ run r ends told counts.
          let v = value_in run.held c.args.operand in
          let at_masks = sum.keeps.runs run r in
          let at_value = masks.keeps.runs run at_masks in
          tells_as run input.rows ends 1 (λ rows. sum_total m.width (map (masked v p) rows)) (total_over (sum_total w) v None p) (rows_in run input)
          (carried_by run c.in_ok-sum.sum)
          (λ rows. ap (λ n. sum_total n (map (masked v p) rows)) wide ∙ sym (filters_mask w None v p rows))
          (tells_made run input.rows ends 1 (masked v p) (sum_total m.width) (rows_in run input) (carried_by run m) (carried_by run c.in_ok-sum.sum)
          (λ t. masks.masks run at_masks t ∙ ap (λ n. if p (rows_in run input (suc t)) then n else 0) (value.carries run at_value (suc t)))
          (sum.tells run r ends told));
    }
