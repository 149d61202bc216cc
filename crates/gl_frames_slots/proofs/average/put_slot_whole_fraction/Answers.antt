use Rattle.std.proofs.Common.{◌≡◌, ℕ, suc, ◌+◌, ◌*◌, ◌^◌, None, map, ap, arith, sym, ◌∙◌}
use Rattle.std.specs.Prelude.{if◌then◌else◌}
use Rattle.gl_algebra.specs.Results.{counts_in, values_in}
use Rattle.gl_algebra.specs.Columns.{kind_of_operand}
use Rattle.gl_values.proofs.KindLemmas.{kind_some}
use Rattle.gl_values.specs.Kinds.{width_of, word_of}
use Rattle.gl_values.specs.Totals.{sum_of_numbers, sum_total}
use Rattle.gl_values.specs.declared.kind.Kind.{Kind}
use Rattle.gl_totals.proofs.KindLemmas.{operand_kind}
use Rattle.gl_frames.specs.Frames.{frame_of}
use Rattle.gl_frames.specs.Laws.{masked}
use Rattle.gl_net.proofs.Determined.{keeps_then}
use Rattle.gl_wire.proofs.ColumnLemmas.{bus_kept}
use Rattle.gl_frames_stages.specs.Columns.{carried_by}
use Rattle.gl_frames_stages.specs.Framing.{value_in}
use Rattle.gl_frames_stages.specs.SlideNets.{widened}
use Rattle.gl_frames_slots.specs.Items.{rows_in}
use Rattle.gl_frames_slots.specs.Rows.{slot_here}
use Rattle.gl_frames_slots.proofs.ItemsNet.{has_lines, input_kept, rows_kept, tells_as, tells_made}
use Rattle.gl_frames_slots.proofs.WholeNet.{counted_values, whole_sum}
use Rattle.gl_frames_slots.proofs.average.put_slot_whole_fraction.Goals as goal

pub put_operand-requires-clause-source : goal.put_operand-requires-clause-source
put_operand-requires-clause-source c = c.requires.input.source

pub put_masked-requires-clause-input : goal.put_masked-requires-clause-input
put_masked-requires-clause-input c = has_lines c.args.net.now c.put_operand.new.net c.args.input c.in_ok-value.ensures.keeps c.requires.input

pub put_number-requires-clause-same_width : goal.put_number-requires-clause-same_width
put_number-requires-clause-same_width c = c.in_ok-masked.ensures.same_width ∙ c.in_ok-value.ensures.same_width ∙ ap width_of (sym c.kind_of_operand-kind.ensures)

pub put_number-requires-clause-width : goal.put_number-requires-clause-width
put_number-requires-clause-width c =
    let is = operand_kind c.args.input.source.kinds.now c.args.operand c.requires.kinds c.requires.fits in
    let some = kind_some _ is in
    let most = is.1 in
    let a = c.in_ok-value.ensures.same_width in
    let b = c.in_ok-masked.ensures.same_width in
    record { some' = omega (arith, some, a, b); most = omega (arith, most, a, b) }

pub put_slot_summed-requires-clause-rows : goal.put_slot_summed-requires-clause-rows
put_slot_summed-requires-clause-rows c =
    rows_kept _ _ c.args.input.rows (keeps_then _ c.put_operand.new.net _ c.in_ok-value.ensures.keeps (keeps_then _ c.put_masked.new.net _ c.in_ok-masked.ensures.keeps c.in_ok-wide.ensures.keeps)) c.requires.input.rows

pub put_slot_count_all-requires-clause-input : goal.put_slot_count_all-requires-clause-input
put_slot_count_all-requires-clause-input c =
    input_kept _ _ c.args.input (keeps_then _ c.put_operand.new.net _ c.in_ok-value.ensures.keeps (keeps_then _ c.put_masked.new.net _ c.in_ok-masked.ensures.keeps (keeps_then _ c.put_number.new.net _ c.in_ok-wide.ensures.keeps c.in_ok-top.ensures.keeps))) c.requires.input

pub returns : goal.returns
returns c =
    let input = c.args.input in
    let slot = input.rows.slot.width in
    let p = counts_in c.args.filter in
    let kind = kind_of_operand input.source.kinds.now c.args.operand in
    let w : ℕ = width_of kind in
    let k = c.kind_of_operand-kind.result in
    let is = c.kind_of_operand-kind.ensures in
    let value = c.in_ok-value.ensures in
    let masks = c.in_ok-masked.ensures in
    let wide = c.in_ok-wide.ensures in
    let top = c.in_ok-top.ensures in
    let bottom = c.in_ok-bottom.ensures in
    let m = c.in_ok-masked.masked in
    let x = c.in_ok-wide.wide in
    let t' = c.in_ok-top.top in
    let b' = c.in_ok-bottom.bottom in
    let narrow : m.width ≡ w = masks.same_width ∙ value.same_width in
    let whole : x.width ≡ w + 32 = wide.same_width ∙ ap (λ n. n + 32) narrow in
    let words = ap (λ n. 2 ^ slot * n) whole in
    record {
      keeps = keeps_then _ c.put_operand.new.net _ value.keeps (keeps_then _ c.put_masked.new.net _ masks.keeps (keeps_then _ c.put_number.new.net _ wide.keeps (keeps_then _ c.put_slot_summed.new.net _ top.keeps bottom.keeps)));
      cost = record {
        nodes = omega (arith, value.cost.nodes, masks.cost.nodes, wide.cost.nodes, top.cost.nodes, bottom.cost.nodes);
        registers = omega (arith, value.cost.registers, masks.cost.registers, wide.cost.registers, top.cost.registers, bottom.cost.registers, whole);
        memories = omega (arith, value.cost.memories, masks.cost.memories, wide.cost.memories, top.cost.memories, bottom.cost.memories, words);
      };
      top = bus_kept _ _ t' bottom.keeps top.bus;
      top_width = top.same_width ∙ whole;
      bottom = bottom.bus;
      bottom_width = bottom.same_width;
      sums = λ run r ends told.
          let v = value_in run.held c.args.operand in
          let at_top = bottom.keeps.runs run r in
          let at_wide = top.keeps.runs run at_top in
          let at_masks = wide.keeps.runs run at_wide in
          let at_value = masks.keeps.runs run at_masks in
          tells_as run input.rows ends 1 (λ rows. sum_total x.width (map (widened k (m.width + 32)) (map (masked v p) rows)))
          (λ rows. word_of (w + 32) (sum_of_numbers kind (values_in run.held c.args.filter None rows c.args.operand))) (rows_in run input) (carried_by run t')
          (λ rows.
          ap (λ n. sum_total n (map (widened k (m.width + 32)) (map (masked v p) rows))) whole
          ∙ ap (λ n. sum_total (w + 32) (map (widened k (n + 32)) (map (masked v p) rows))) narrow
          ∙ ap (λ (o : Kind). sum_total (w + 32) (map (widened o (w + 32)) (map (masked v p) rows))) is
          ∙ whole_sum kind v p (w + 32) rows)
          (tells_made run input.rows ends 1 (masked v p) (λ xs. sum_total x.width (map (widened k (m.width + 32)) xs)) (rows_in run input) (carried_by run m) (carried_by run t')
          (λ t. masks.masks run at_masks t ∙ ap (λ n. if p (rows_in run input (suc t)) then n else 0) (value.carries run at_value (suc t)))
          (tells_made run input.rows ends 1 (widened k (m.width + 32)) (sum_total x.width) (carried_by run m) (carried_by run x) (carried_by run t')
          (λ t. wide.carries run at_wide (suc t)) (top.tells run at_top ends told)));
      numbers = λ run r ends told counts d u.
          let v = value_in run.held c.args.operand in
          bottom.tells run r ends told counts d u ∙ counted_values v (frame_of None p (slot_here run input.rows ends (rows_in run input) (suc d)));
    }
