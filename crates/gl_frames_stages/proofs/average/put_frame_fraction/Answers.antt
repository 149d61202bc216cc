use Rattle.std.proofs.Common.{◌≡◌, ℕ, suc, ◌+◌, ◌*◌, ◌%◌, ◌^◌, ◌<◌, map, ap, arith, sym, subst, ◌∙◌}
use Rattle.std.specs.Prelude.{if◌then◌else◌}
use Rattle.std.proofs.Math.Nat.{mod-eq_of_lt}
use Rattle.gl_algebra.specs.Rings.{digits}
use Rattle.gl_algebra.specs.Results.{counts_in}
use Rattle.gl_algebra.proofs.ExponentLemmas.{exponent_covers}
use Rattle.gl_algebra.specs.Columns.{kind_of_operand}
use Rattle.gl_values.proofs.KindLemmas.{kind_some}
use Rattle.gl_values.specs.Kinds.{width_of, word_of}
use Rattle.gl_values.specs.Totals.{sum_of_numbers, sum_total}
use Rattle.gl_values.specs.declared.kind.Kind.{Kind}
use Rattle.gl_totals.proofs.KindLemmas.{operand_kind}
use Rattle.gl_frames.specs.Frames.{last_ones}
use Rattle.gl_frames.specs.Laws.{masked}
use Rattle.gl_frames_wire.specs.Reaches.{place_bits}
use Rattle.gl_net.proofs.Determined.{keeps_then}
use Rattle.gl_net.proofs.Values.{bus_fits}
use Rattle.gl_wire.proofs.ColumnLemmas.{bus_kept}
use Rattle.gl_frames_stages.specs.Average.{framed_values}
use Rattle.gl_frames_stages.specs.Columns.{carried_by, column_of}
use Rattle.gl_frames_stages.specs.Framing.{value_in}
use Rattle.gl_frames_stages.specs.Inputs.{rows_by}
use Rattle.gl_frames_stages.specs.SlideNets.{widened}
use Rattle.gl_frames_stages.proofs.CycleLemmas.{few_digits, some_digits}
use Rattle.gl_frames_stages.proofs.InputNet.{input_kept, tells_as, tells_made}
use Rattle.gl_frames_stages.proofs.MeanLemmas.{few_counted, masked_sum}
use Rattle.gl_frames_stages.proofs.average.put_frame_fraction.Goals as goal

pub put_operand-requires-clause-source : goal.put_operand-requires-clause-source
put_operand-requires-clause-source c = c.requires.input.source

pub put_masked-requires-clause-input : goal.put_masked-requires-clause-input
put_masked-requires-clause-input c = input_kept _ _ c.args.input c.in_ok-value.ensures.keeps c.requires.input

pub put_wide_sum-requires-clause-valid : goal.put_wide_sum-requires-clause-valid
put_wide_sum-requires-clause-valid c =
    (input_kept _ _ c.args.input (keeps_then _ c.put_operand.new.net _ c.in_ok-value.ensures.keeps c.in_ok-masked.ensures.keeps) c.requires.input).valid

pub put_wide_sum-requires-clause-eos : goal.put_wide_sum-requires-clause-eos
put_wide_sum-requires-clause-eos c =
    (input_kept _ _ c.args.input (keeps_then _ c.put_operand.new.net _ c.in_ok-value.ensures.keeps c.in_ok-masked.ensures.keeps) c.requires.input).eos

pub put_wide_sum-requires-clause-value_width : goal.put_wide_sum-requires-clause-value_width
put_wide_sum-requires-clause-value_width c = c.in_ok-masked.ensures.same_width ∙ c.in_ok-value.ensures.same_width ∙ ap width_of (sym c.kind_of_operand-kind.ensures)

pub put_wide_sum-requires-clause-width : goal.put_wide_sum-requires-clause-width
put_wide_sum-requires-clause-width c =
    let is = operand_kind c.args.input.source.kinds.now c.args.operand c.requires.kinds c.requires.fits in
    let some = kind_some _ is in
    let most = is.1 in
    let wide = c.in_ok-value.ensures.same_width in
    let few = few_digits c.args.back c.requires.back in
    let bits = c.digits_of_rows-bits.ensures.value in
    record { some' = omega (arith, some, wide); most = omega (arith, most, wide, few, bits) }

pub put_frame_number-requires-clause-input : goal.put_frame_number-requires-clause-input
put_frame_number-requires-clause-input c =
    input_kept _ _ c.args.input (keeps_then _ c.put_operand.new.net _ c.in_ok-value.ensures.keeps (keeps_then _ c.put_masked.new.net _ c.in_ok-masked.ensures.keeps c.in_ok-top.ensures.keeps)) c.requires.input

pub low_bits-requires-clause-bus : goal.low_bits-requires-clause-bus
low_bits-requires-clause-bus c = c.in_ok-number.ensures.bus

pub low_bits-requires-clause-width : goal.low_bits-requires-clause-width
low_bits-requires-clause-width c =
    let some = some_digits c.args.back in
    let few = few_digits c.args.back c.requires.back in
    let bits = c.digits_of_rows-bits.ensures.value in
    record { some' = omega (arith, some, bits); most = omega (arith, few, bits) }

pub returns : goal.returns
returns c =
    let input = c.args.input in
    let back = c.args.back in
    let p = counts_in c.args.filter in
    let kind = kind_of_operand input.source.kinds.now c.args.operand in
    let w : ℕ = width_of kind in
    let k = c.kind_of_operand-kind.result in
    let is = c.kind_of_operand-kind.ensures in
    let value = c.in_ok-value.ensures in
    let masks = c.in_ok-masked.ensures in
    let top = c.in_ok-top.ensures in
    let number = c.in_ok-number.ensures in
    let cut = c.in_ok-bottom.ensures in
    let rest = keeps_then _ c.put_frame_number.new.net _ number.keeps cut.keeps in
    let x = c.in_ok-value.value in
    let m = c.in_ok-masked.masked in
    let t' = c.in_ok-top.top in
    let wide : m.width ≡ w = masks.same_width ∙ value.same_width in
    let bits = c.digits_of_rows-bits.ensures.value in
    let whole : x.width + c.digits_of_rows-bits.result ≡ w + digits (back + 1) = (let a = value.same_width in omega (arith, a, bits)) in
    let at = c.new.ensures.back in
    let next : c.new.result.back ≡ suc back = omega (arith, at) in
    let place : c.new.result.bits ≡ place_bits (back + 1) = c.new.ensures.bits in
    let words : 2 ^ c.new.result.bits * m.width ≡ 2 ^ place_bits (back + 1) * m.width = ap (λ n. 2 ^ n * m.width) place in
    let size = ap (λ n. 2 ^ place_bits (back + 1) * n) wide in
    record {
      keeps = keeps_then _ c.put_operand.new.net _ value.keeps (keeps_then _ c.put_masked.new.net _ masks.keeps (keeps_then _ c.put_wide_sum.new.net _ top.keeps rest));
      cost = record {
        nodes = omega (arith, value.cost.nodes, masks.cost.nodes, top.cost.nodes, number.cost.nodes, cut.cost.nodes);
        registers = omega (arith, value.cost.registers, masks.cost.registers, top.cost.registers, number.cost.registers, cut.cost.registers, place, wide, whole);
        memories = omega (arith, value.cost.memories, masks.cost.memories, top.cost.memories, number.cost.memories, cut.cost.memories, words, size);
      };
      top = bus_kept _ _ t' rest top.bus;
      top_width = top.same_width ∙ whole;
      bottom = cut.bus;
      bottom_width = cut.same_width ∙ bits;
      values = λ run r t.
          let at_value = masks.keeps.runs run (top.keeps.runs run (rest.runs run r)) in
          let fits : (u : ℕ) → run.at u x.node < 2 ^ w = subst (λ n. (u : ℕ) → run.at u x.node < 2 ^ n) value.same_width (bus_fits c.put_operand.new.net x run value.bus at_value) in
          mod-eq_of_lt (subst (λ n. n < 2 ^ w) (value.carries run at_value (suc t)) (fits (suc t)));
      sums = λ run r.
          let v = value_in run.held c.args.operand in
          let at_top = rest.runs run r in
          let at_masks = top.keeps.runs run at_top in
          let at_value = masks.keeps.runs run at_masks in
          let width : ℕ = x.width + c.digits_of_rows-bits.result in
          tells_as run input.lines 3 (λ rows. sum_total width (map (widened k width) (last_ones c.new.result.back (map (masked v p) rows))))
          (λ rows. word_of (w + digits (back + 1)) (sum_of_numbers kind (framed_values run.held c.args.operand c.args.filter back rows))) (rows_by run input) (carried_by run t')
          (λ rows.
          ap (λ n. sum_total width (map (widened k width) (last_ones n (map (masked v p) rows)))) next
          ∙ ap (λ (o : Kind). sum_total width (map (widened o width) (last_ones (suc back) (map (masked v p) rows)))) is
          ∙ ap (λ n. sum_total n (map (widened kind n) (last_ones (suc back) (map (masked v p) rows)))) whole
          ∙ masked_sum kind v p (w + digits (back + 1)) back rows)
          (tells_made run input.lines 3 (masked v p) (λ xs. sum_total width (map (widened k width) (last_ones c.new.result.back xs))) (rows_by run input) (carried_by run m) (carried_by run t')
          (λ t. masks.masks run at_masks t ∙ ap (λ n. if p (rows_by run input (suc t)) then n else 0) (value.carries run at_value (suc t)))
          (top.tells run at_top));
      numbers = λ run r d u.
          let v = value_in run.held c.args.operand in
          let covered = exponent_covers (back + 1 + 1) 0 (back + 1 + 1) (omega arith) in
          let fits : suc back < 2 ^ digits (back + 1) = omega (arith, covered) in
          cut.carries run r (suc d + 3)
          ∙ ap (λ m. run.at (suc d + 3) c.in_ok-number.number.node % 2 ^ m) bits
          ∙ ap (λ n. n % 2 ^ digits (back + 1)) (number.tells run (cut.keeps.runs run r) d u)
          ∙ few_counted kind v p (digits (back + 1)) back (column_of run input.lines (rows_by run input) (suc d)) fits;
    }
