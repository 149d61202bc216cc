use Rattle.std.proofs.Common.{◌≡◌, ℕ, suc, ◌+◌, ◌-◌, ◌%◌, ◌^◌, ◌<◌, ◌≤◌, List, Some, map, ap, arith, refl, sym, subst, ◌∙◌}
use Rattle.gl_algebra.specs.Rings.{digits}
use Rattle.gl_algebra.specs.Results.{counts_in}
use Rattle.gl_algebra.proofs.ExponentLemmas.{exponent_covers}
use Rattle.gl_algebra.specs.Columns.{kind_of_operand}
use Rattle.gl_values.proofs.KindLemmas.{kind_some}
use Rattle.gl_values.proofs.Signs.{word_cut, wrapped_is}
use Rattle.gl_values.specs.Kinds.{number_in, width_of, word_of, wrapped}
use Rattle.gl_values.specs.Results.{Row}
use Rattle.gl_values.specs.Totals.{count_of, quotient_of, sum_of_numbers}
use Rattle.gl_values.specs.declared.kind.Kind.{Kind}
use Rattle.gl_totals.proofs.KindLemmas.{operand_kind}
use Rattle.gl_totals.specs.Costs.{cost_of_quotient}
use Rattle.gl_frames.specs.Frames.{frame_of}
use Rattle.gl_net.proofs.Determined.{keeps_then}
use Rattle.gl_wire.proofs.ColumnLemmas.{bit_kept}
use Rattle.gl_wire.specs.Costs.{CostsAtMost}
use Rattle.gl_frames_stages.specs.Average.{framed_values}
use Rattle.gl_frames_stages.specs.Columns.{carried_by, column_of}
use Rattle.gl_frames_stages.specs.Framing.{value_in}
use Rattle.gl_frames_stages.specs.Inputs.{rows_by}
use Rattle.gl_frames_stages.proofs.CycleLemmas.{some_digits}
use Rattle.gl_frames_stages.proofs.InputNet.{made_rows}
use Rattle.gl_frames_stages.proofs.MeanLemmas.{average_from}
use Rattle.gl_frames_stages.proofs.average.put_average_item.Goals as goal

pub put_quotient-requires-clause-top : goal.put_quotient-requires-clause-top
put_quotient-requires-clause-top c = c.in_ok-fraction.ensures.top

pub put_quotient-requires-clause-bottom : goal.put_quotient-requires-clause-bottom
put_quotient-requires-clause-bottom c = c.in_ok-fraction.ensures.bottom

pub put_quotient-requires-clause-go : goal.put_quotient-requires-clause-go
put_quotient-requires-clause-go c = bit_kept _ _ c.args.input.lines.valid c.in_ok-fraction.ensures.keeps c.requires.input.valid

pub low_bits-requires-clause-width : goal.low_bits-requires-clause-width
low_bits-requires-clause-width c =
    let is = operand_kind c.args.input.source.kinds.now c.args.operand c.requires.kinds c.requires.fits in
    let some = kind_some _ is in
    let most = is.1 in
    let wide = c.in_ok-fraction.ensures.top_width in
    let bits = c.digits_of_rows.ensures.value in
    record { some' = omega (arith, some, wide, bits); most = omega (arith, most, wide, bits) }

pub returns : goal.returns
returns c =
    let old = c.args.net.now in
    let mid = c.put_frame_fraction.new.net in
    let divided = c.put_quotient.new.net in
    let input = c.args.input in
    let lines = input.lines in
    let back = c.args.back in
    let p = counts_in c.args.filter in
    let kind = kind_of_operand input.source.kinds.now c.args.operand in
    let w : ℕ = width_of kind in
    let b : ℕ = digits (back + 1) in
    let k = c.kind_of_operand-kind.result in
    let is = c.kind_of_operand-kind.ensures in
    let f = c.in_ok-fraction.fraction in
    let q = c.in_ok-quotient.quotient in
    let fraction = c.in_ok-fraction.ensures in
    let quotient = c.in_ok-quotient.ensures in
    let out = c.in_ok-out.ensures in
    let bits = c.digits_of_rows.ensures.value in
    let wide : f.top.width ≡ w + b = fraction.top_width in
    let low : f.top.width - c.digits_of_rows.result ≡ w = omega (arith, wide, bits) in
    let some : 1 ≤ w = kind_some _ (operand_kind input.source.kinds.now c.args.operand c.requires.kinds c.requires.fits) in
    let divider : CostsAtMost mid divided (cost_of_quotient (w + b) b) =
    subst (λ (m : ℕ). CostsAtMost mid divided (cost_of_quotient (w + b) m)) fraction.bottom_width
    (subst (λ (n : ℕ). CostsAtMost mid divided (cost_of_quotient n f.bottom.width)) wide quotient.cost) in
    record {
      keeps = keeps_then old mid _ fraction.keeps (keeps_then mid divided _ quotient.keeps out.keeps);
      cost = record {
        nodes = omega (arith, fraction.cost.nodes, divider.nodes, out.cost.nodes);
        registers = omega (arith, fraction.cost.registers, divider.registers, out.cost.registers);
        memories = omega (arith, fraction.cost.memories, divider.memories, out.cost.memories);
      };
      bus = out.bus;
      same_width = out.same_width ∙ low;
      tells = λ run r d u.
          let v = value_in run.held c.args.operand in
          let at_quotient = out.keeps.runs run r in
          let at_fraction = quotient.keeps.runs run at_quotient in
          let row : ℕ → Row = rows_by run input in
          let rows : List Row = column_of run lines row (suc d) in
          let all : map (λ z. v z % 2 ^ w) rows ≡ map v rows =
          sym (made_rows run lines (λ z. v z % 2 ^ w) row (λ t. v (row t)) (λ t. sym (fraction.values run at_fraction t)) (suc d)) ∙ made_rows run lines v row (λ t. v (row t)) (λ t. refl) (suc d) in
          let s = sum_of_numbers kind (framed_values run.held c.args.operand c.args.filter back rows) in
          let n = count_of (frame_of (Some back) p rows) in
          let behind : suc d + (w + b + 4) ≡ suc (d + 3) + (f.top.width + 1) = omega (arith, wide) in
          let place : suc (d + 3) ≡ suc d + 3 = omega arith in
          let top : run.at (suc (d + 3)) f.top.node ≡ word_of (w + b) s = ap (carried_by run f.top) place ∙ fraction.sums run at_fraction d u in
          let bottom : run.at (suc (d + 3)) f.bottom.node ≡ n = ap (carried_by run f.bottom) place ∙ fraction.numbers run at_fraction d u in
          let covered = exponent_covers (back + 1 + 1) 0 (back + 1 + 1) (omega arith) in
          let fits : suc back < 2 ^ b = omega (arith, covered) in
          out.carries run r (suc d + (w + b + 4))
          ∙ ap (λ m. run.at (suc d + (w + b + 4)) q.node % 2 ^ m) low
          ∙ ap (λ m. run.at m q.node % 2 ^ w) behind
          ∙ ap (λ m. m % 2 ^ w) (quotient.value run at_quotient (d + 3))
          ∙ ap (λ m. word_of m (quotient_of (number_in k m (run.at (suc (d + 3)) f.top.node)) (run.at (suc (d + 3)) f.bottom.node)) % 2 ^ w) wide
          ∙ ap (λ (o : Kind). word_of (w + b) (quotient_of (number_in o (w + b) (run.at (suc (d + 3)) f.top.node)) (run.at (suc (d + 3)) f.bottom.node)) % 2 ^ w) is
          ∙ ap (λ m. word_of (w + b) (quotient_of (number_in kind (w + b) m) (run.at (suc (d + 3)) f.bottom.node)) % 2 ^ w) top
          ∙ ap (λ m. word_of (w + b) (quotient_of (number_in kind (w + b) (word_of (w + b) s)) m) % 2 ^ w) bottom
          ∙ ap (λ z. word_of (w + b) (quotient_of z n) % 2 ^ w) (sym (wrapped_is kind (w + b) s (omega (arith, some))))
          ∙ word_cut (w + b) w (quotient_of (wrapped kind (w + b) s) n) (omega arith)
          ∙ average_from kind v p b back rows some (some_digits back) fits (let lt = c.requires.back in omega (arith, lt)) all;
    }
