use Rattle.std.proofs.Common.{◌≡◌, ℕ, suc, ◌+◌, ◌-◌, ◌%◌, ◌^◌, List, None, ap, arith, subst, ◌∙◌}
use Rattle.gl_algebra.specs.Results.{values_in}
use Rattle.gl_algebra.specs.Columns.{kind_of_operand}
use Rattle.gl_values.proofs.KindLemmas.{kind_some}
use Rattle.gl_values.proofs.Signs.{word_cut}
use Rattle.gl_values.proofs.Totalling.{average_is}
use Rattle.gl_values.specs.Kinds.{number_in, width_of, word_of}
use Rattle.gl_values.specs.Results.{Row}
use Rattle.gl_values.specs.Totals.{count_of, quotient_of, sum_of_numbers}
use Rattle.gl_values.specs.declared.kind.Kind.{Kind}
use Rattle.gl_totals.proofs.KindLemmas.{operand_kind}
use Rattle.gl_totals.specs.Costs.{cost_of_quotient}
use Rattle.gl_net.proofs.Determined.{keeps_then}
use Rattle.gl_wire.proofs.ColumnLemmas.{bit_kept}
use Rattle.gl_wire.specs.Costs.{CostsAtMost}
use Rattle.gl_frames_stages.specs.Columns.{carried_by}
use Rattle.gl_frames_slots.specs.Items.{rows_in}
use Rattle.gl_frames_slots.specs.Rows.{slot_here}
use Rattle.gl_frames_slots.proofs.average.put_slot_average_all.Goals as goal

pub put_quotient-requires-clause-top : goal.put_quotient-requires-clause-top
put_quotient-requires-clause-top c = c.in_ok-fraction.ensures.top

pub put_quotient-requires-clause-bottom : goal.put_quotient-requires-clause-bottom
put_quotient-requires-clause-bottom c = c.in_ok-fraction.ensures.bottom

pub put_quotient-requires-clause-go : goal.put_quotient-requires-clause-go
put_quotient-requires-clause-go c = bit_kept _ _ c.args.input.rows.valid c.in_ok-fraction.ensures.keeps c.requires.input.rows.valid

pub low_bits-requires-clause-width : goal.low_bits-requires-clause-width
low_bits-requires-clause-width c =
    let is = operand_kind c.args.input.source.kinds.now c.args.operand c.requires.kinds c.requires.fits in
    let some = kind_some _ is in
    let most = is.1 in
    let wide = c.in_ok-fraction.ensures.top_width in
    record { some' = omega (arith, some, wide); most = omega (arith, most, wide) }

pub returns : goal.returns
returns c =
    let old = c.args.net.now in
    let mid = c.put_slot_whole_fraction.new.net in
    let divided = c.put_quotient.new.net in
    let input = c.args.input in
    let kind = kind_of_operand input.source.kinds.now c.args.operand in
    let w : ℕ = width_of kind in
    let k = c.kind_of_operand-kind.result in
    let is = c.kind_of_operand-kind.ensures in
    let f = c.in_ok-fraction.fraction in
    let q = c.in_ok-quotient.quotient in
    let fraction = c.in_ok-fraction.ensures in
    let quotient = c.in_ok-quotient.ensures in
    let out = c.in_ok-out.ensures in
    let wide : f.top.width ≡ w + 32 = fraction.top_width in
    let low : f.top.width - 32 ≡ w = omega (arith, wide) in
    let divider : CostsAtMost mid divided (cost_of_quotient (w + 32) 32) =
    subst (λ (m : ℕ). CostsAtMost mid divided (cost_of_quotient (w + 32) m)) fraction.bottom_width
    (subst (λ (n : ℕ). CostsAtMost mid divided (cost_of_quotient n f.bottom.width)) wide quotient.cost) in
    record {
      keeps = keeps_then old mid _ fraction.keeps (keeps_then mid divided _ quotient.keeps out.keeps);
      cost = record {
        nodes = omega (arith, fraction.cost.nodes, divider.nodes, out.cost.nodes);
        registers = omega (arith, fraction.cost.registers, divider.registers, out.cost.registers);
        memories = omega (arith, fraction.cost.memories, divider.memories, out.cost.memories);
      };
      bus = out.bus;
      same_width = out.same_width ∙ low;
      tells = λ run r ends told counts d u.
          let at_quotient = out.keeps.runs run r in
          let at_fraction = quotient.keeps.runs run at_quotient in
          let rows : List Row = slot_here run input.rows ends (rows_in run input) (suc d) in
          let xs : List ℕ = values_in run.held c.args.filter None rows c.args.operand in
          let behind : suc d + (w + 34) ≡ suc (d + 1) + (f.top.width + 1) = omega (arith, wide) in
          let place : suc (d + 1) ≡ suc d + 1 = omega arith in
          let s : ℕ = run.at (suc (d + 1)) f.top.node in
          let n : ℕ = run.at (suc (d + 1)) f.bottom.node in
          let top : s ≡ word_of (w + 32) (sum_of_numbers kind xs) = ap (carried_by run f.top) place ∙ fraction.sums run at_fraction ends told d u in
          let bottom : n ≡ count_of xs = ap (carried_by run f.bottom) place ∙ fraction.numbers run at_fraction ends told counts d u in
          out.carries run r (suc d + (w + 34))
          ∙ ap (λ m. run.at (suc d + (w + 34)) q.node % 2 ^ m) low
          ∙ ap (λ m. run.at m q.node % 2 ^ w) behind
          ∙ ap (λ m. m % 2 ^ w) (quotient.value run at_quotient (d + 1))
          ∙ ap (λ m. word_of m (quotient_of (number_in k m s) n) % 2 ^ w) wide
          ∙ ap (λ (o : Kind). word_of (w + 32) (quotient_of (number_in o (w + 32) s) n) % 2 ^ w) is
          ∙ word_cut (w + 32) w (quotient_of (number_in kind (w + 32) s) n) (omega arith)
          ∙ average_is kind xs s n top bottom;
    }
