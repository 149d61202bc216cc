use Rattle.std.proofs.Common.{◌≡◌, ℕ, suc, ◌+◌, ◌%◌, ◌^◌, ap, arith, subst, ◌∙◌}
use Rattle.gl_values.specs.Kinds.{number_in, width_of, word_of}
use Rattle.gl_values.specs.Totals.{quotient_of}
use Rattle.gl_values.proofs.Signs.{word_cut}
use Rattle.gl_values.proofs.Totalling.{average_is}
use Rattle.gl_net.proofs.Determined.{keeps_then}
use Rattle.gl_wire.proofs.ColumnLemmas.{bit_kept}
use Rattle.gl_wire.specs.Costs.{CostsAtMost}
use Rattle.gl_totals.specs.Costs.{cost_of_quotient}
use Rattle.gl_totals.specs.Open.{values_at}
use Rattle.gl_totals.proofs.average.put_average.Goals as goal

pub put_quotient-requires-clause-go : goal.put_quotient-requires-clause-go
put_quotient-requires-clause-go c = bit_kept c.args.net.now c.put_fraction.new.net c.args.rows.eos c.in_ok-fraction.ensures.keeps c.requires.eos

pub returns : goal.returns
returns c =
    let old = c.args.net.now in
    let made = c.put_fraction.new.net in
    let divided = c.put_quotient.new.net in
    let new = c.low_bits.new.net in
    let kind = c.args.kind in
    let value = c.args.value in
    let w = value.width in
    let f = c.in_ok-fraction.fraction in
    let q = c.in_ok-quotient.quotient in
    let fraction = c.in_ok-fraction.ensures in
    let quotient = c.in_ok-quotient.ensures in
    let out = c.in_ok-out.ensures in
    let wide : f.top.width ≡ width_of kind + 32 = fraction.top_width ∙ ap (λ (n : ℕ). n + 32) c.requires.width in
    let divider : CostsAtMost made divided (cost_of_quotient (w + 32) 32) =
    subst (λ (m : ℕ). CostsAtMost made divided (cost_of_quotient (w + 32) m)) fraction.bottom_width
    (subst (λ (n : ℕ). CostsAtMost made divided (cost_of_quotient n f.bottom.width)) fraction.top_width quotient.cost) in
    record {
      keeps = keeps_then old made new fraction.keeps (keeps_then made divided new quotient.keeps out.keeps);
      cost = record {
        nodes = omega (arith, fraction.cost.nodes, divider.nodes, out.cost.nodes);
        registers = omega (arith, fraction.cost.registers, divider.registers, out.cost.registers);
        memories = omega (arith, fraction.cost.memories, divider.memories, out.cost.memories);
      };
      bus = out.bus;
      same_width = out.same_width;
      carries = λ run r told t fresh.
          let xs = values_at run c.args.rows value (suc t) in
          let at_quotient = out.keeps.runs run r in
          let at_fraction = quotient.keeps.runs run at_quotient in
          let s = run.at (suc t) f.top.node in
          let n = run.at (suc t) f.bottom.node in
          let e : suc t + (w + 33) ≡ suc t + (f.top.width + 1) = omega (arith, fraction.top_width) in
          out.carries run r (suc t + (w + 33)) ∙ ap (λ (k : ℕ). run.at k q.node % 2 ^ w) e
          ∙ ap (λ (k : ℕ). k % 2 ^ w) (quotient.value run at_quotient t)
          ∙ ap (λ (k : ℕ). word_of k (quotient_of (number_in kind k s) n) % 2 ^ w) wide
          ∙ ap (λ (k : ℕ). word_of (width_of kind + 32) (quotient_of (number_in kind (width_of kind + 32) s) n) % 2 ^ k) c.requires.width
          ∙ word_cut (width_of kind + 32) (width_of kind) (quotient_of (number_in kind (width_of kind + 32) s) n) (omega arith)
          ∙ average_is kind xs s n (fraction.sum run at_fraction told t fresh) (fraction.number run at_fraction told t fresh);
    }
