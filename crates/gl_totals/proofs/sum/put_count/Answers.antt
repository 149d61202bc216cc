use Rattle.std.proofs.Common.{◌≡◌, ℕ, suc, ◌*◌, arith, ap, ◌∙◌}
use Rattle.gl_values.specs.Totals.{sum_total}
use Rattle.gl_net.proofs.Determined.{keeps_then}
use Rattle.gl_totals.specs.Costs.{slot_words}
use Rattle.gl_totals.specs.Open.{values_at}
use Rattle.gl_totals.proofs.KeepLemmas.{keep_kept}
use Rattle.gl_totals.proofs.SumNet.{count_now}
use Rattle.gl_totals.proofs.sum.put_count.Goals as goal

pub put_sum-requires-clause-keep : goal.put_sum-requires-clause-keep
put_sum-requires-clause-keep c = keep_kept _ _ c.args.rows.keep c.in_ok-one.ensures.keeps c.requires.keep

pub returns : goal.returns
returns c = λ value.
    let one = c.in_ok-one.ensures in
    let count = c.in_ok-count.ensures in
    let wide = one.width ∙ c.small_word.ensures.width in
    let keep = c.args.rows.keep in
    let bits : slot_words keep * c.in_ok-one.one.width ≡ slot_words keep * 32 = ap (λ (w : ℕ). slot_words keep * w) wide in
    record {
      keeps = keeps_then c.args.net.now c.constant.new.self c.put_sum.new.net one.keeps count.keeps;
      cost = record {
        nodes = omega (arith, one.size, count.cost.nodes);
        registers = omega (arith, one.register_bits, count.cost.registers, wide);
        memories = omega (arith, one.memory_bits, count.cost.memories, bits);
      };
      bus = count.bus;
      same_width = count.same_width ∙ wide;
      carries = λ run r told t fresh.
          count.carries run r told t fresh ∙ ap (λ (w : ℕ). sum_total w (values_at run c.args.rows c.in_ok-one.one (suc t))) wide
          ∙ count_now run c.args.rows c.in_ok-one.one value (λ u. one.value run (count.keeps.runs run r) (suc u) ∙ c.small_word.ensures.bits) t;
    }
