use Rattle.std.proofs.Common.{◌≡◌, ℕ, suc, ◌+◌, ◌*◌, ap, arith, ◌∙◌}
use Rattle.gl_values.specs.Kinds.{word_of}
use Rattle.gl_values.specs.Totals.{sum_of_numbers, sum_total}
use Rattle.gl_net.proofs.Determined.{keeps_then}
use Rattle.gl_wire.proofs.ColumnLemmas.{bus_kept}
use Rattle.gl_totals.specs.Costs.{slot_words}
use Rattle.gl_totals.specs.Open.{values_at}
use Rattle.gl_totals.proofs.AverageNet.{values_numbers}
use Rattle.gl_totals.proofs.KeepLemmas.{keep_kept}
use Rattle.gl_totals.proofs.average.put_fraction.Goals as goal

pub put_sum-requires-clause-keep : goal.put_sum-requires-clause-keep
put_sum-requires-clause-keep c = keep_kept _ _ c.args.rows.keep c.in_ok-wide.ensures.keeps c.requires.keep

pub put_count-requires-clause-keep : goal.put_count-requires-clause-keep
put_count-requires-clause-keep c =
    keep_kept _ _ c.args.rows.keep c.in_ok-top.ensures.keeps (keep_kept _ _ c.args.rows.keep c.in_ok-wide.ensures.keeps c.requires.keep)

pub returns : goal.returns
returns c =
    let old = c.args.net.now in
    let new = c.put_count.new.net in
    let value = c.args.value in
    let wide = c.in_ok-wide.ensures in
    let top = c.in_ok-top.ensures in
    let bottom = c.in_ok-bottom.ensures value in
    let x = c.in_ok-wide.wide in
    let words = slot_words c.args.rows.keep in
    let bits : words * x.width ≡ words * (value.width + 32) = ap (λ (w : ℕ). words * w) wide.same_width in
    record {
      keeps = keeps_then old c.put_number.new.net new wide.keeps (keeps_then _ c.put_sum.new.net new top.keeps bottom.keeps);
      cost = record {
        nodes = omega (arith, wide.cost.nodes, top.cost.nodes, bottom.cost.nodes);
        registers = omega (arith, wide.cost.registers, top.cost.registers, bottom.cost.registers, wide.same_width);
        memories = omega (arith, wide.cost.memories, top.cost.memories, bottom.cost.memories, bits);
      };
      top = bus_kept c.put_sum.new.net new c.in_ok-top.top bottom.keeps top.bus;
      top_width = top.same_width ∙ wide.same_width;
      bottom = bottom.bus;
      bottom_width = bottom.same_width;
      sum = λ run r told t fresh.
          let at_top = bottom.keeps.runs run r in
          let at_wide = top.keeps.runs run at_top in
          let e : suc t ≡ suc t + 0 = omega arith in
          ap (λ (n : ℕ). run.at n c.in_ok-top.top.node) e ∙ top.carries run at_top told t fresh
          ∙ ap (λ (w : ℕ). sum_total w (values_at run c.args.rows x (suc t))) wide.same_width
          ∙ values_numbers run c.args.rows c.args.kind value x (value.width + 32) (λ u. wide.carries run at_wide u) (suc t)
          ∙ ap (λ (w : ℕ). word_of (w + 32) (sum_of_numbers c.args.kind (values_at run c.args.rows value (suc t)))) c.requires.width;
      number = λ run r told t fresh.
          let e : suc t ≡ suc t + 0 = omega arith in
          ap (λ (n : ℕ). run.at n c.in_ok-bottom.bottom.node) e ∙ bottom.carries run r told t fresh;
    }
