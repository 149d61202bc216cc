use Rattle.std.proofs.Common.{◌≡◌, ℕ, ◌*◌, ◌^◌, arith, ap, subst, ◌∙◌}
use Rattle.gl_net.proofs.Determined.{keeps_then}
use Rattle.gl_totals.specs.Folds.{IsFolded}
use Rattle.gl_totals.specs.Open.{in_memory}
use Rattle.gl_totals.specs.declared.fold.Step.TheVariants.{Add}
use Rattle.gl_frames_slots.proofs.SumNet.{slots_summed}
use Rattle.gl_frames_slots.proofs.sum.put_slot_summed.Goals as goal

pub returns : goal.returns
returns c =
    let rows = c.args.rows in
    let value = c.args.value in
    let w = value.width in
    let fold = c.in_ok-fold.ensures in
    let out = c.in_ok-out.ensures in
    let f = c.in_ok-fold.fold in
    let zero = c.small_word-zero.ensures in
    let wide : c.small_word-zero.result.width ≡ w = zero.width in
    let words : 2 ^ rows.slot.width * c.small_word-zero.result.width ≡ 2 ^ rows.slot.width * w = ap (λ n. 2 ^ rows.slot.width * n) wide in
    record {
      keeps = keeps_then _ c.put_state.new.net _ fold.keeps out.keeps;
      cost = record {
        nodes = omega (arith, fold.cost.nodes, out.cost.nodes);
        registers = omega (arith, fold.cost.registers, out.cost.registers, fold.now_width, wide);
        memories = omega (arith, fold.cost.memories, out.cost.memories, words);
      };
      bus = out.bus;
      same_width = out.same_width ∙ fold.now_width ∙ wide;
      tells = λ run r ends told.
          slots_summed run rows ends told w value f.before f.now c.in_ok-out.out rows.first
          (subst (λ (n : ℕ). IsFolded run n 0 (Add value) (in_memory rows.valid rows.first rows.first rows.begins rows.slot rows.next) f.before f.now) wide
          (subst (λ (n : ℕ). IsFolded run c.small_word-zero.result.width n (Add value) (in_memory rows.valid rows.first rows.first rows.begins rows.slot rows.next) f.before f.now) zero.bits
          (fold.folded run (out.keeps.runs run r) (told.quiet, told.slots, told.firsts))))
          (out.value run r);
    }
