use Rattle.std.proofs.Common.{◌≡◌, ℕ, suc, ◌+◌, ◌*◌, arith, ap, sym, subst, ◌∙◌}
use Rattle.std.proofs.lemmas.Result.{IfOk-weaker}
use Rattle.std.specs.Prelude.{IfOk}
use Rattle.gl_net.specs.declared.node.Bus.{Bus}
use Rattle.gl_net.proofs.Determined.{keeps_then}
use Rattle.gl_totals.specs.Costs.{cost_of_extreme, slot_words}
use Rattle.gl_totals.specs.Extremes.{IsHeldBest}
use Rattle.gl_totals.specs.Folds.{IsFold, IsFolded}
use Rattle.gl_totals.specs.Open.{in_register}
use Rattle.gl_totals.specs.Totals.{IsTotalOf, extreme_of}
use Rattle.gl_totals.specs.declared.fold.Best.{Best}
use Rattle.gl_totals.specs.declared.fold.Step.TheVariants.{Keep, Set}
use Rattle.gl_totals.specs.declared.rows.Keep as keep
use Rattle.gl_totals.specs.declared.rows.Keep.TheVariants.{Register}
use Rattle.gl_totals.proofs.ExtremeNet.{extreme_now, held_total}
use Rattle.gl_totals.proofs.KeepLemmas.{keep_kept, lag_small}
use Rattle.gl_totals.proofs.extreme.put_extreme.Goals as goal

pub put_state-requires-in-Slots-clause-keep : goal.put_state-requires-in-Slots-clause-keep
put_state-requires-in-Slots-clause-keep c = keep_kept _ _ c.args.rows.keep c.in_ok-some.ensures.keeps c.requires.keep

pub returns-in-Register : goal.returns-in-Register
returns-in-Register c =
    let value = c.args.value in
    let rows = c.args.rows in
    let old = c.args.net.now in
    let mid = c.put_state.new.net in
    let new = c.put_held.new.net in
    let flag = c.in_ok-some.some in
    let best : Best = record { extreme = c.args.extreme; kind = c.args.kind; some = c.bit.result; value = value } in
    let some : IsFold old mid 1 0 Set (in_register rows.valid rows.eos) flag =
    subst (λ (k : keep.Keep). IsFold old mid 1 0 Set (record { valid = rows.valid; eos = rows.eos; keep = k }) flag) c.in-Register.is
    (subst (λ (w : ℕ). IsFold old mid w 0 Set rows flag) c.small_word.ensures.width
    (subst (λ (b : ℕ). IsFold old mid c.small_word.result.width b Set rows flag) c.small_word.ensures.bits c.in_ok-some.ensures)) in
    subst (λ (k : keep.Keep). IfOk c.put_held.result (IsTotalOf old new (cost_of_extreme k value.width) value.width 0
    (record { valid = rows.valid; eos = rows.eos; keep = k }) value (extreme_of c.args.extreme c.args.kind))) (sym c.in-Register.is)
    (IfOk-weaker c.put_held.result (IsHeldBest mid new rows.valid best)
    (IsTotalOf old new (cost_of_extreme Register value.width) value.width 0 (in_register rows.valid rows.eos) value (extreme_of c.args.extreme c.args.kind))
    (λ (now : Bus). held_total old mid new rows.valid rows.eos best flag now c.bit.ensures some) c.put_held.ensures)

pub returns-in_ok-fold-in-Slots : goal.returns-in_ok-fold-in-Slots
returns-in_ok-fold-in-Slots c =
    let value = c.args.value in
    let rows = c.args.rows in
    let some = c.in_ok-some.ensures in
    let fold = c.in_ok-fold-in-Slots.ensures in
    let flag = c.in_ok-some.some in
    let f = c.in_ok-fold-in-Slots.fold in
    let best : Best = record { extreme = c.args.extreme; kind = c.args.kind; some = c.bit.result; value = value } in
    let words = slot_words rows.keep in
    let bit : words * c.small_word.result.width ≡ words * 1 = ap (λ (w : ℕ). words * w) c.small_word.ensures.width in
    let bits : words * c.small_word-in-Slots.result.width ≡ words * value.width = ap (λ (w : ℕ). words * w) c.small_word-in-Slots.ensures.width in
    record {
      keeps = keeps_then c.args.net.now c.put_state.new.net c.put_state-in-Slots.new.net some.keeps fold.keeps;
      cost = record {
        nodes = omega (arith, some.cost.nodes, fold.cost.nodes, lag_small rows.keep);
        registers = omega (arith, some.cost.registers, fold.cost.registers, c.small_word.ensures.width, c.small_word-in-Slots.ensures.width);
        memories = omega (arith, some.cost.memories, fold.cost.memories, bit, bits);
      };
      bus = fold.now;
      same_width = fold.now_width ∙ c.small_word-in-Slots.ensures.width;
      carries = λ run r told t fresh.
          let e : suc t + 0 ≡ suc t = omega arith in
          let counts : IsFolded run 1 0 Set rows flag.before flag.now =
          subst (λ (w : ℕ). IsFolded run w 0 Set rows flag.before flag.now) c.small_word.ensures.width
          (subst (λ (b : ℕ). IsFolded run c.small_word.result.width b Set rows flag.before flag.now) c.small_word.ensures.bits (some.folded run (fold.keeps.runs run r) told.led)) in
          let folded : IsFolded run value.width 0 (Keep best) rows f.before f.now =
          subst (λ (w : ℕ). IsFolded run w 0 (Keep best) rows f.before f.now) c.small_word-in-Slots.ensures.width
          (subst (λ (b : ℕ). IsFolded run c.small_word-in-Slots.result.width b (Keep best) rows f.before f.now) c.small_word-in-Slots.ensures.bits (fold.folded run r told.led)) in
          ap (λ (n : ℕ). run.at n f.now.node) e
          ∙ extreme_now run rows value.width best flag.before flag.now (λ c. run.at c f.before.node) (λ c. run.at c f.now.node) c.bit.ensures counts
          folded.kept folded.with_row told.begins t fresh;
    }
