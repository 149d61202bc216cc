use Rattle.std.proofs.Common.{◌≡◌, ◌≢◌, ℕ, suc, ◌+◌, ◌*◌, ◌≤◌, length, ap, arith, sym, subst, ◌∙◌}
use Rattle.std.proofs.lemmas.Bool.{eqb-false, eqb-true}
use Rattle.std.proofs.lemmas.List.{length-map}
use Rattle.gl_bits.specs.Words.{Word, bits_of}
use Rattle.gl_net.proofs.Determined.{keeps_then}
use Rattle.gl_totals.specs.Costs.{slot_words}
use Rattle.gl_totals.specs.Folds.{IsFolded}
use Rattle.gl_totals.specs.Open.{values_at}
use Rattle.gl_totals.specs.declared.fold.Step.TheVariants.{Add, Shift}
use Rattle.gl_totals.proofs.KeepLemmas.{keep_kept}
use Rattle.gl_totals.proofs.WeighLemmas.{weighted_nothing}
use Rattle.gl_totals.proofs.WeighNet.{sum_first}
use Rattle.gl_totals.proofs.weighted.put_weighted.Goals as goal

pub returns-then-is_empty : goal.returns-then-is_empty
returns-then-is_empty c =
    let none = c.in_ok-none.ensures in
    let ws = c.args.weights.now in
    let width = c.args.value.width in
    let empty : length ws ≡ 0 = eqb-true (length ws) 0 (sym c.is_empty.ensures ∙ c.if-is_empty.true) in
    let bits : length (bits_of ws) ≡ 0 = length-map ws (λ (w : Word). w.bits) ∙ empty in
    record {
      keeps = none.keeps;
      cost = record { nodes = omega (arith, none.size); registers = omega (arith, none.register_bits); memories = omega (arith, none.memory_bits) };
      bus = none.bus;
      same_width = none.width ∙ c.small_word.ensures.width;
      carries = λ run r told t fresh. none.value run r (suc t + 0) ∙ c.small_word.ensures.bits
          ∙ sym (weighted_nothing width (bits_of ws) (values_at run c.args.rows c.args.value (suc t)) bits);
    }

pub put_state-requires-2-clause-keep : goal.put_state-requires-2-clause-keep
put_state-requires-2-clause-keep c =
    let keep = c.args.rows.keep in
    keep_kept _ _ keep c.in_ok-part.ensures.keeps (keep_kept _ _ keep c.in_ok-place.ensures.keeps c.requires.keep)

pub returns : goal.returns
returns c =
    let ws = c.args.weights.now in
    let value = c.args.value in
    let rows = c.args.rows in
    let width = value.width in
    let place = c.in_ok-place.ensures in
    let part = c.in_ok-part.ensures in
    let sum = c.in_ok-sum.ensures in
    let p = c.in_ok-place.place in
    let f = c.in_ok-sum.sum in
    let x = c.in_ok-part.part in
    let many : length (bits_of ws) ≡ length ws = length-map ws (λ (w : Word). w.bits) in
    let some : length ws ≢ 0 = eqb-false (length ws) 0 (sym c.is_empty.ensures ∙ c.if-is_empty.false) in
    let bits : 1 ≤ length (bits_of ws) = omega (arith, many, some) in
    let words = slot_words rows.keep in
    let places : words * c.small_word-first.result.width ≡ words * length ws = ap (λ (w : ℕ). words * w) c.small_word-first.ensures.width in
    let sums : words * c.small_word-2.result.width ≡ words * width = ap (λ (w : ℕ). words * w) c.small_word-2.ensures.width in
    record {
      keeps = keeps_then c.args.net.now c.put_state.new.net _ place.keeps (keeps_then _ c.put_part.new.net _ part.keeps sum.keeps);
      cost = record {
        nodes = omega (arith, place.cost.nodes, part.cost.nodes, sum.cost.nodes);
        registers = omega (arith, place.cost.registers, part.cost.registers, sum.cost.registers, c.small_word-first.ensures.width, c.small_word-2.ensures.width);
        memories = omega (arith, place.cost.memories, part.cost.memories, sum.cost.memories, places, sums);
      };
      bus = sum.now;
      same_width = sum.now_width ∙ c.small_word-2.ensures.width;
      carries = λ run r told t fresh.
          let at_part = sum.keeps.runs run r in
          let at_place = part.keeps.runs run at_part in
          let e : suc t + 0 ≡ suc t = omega arith in
          ap (λ (n : ℕ). run.at n f.now.node) e
          ∙ sum_first run rows width (bits_of ws) bits value x p.before p.now f.before f.now
          (subst (λ (w : ℕ). IsFolded run w 1 Shift rows p.before p.now) (c.small_word-first.ensures.width ∙ sym many)
          (subst (λ (b : ℕ). IsFolded run c.small_word-first.result.width b Shift rows p.before p.now) c.small_word-first.ensures.bits (place.folded run at_place told.led)))
          (λ u. part.carries run at_part (suc u))
          (subst (λ (w : ℕ). IsFolded run w 0 (Add x) rows f.before f.now) c.small_word-2.ensures.width
          (subst (λ (b : ℕ). IsFolded run c.small_word-2.result.width b (Add x) rows f.before f.now) c.small_word-2.ensures.bits (sum.folded run r told.led))) told.begins t fresh;
    }
