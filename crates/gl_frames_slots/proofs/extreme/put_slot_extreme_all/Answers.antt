use Rattle.std.proofs.Common.{◌≡◌, ℕ, suc, ◌+◌, ◌-◌, ◌*◌, ◌%◌, ◌^◌, ◌≤◌, List, None, true, map, ap, arith, refl, sym, subst, ◌∙◌}
use Rattle.gl_algebra.specs.Results.{counts_in}
use Rattle.gl_algebra.specs.Columns.{kind_of_operand}
use Rattle.gl_values.proofs.KindLemmas.{kind_some}
use Rattle.gl_values.specs.Kinds.{width_of}
use Rattle.gl_values.specs.Results.{Row}
use Rattle.gl_values.specs.declared.kind.Kind.{Kind}
use Rattle.gl_totals.proofs.KindLemmas.{operand_kind}
use Rattle.gl_totals.specs.Totals.{extreme_of}
use Rattle.gl_frames.specs.Frames.{total_over}
use Rattle.gl_net.proofs.Determined.{keeps_then}
use Rattle.gl_frames_stages.specs.Columns.{carried_by}
use Rattle.gl_frames_stages.specs.FilteredNets.{if_passes, pack}
use Rattle.gl_frames_stages.specs.Framing.{value_in}
use Rattle.gl_frames_stages.specs.LevelNets.{better_in}
use Rattle.gl_frames_stages.proofs.PackLemmas.{same_passed}
use Rattle.gl_frames_slots.specs.Extremes.{best_from_none}
use Rattle.gl_frames_slots.specs.Items.{rows_in}
use Rattle.gl_frames_slots.specs.Rows.{slot_here}
use Rattle.gl_frames_slots.proofs.ExtremeNet.{all_packed}
use Rattle.gl_frames_slots.proofs.ItemsNet.{input_kept, made_rows}
use Rattle.gl_frames_slots.proofs.MeetLemmas.{tells_next}
use Rattle.gl_frames_slots.proofs.extreme.put_slot_extreme_all.Goals as goal

pub put_slot_best_so_far-requires-clause-rows : goal.put_slot_best_so_far-requires-clause-rows
put_slot_best_so_far-requires-clause-rows c = (input_kept _ _ c.args.input c.in_ok-packed.ensures.keeps c.requires.input).rows

pub put_slot_best_so_far-requires-clause-width : goal.put_slot_best_so_far-requires-clause-width
put_slot_best_so_far-requires-clause-width c = c.in_ok-packed.ensures.width ∙ ap (λ (k : Kind). width_of k + 1) (sym c.kind_of_operand-kind.ensures)

pub put_slot_best_so_far-requires-clause-some : goal.put_slot_best_so_far-requires-clause-some
put_slot_best_so_far-requires-clause-some c =
    subst (λ (k : Kind). 1 ≤ width_of k) (sym c.kind_of_operand-kind.ensures) (kind_some _ (operand_kind c.args.input.source.kinds.now c.args.ranking.operand c.requires.kinds c.requires.fits))

pub low_bits-requires-clause-width : goal.low_bits-requires-clause-width
low_bits-requires-clause-width c =
    let kind = operand_kind c.args.input.source.kinds.now c.args.ranking.operand c.requires.kinds c.requires.fits in
    let some = kind_some _ kind in
    let most = kind.1 in
    let is = c.in_ok-packed.ensures.width in
    record { some' = omega (arith, some, is); most = omega (arith, most, is) }

pub returns : goal.returns
returns c =
    let input = c.args.input in
    let slot = input.rows.slot.width in
    let extreme = c.args.ranking.extreme in
    let p = counts_in c.args.filter in
    let kind = kind_of_operand input.source.kinds.now c.args.ranking.operand in
    let w : ℕ = width_of kind in
    let is = c.kind_of_operand-kind.ensures in
    let packed = c.in_ok-packed.ensures in
    let best = c.in_ok-best.ensures in
    let low = c.in_ok-low.ensures in
    let out = c.in_ok-out.ensures in
    let x = c.in_ok-packed.packed in
    let b = c.in_ok-best.best in
    let whole : x.width ≡ w + 1 = packed.width in
    let bits : x.width - 1 ≡ w = omega (arith, whole) in
    let words : 2 ^ slot * x.width ≡ 2 ^ slot * (w + 1) = ap (λ n. 2 ^ slot * n) whole in
    record {
      keeps = keeps_then _ c.put_slot_packed.new.net _ packed.keeps (keeps_then _ c.put_slot_best_so_far.new.net _ best.keeps (keeps_then _ c.low_bits.new.net _ low.keeps out.keeps));
      cost = record {
        nodes = omega (arith, packed.cost.nodes, best.cost.nodes, low.cost.nodes, out.cost.nodes);
        registers = omega (arith, packed.cost.registers, best.cost.registers, low.cost.registers, out.cost.registers, low.same_width, whole);
        memories = omega (arith, packed.cost.memories, best.cost.memories, low.cost.memories, out.cost.memories, words);
      };
      bus = out.bus;
      same_width = out.same_width ∙ low.same_width ∙ bits;
      tells = λ run r ends told counts.
          let v = value_in run.held c.args.ranking.operand in
          let at_low = out.keeps.runs run r in
          let at_best = low.keeps.runs run at_low in
          let at_packed = best.keeps.runs run at_best in
          let row : ℕ → Row = rows_in run input in
          let rest : Row → ℕ = (λ z. v z % 2 ^ w) in
          tells_next run input.rows ends 0 (total_over (extreme_of extreme kind) v None p) row (carried_by run c.in_ok-low.low) (carried_by run c.in_ok-out.out) (out.value run r)
          (λ d q.
          let rows : List Row = slot_here run input.rows ends row (suc d) in
          let all : map rest rows ≡ map v rows =
          sym (made_rows run input.rows ends rest row (λ t. v (row t)) (packed.values run at_packed) (suc d)) ∙ made_rows run input.rows ends v row (λ t. v (row t)) (λ t. refl) (suc d) in
          low.carries run at_low (suc d + 0)
          ∙ ap (λ n. run.at (suc d + 0) b.node % 2 ^ n) bits
          ∙ ap (λ n. n % 2 ^ w) (best.tells run at_best ends told d q)
          ∙ ap (λ (o : Kind). best_from_none (better_in (record { extreme = extreme; kind = o; packed = true })) (slot_here run input.rows ends (carried_by run x) (suc d)) % 2 ^ w) is
          ∙ ap (λ l. best_from_none (better_in (record { extreme = extreme; kind = kind; packed = true })) l % 2 ^ w)
          (made_rows run input.rows ends (λ z. pack w (if_passes w p v z)) row (carried_by run x) (packed.packs run at_packed) (suc d))
          ∙ all_packed extreme kind p v rows
          ∙ ap (extreme_of extreme kind) (same_passed p rest v rows all));
    }
