use Rattle.std.proofs.Common.{◌≡◌, ℕ, suc, ◌+◌, ◌-◌, ◌%◌, ◌^◌, ◌≤◌, List, Some, true, map, ap, arith, refl, sym, subst, ◌∙◌}
use Rattle.gl_algebra.specs.Frames.{delay_of_extreme}
use Rattle.gl_algebra.specs.Results.{counts_in}
use Rattle.gl_algebra.specs.Columns.{kind_of_operand}
use Rattle.gl_values.proofs.KindLemmas.{kind_some}
use Rattle.gl_values.specs.Kinds.{width_of}
use Rattle.gl_values.specs.Results.{Row}
use Rattle.gl_values.specs.declared.kind.Kind.{Kind}
use Rattle.gl_totals.proofs.KindLemmas.{operand_kind}
use Rattle.gl_totals.specs.Totals.{extreme_of}
use Rattle.gl_frames.specs.Frames.{last_ones}
use Rattle.gl_frames.proofs.SumLemmas.{last_map}
use Rattle.gl_net.proofs.Determined.{keeps_then}
use Rattle.gl_wire.specs.Costs.{Cost}
use Rattle.gl_frames_stages.specs.Columns.{carried_by}
use Rattle.gl_frames_stages.specs.FilteredNets.{if_passes, pack}
use Rattle.gl_frames_stages.specs.Framing.{value_in}
use Rattle.gl_frames_stages.specs.Laws.{best_in}
use Rattle.gl_frames_stages.specs.LevelNets.{better_in}
use Rattle.gl_frames_stages.proofs.PackLemmas.{filtered_best, same_passed}
use Rattle.gl_frames_slots.specs.BestNets.{cost_of_slot_doublings}
use Rattle.gl_frames_slots.specs.Items.{rows_in}
use Rattle.gl_frames_slots.specs.Rows.{slot_here}
use Rattle.gl_frames_slots.proofs.ItemsNet.{input_kept, made_rows}
use Rattle.gl_frames_slots.proofs.extreme.put_slot_filtered_item.Goals as goal

pub put_slot_best-requires-clause-rows : goal.put_slot_best-requires-clause-rows
put_slot_best-requires-clause-rows c = (input_kept _ _ c.args.input c.in_ok-packed.ensures.keeps c.requires.input).rows

pub put_slot_best-requires-clause-width : goal.put_slot_best-requires-clause-width
put_slot_best-requires-clause-width c = c.in_ok-packed.ensures.width ∙ ap (λ (k : Kind). width_of k + 1) (sym c.kind_of_operand-kind.ensures)

pub put_slot_best-requires-clause-some : goal.put_slot_best-requires-clause-some
put_slot_best-requires-clause-some c =
    subst (λ (k : Kind). 1 ≤ width_of k) (sym c.kind_of_operand-kind.ensures) (kind_some _ (operand_kind c.args.input.source.kinds.now c.args.ranking.operand c.requires.kinds c.requires.fits))

pub low_bits-requires-clause-width : goal.low_bits-requires-clause-width
low_bits-requires-clause-width c =
    let kind = operand_kind c.args.input.source.kinds.now c.args.ranking.operand c.requires.kinds c.requires.fits in
    let some = kind_some _ kind in
    let most = kind.1 in
    let is = c.in_ok-packed.ensures.width in
    record { some' = omega (arith, some, is); most = omega (arith, most, is) }

pub returns : goal.returns
returns c =
    let input = c.args.input in
    let slot = input.rows.slot.width in
    let extreme = c.args.ranking.extreme in
    let back = c.args.back in
    let p = counts_in (Some c.args.column) in
    let kind = kind_of_operand input.source.kinds.now c.args.ranking.operand in
    let w : ℕ = width_of kind in
    let k = c.kind_of_operand-kind.result in
    let is = c.kind_of_operand-kind.ensures in
    let packed = c.in_ok-packed.ensures in
    let best = c.in_ok-best.ensures in
    let out = c.in_ok-out.ensures in
    let x = c.in_ok-packed.packed in
    let b = c.in_ok-best.best in
    let bits : x.width - 1 ≡ w = (let whole = packed.width in omega (arith, whole)) in
    let levels = ap (cost_of_slot_doublings slot 12 back 1 (back + 1)) packed.width in
    record {
      keeps = keeps_then _ c.put_slot_packed_by.new.net _ packed.keeps (keeps_then _ c.put_slot_best.new.net _ best.keeps out.keeps);
      cost = record {
        nodes = omega (arith, packed.cost.nodes, best.cost.nodes, out.cost.nodes, ap (λ (e : Cost). e.nodes) levels);
        registers = omega (arith, packed.cost.registers, best.cost.registers, out.cost.registers, ap (λ (e : Cost). e.registers) levels, packed.width);
        memories = omega (arith, packed.cost.memories, best.cost.memories, out.cost.memories, ap (λ (e : Cost). e.memories) levels);
      };
      bus = out.bus;
      same_width = out.same_width ∙ bits;
      tells = λ run r ends told counts d q.
          let v = value_in run.held c.args.ranking.operand in
          let at_best = out.keeps.runs run r in
          let at_packed = best.keeps.runs run at_best in
          let row : ℕ → Row = rows_in run input in
          let rows : List Row = slot_here run input.rows ends row (suc d) in
          let zs : List Row = last_ones (suc back) rows in
          let rest : Row → ℕ = (λ z. v z % 2 ^ w) in
          let all : map rest rows ≡ map v rows =
          sym (made_rows run input.rows ends rest row (λ t. v (row t)) (packed.values run at_packed) (suc d)) ∙ made_rows run input.rows ends v row (λ t. v (row t)) (λ t. refl) (suc d) in
          let some : map rest zs ≡ map v zs = sym (last_map (suc back) rest rows) ∙ ap (last_ones (suc back)) all ∙ last_map (suc back) v rows in
          out.carries run r (suc d + delay_of_extreme (Some back))
          ∙ ap (λ n. run.at (suc d + delay_of_extreme (Some back)) b.node % 2 ^ n) bits
          ∙ ap (λ n. n % 2 ^ w) (best.tells run at_best ends told counts d q)
          ∙ ap (λ (o : Kind). best_in (better_in (record { extreme = extreme; kind = o; packed = true })) (suc back) (slot_here run input.rows ends (carried_by run x) (suc d)) % 2 ^ w) is
          ∙ ap (λ l. best_in (better_in (record { extreme = extreme; kind = kind; packed = true })) (suc back) l % 2 ^ w)
          (made_rows run input.rows ends (λ z. pack w (if_passes w p v z)) row (carried_by run x) (packed.packs run at_packed) (suc d))
          ∙ filtered_best extreme kind p v (suc back) rows
          ∙ ap (extreme_of extreme kind) (same_passed p rest v zs some);
    }
