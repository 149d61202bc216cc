use Rattle.std.proofs.Common.{◌≡◌, ℕ, suc, ◌*◌, ◌%◌, ◌^◌, ◌<◌, ap, arith, ◌∙◌, sym, subst}
use Rattle.std.proofs.Math.Nat.{zero-mod}
use Rattle.gl_bits.specs.Words.{difference_of}
use Rattle.gl_net.proofs.Determined.{keeps_then}
use Rattle.gl_net.proofs.Values.{bus_fits}
use Rattle.gl_wire.proofs.ColumnLemmas.{bus_kept}
use Rattle.gl_frames_stages.specs.Columns.{carried_by}
use Rattle.gl_frames_stages.proofs.SlideNet.{rests_change}
use Rattle.gl_frames_stages.proofs.SumStage.{rest_below}
use Rattle.gl_frames_slots.specs.Stages.{ends_late}
use Rattle.gl_frames_slots.proofs.ItemsNet.{rows_kept}
use Rattle.gl_frames_slots.proofs.MeetLemmas.{rows_told}
use Rattle.gl_frames_slots.proofs.SumNet.{changed_sum, rests_sum}
use Rattle.gl_frames_slots.proofs.sum.put_slot_sum.Goals as goal

pub put_change-requires-clause-widths : goal.put_change-requires-clause-widths
put_change-requires-clause-widths c = c.in_ok-slide.ensures.own_width ∙ sym c.in_ok-slide.ensures.gone_width

pub put_rows_later-requires : goal.put_rows_later-requires
put_rows_later-requires c =
    record { rows = rows_kept _ _ c.args.rows (keeps_then _ c.put_slot_slide.new.net _ c.in_ok-slide.ensures.keeps c.in_ok-change.ensures.keeps) c.requires.rows }

pub put_slot_summed-requires-clause-value : goal.put_slot_summed-requires-clause-value
put_slot_summed-requires-clause-value c = bus_kept _ _ c.in_ok-change.change c.in_ok-late.ensures.keeps c.in_ok-change.ensures.bus

pub returns : goal.returns
returns c =
    let value = c.args.value in
    let rows = c.args.rows in
    let reach = c.args.reach in
    let slide = c.in_ok-slide.ensures in
    let change = c.in_ok-change.ensures in
    let late = c.in_ok-late.ensures in
    let sum = c.in_ok-sum.ensures in
    let s = c.in_ok-slide.slide in
    let x = c.in_ok-change.change in
    let w = value.width in
    let width : x.width ≡ w = change.same_width ∙ slide.own_width in
    let words : 2 ^ c.in_ok-late.late.slot.width * x.width ≡ 2 ^ rows.slot.width * w = ap (λ n. 2 ^ n * x.width) late.same_width ∙ ap (λ n. 2 ^ rows.slot.width * n) width in
    record {
      keeps = keeps_then _ c.put_slot_slide.new.net _ slide.keeps (keeps_then _ c.put_change.new.net _ change.keeps (keeps_then _ c.put_rows_later.new.net _ late.keeps sum.keeps));
      cost = record {
        nodes = omega (arith, slide.cost.nodes, change.cost.nodes, late.cost.nodes, sum.cost.nodes);
        registers = omega (arith, slide.cost.registers, change.cost.registers, late.cost.registers, sum.cost.registers, width, slide.own_width);
        memories = omega (arith, slide.cost.memories, change.cost.memories, late.cost.memories, sum.cost.memories, words);
      };
      bus = sum.bus;
      same_width = sum.same_width ∙ width;
      tells = λ run r ends told counts.
          let at_late = sum.keeps.runs run r in
          let at_change = late.keeps.runs run at_late in
          let at_slide = change.keeps.runs run at_change in
          let mid = c.put_slot_slide.new.net in
          let behind = late.behind run at_late in
          rests_sum run rows ends 3 w reach.back (carried_by run value) (carried_by run c.in_ok-sum.sum)
          (changed_sum run rows c.in_ok-late.late ends w x.width reach.back (λ n. n % 2 ^ w) (zero-mod (2 ^ w)) (rest_below w)
          (carried_by run value) (carried_by run s.own) (carried_by run s.gone) (carried_by run x) (carried_by run c.in_ok-sum.sum) width
          (slide.owns run at_slide) (slide.leaves run at_slide ends told counts)
          (rests_change w run s.own s.gone x
          (subst (λ (k : ℕ). (t : ℕ) → run.at t s.own.node < 2 ^ k) slide.own_width (bus_fits mid s.own run slide.own_bus at_slide))
          (subst (λ (k : ℕ). (t : ℕ) → run.at t s.gone.node < 2 ^ k) slide.gone_width (bus_fits mid s.gone run slide.gone_bus at_slide))
          (subst (λ (k : ℕ). (t : ℕ) → run.at (suc (suc t)) x.node ≡ difference_of k (run.at (suc t) s.own.node) (run.at (suc t) s.gone.node)) slide.own_width (change.changes run at_change)))
          behind (sum.tells run r (ends_late 2 ends) (rows_told run 2 rows c.in_ok-late.late ends behind told)));
    }
