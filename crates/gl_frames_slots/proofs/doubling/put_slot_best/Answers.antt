use Rattle.std.proofs.Common.{◌≡◌, ℕ, suc, ◌+◌, ◌*◌, arith, ap, subst, ◌∙◌}
use Rattle.gl_net.proofs.Determined.{keeps_then}
use Rattle.gl_frames_stages.specs.Columns.{carried_by}
use Rattle.gl_frames_stages.specs.DoublingNets.{doublings}
use Rattle.gl_frames_stages.specs.Laws.{best_in}
use Rattle.gl_frames_stages.specs.LevelNets.{better_in}
use Rattle.gl_frames_stages.proofs.CycleLemmas.{doublings_bits}
use Rattle.gl_frames_slots.specs.Rows.{TellsBySlot, slot_here}
use Rattle.gl_frames_slots.proofs.BestNet.{best_alone}
use Rattle.gl_frames_slots.proofs.MeetLemmas.{tells_next}
use Rattle.gl_frames_slots.proofs.doubling.put_slot_best.Goals as goal

pub put_slot_doubled-requires-clause-windows : goal.put_slot_doubled-requires-clause-windows
put_slot_doubled-requires-clause-windows c =
    let most = c.requires.back in
    record { some' = omega arith; inside = omega arith; few = omega arith; most = omega (arith, most) }

pub returns : goal.returns
returns c =
    let best = c.in_ok-best.ensures in
    let out = c.in_ok-out.ensures in
    let back = c.args.back in
    let rows = c.args.counted.rows in
    let order = c.args.order in
    let value = c.args.value in
    let n : ℕ = 2 * doublings back 1 (back + 1) in
    record {
      keeps = keeps_then _ c.put_slot_doubled.new.net _ best.keeps out.keeps;
      cost = record {
        nodes = omega (arith, best.cost.nodes, out.cost.nodes);
        registers = omega (arith, best.cost.registers, out.cost.registers, best.same_width);
        memories = omega (arith, best.cost.memories, out.cost.memories);
      };
      bus = out.bus;
      same_width = out.same_width ∙ best.same_width;
      tells = λ run r ends told counts.
          subst (λ m. TellsBySlot run rows ends (2 * m + 1) (best_in (better_in order) (suc back)) (carried_by run value) (carried_by run c.in_ok-out.out)) (doublings_bits back)
          (tells_next run rows ends n (best_in (better_in order) (suc back)) (carried_by run value) (carried_by run c.in_ok-best.best) (carried_by run c.in_ok-out.out)
          (out.value run r)
          (λ d v.
          let one : back + 1 ≡ suc back = omega arith in
          best.tells run (out.keeps.runs run r) ends told counts (carried_by run value) (best_alone (better_in order) run rows ends (carried_by run value)) d v
          ∙ ap (λ k. best_in (better_in order) k (slot_here run rows ends (carried_by run value) (suc d))) one));
    }
