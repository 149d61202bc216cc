use Rattle.std.proofs.Common.{arith, ◌∙◌, sym}
use Rattle.gl_net.proofs.Determined.{keeps_then}
use Rattle.gl_wire.proofs.ColumnLemmas.{bit_kept, bus_kept}
use Rattle.gl_frames_stages.specs.Columns.{carried_by}
use Rattle.gl_frames_slots.proofs.BestNet.{level_told}
use Rattle.gl_frames_slots.proofs.doubling.put_slot_level.Goals as goal

pub later-requires : goal.later-requires
later-requires c = bus_kept _ _ c.args.value c.in_ok-found.ensures.keeps c.requires.value

pub put_stays-requires-clause-some : goal.put_stays-requires-clause-some
put_stays-requires-clause-some c = bit_kept _ _ c.in_ok-found.found.some c.in_ok-own.ensures.keeps c.in_ok-found.ensures.bit

pub put_stays-requires-clause-word : goal.put_stays-requires-clause-word
put_stays-requires-clause-word c = bus_kept _ _ c.in_ok-found.found.word c.in_ok-own.ensures.keeps c.in_ok-found.ensures.bus

pub put_stays-requires-clause-own_width : goal.put_stays-requires-clause-own_width
put_stays-requires-clause-own_width c = c.in_ok-own.ensures.same_width ∙ c.requires.width

pub put_stays-requires-clause-word_width : goal.put_stays-requires-clause-word_width
put_stays-requires-clause-word_width c = c.in_ok-found.ensures.same_width ∙ c.requires.width

pub put_kept-requires-clause-word : goal.put_kept-requires-clause-word
put_kept-requires-clause-word c =
    bus_kept _ _ c.in_ok-found.found.word (keeps_then _ c.later.new.net _ c.in_ok-own.ensures.keeps c.in_ok-stays.ensures.keeps) c.in_ok-found.ensures.bus

pub put_kept-requires-clause-own : goal.put_kept-requires-clause-own
put_kept-requires-clause-own c = bus_kept _ _ c.in_ok-own.own c.in_ok-stays.ensures.keeps c.in_ok-own.ensures.bus

pub put_kept-requires-clause-widths : goal.put_kept-requires-clause-widths
put_kept-requires-clause-widths c = c.in_ok-found.ensures.same_width ∙ sym c.in_ok-own.ensures.same_width

pub returns : goal.returns
returns c =
    let value = c.args.value in
    let found = c.in_ok-found.ensures in
    let own = c.in_ok-own.ensures in
    let stays = c.in_ok-stays.ensures in
    let out = c.in_ok-out.ensures in
    record {
      keeps = keeps_then _ c.put_slot_lagged.new.net _ found.keeps (keeps_then _ c.later.new.net _ own.keeps (keeps_then _ c.put_stays.new.net _ stays.keeps out.keeps));
      cost = record {
        nodes = omega (arith, found.cost.nodes, own.cost.nodes, stays.cost.nodes, out.cost.nodes);
        registers = omega (arith, found.cost.registers, own.cost.registers, stays.cost.registers, out.cost.registers, found.same_width, own.same_width);
        memories = omega (arith, found.cost.memories, own.cost.memories, stays.cost.memories, out.cost.memories);
      };
      bus = out.bus;
      same_width = out.same_width ∙ found.same_width;
      tells = λ run r ends told counts.
          let at_stays = out.keeps.runs run r in
          let at_own = stays.keeps.runs run at_stays in
          let at_found = own.keeps.runs run at_own in
          level_told run c.args.counted.rows ends c.args.order c.args.reach.back (carried_by run value) (carried_by run c.in_ok-own.own) (carried_by run c.in_ok-out.out)
          c.in_ok-found.found c.in_ok-stays.stays (found.tells run at_found ends told counts) (own.value run at_own) (stays.line run at_stays) (out.chosen run r);
    }
