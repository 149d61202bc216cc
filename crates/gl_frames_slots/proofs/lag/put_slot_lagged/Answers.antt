use Rattle.std.proofs.Common.{arith, ◌∙◌}
use Rattle.gl_frames.specs.Frames.{row_before}
use Rattle.gl_net.proofs.Determined.{keeps_then}
use Rattle.gl_wire.proofs.ColumnLemmas.{bit_kept, bus_kept}
use Rattle.gl_frames_stages.specs.Columns.{carried_by}
use Rattle.gl_frames_slots.proofs.LagNet.{maybe_late}
use Rattle.gl_frames_slots.proofs.lag.put_slot_lagged.Goals as goal

pub later-requires : goal.later-requires
later-requires c = bus_kept _ _ c.in_ok-found.found.word c.in_ok-some.ensures.keeps c.in_ok-found.ensures.bus

pub returns : goal.returns
returns c = rw c.note_bus.ensures (
    let found = c.in_ok-found.ensures in
    let some = c.in_ok-some.ensures in
    let word = c.in_ok-word.ensures in
    record {
      keeps = keeps_then _ c.put_slot_found.new.net _ found.keeps (keeps_then _ c.later_bit.new.net _ some.keeps word.keeps);
      cost = record {
        nodes = omega (arith, found.cost.nodes, some.cost.nodes, word.cost.nodes);
        registers = omega (arith, found.cost.registers, some.cost.registers, word.cost.registers, found.same_width);
        memories = omega (arith, found.cost.memories, some.cost.memories, word.cost.memories);
      };
      bit = bit_kept _ _ c.in_ok-some.some word.keeps some.bit;
      bus = word.bus;
      same_width = word.same_width ∙ found.same_width;
      tells = λ run r ends told counts.
          let at_some = word.keeps.runs run r in
          maybe_late run c.args.rows ends (row_before c.args.reach.back) (carried_by run c.args.value) c.in_ok-found.found (record { some = c.in_ok-some.some; word = c.in_ok-word.word })
          (found.finds run (some.keeps.runs run at_some) ends told counts) (some.line run at_some) (word.value run r);
    })
