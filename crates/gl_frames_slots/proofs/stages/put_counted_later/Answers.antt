use Rattle.std.proofs.Common.{arith}
use Rattle.gl_net.proofs.Determined.{keeps_then}
use Rattle.gl_wire.proofs.ColumnLemmas.{bus_kept}
use Rattle.gl_frames_slots.proofs.ItemsNet.{rows_kept}
use Rattle.gl_frames_slots.proofs.MeetLemmas.{counts_late}
use Rattle.gl_frames_slots.proofs.stages.put_counted_later.Goals as goal

pub delay_bus-requires : goal.delay_bus-requires
delay_bus-requires c = bus_kept _ _ c.args.counted.count c.in_ok-rows.ensures.keeps c.requires.count

pub returns : goal.returns
returns c =
    let counted = c.args.counted in
    let rows = c.in_ok-rows.ensures in
    let count = c.in_ok-count.ensures in
    record {
      keeps = keeps_then _ c.put_rows_later.new.net _ rows.keeps count.keeps;
      cost = record {
        nodes = omega (arith, rows.cost.nodes, count.cost.nodes);
        registers = omega (arith, rows.cost.registers, count.cost.registers);
        memories = omega (arith, rows.cost.memories, count.cost.memories);
      };
      has = rows_kept _ _ c.in_ok-rows.rows count.keeps rows.has;
      same_slots = rows.same_width;
      count = count.bus;
      same_count = count.same_width;
      behind = λ run r. rows.behind run (count.keeps.runs run r);
      counts = λ run r ends.
          counts_late run 2 counted.rows c.in_ok-rows.rows ends counted.count c.in_ok-count.count (rows.behind run (count.keeps.runs run r)) count.same_width (count.value run r);
    }
