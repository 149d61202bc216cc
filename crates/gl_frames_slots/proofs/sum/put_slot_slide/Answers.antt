use Rattle.std.proofs.Common.{arith, ◌∙◌}
use Rattle.gl_net.proofs.Determined.{keeps_then}
use Rattle.gl_frames.specs.Frames.{row_before}
use Rattle.gl_wire.proofs.ColumnLemmas.{bus_kept}
use Rattle.gl_frames_stages.specs.Columns.{carried_by}
use Rattle.gl_frames_slots.proofs.ItemsNet.{told_or_none}
use Rattle.gl_frames_slots.proofs.sum.put_slot_slide.Goals as goal

pub returns : goal.returns
returns c =
    let value = c.args.value in
    let lagged = c.in_ok-lagged.ensures in
    let gone = c.in_ok-gone.ensures in
    let own = c.in_ok-own.ensures in
    record {
      keeps = keeps_then _ c.put_slot_lagged.new.net _ lagged.keeps (keeps_then _ c.put_or_none.new.net _ gone.keeps own.keeps);
      cost = record {
        nodes = omega (arith, lagged.cost.nodes, gone.cost.nodes, own.cost.nodes);
        registers = omega (arith, lagged.cost.registers, gone.cost.registers, own.cost.registers);
        memories = omega (arith, lagged.cost.memories, gone.cost.memories, own.cost.memories);
      };
      own_bus = own.bus;
      own_width = own.same_width;
      owns = λ run r. own.value run r;
      gone_bus = bus_kept _ _ c.in_ok-gone.gone own.keeps gone.bus;
      gone_width = gone.same_width ∙ lagged.same_width;
      leaves = λ run r ends told counts.
          let at_gone = own.keeps.runs run r in
          told_or_none run c.args.rows ends (row_before c.args.reach.back) (carried_by run value) c.in_ok-lagged.lagged c.in_ok-gone.gone
          (lagged.tells run (gone.keeps.runs run at_gone) ends told counts) (gone.chosen run at_gone);
    }
