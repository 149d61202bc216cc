use Rattle.std.proofs.Common.{suc, arith, ◌∙◌}
use Rattle.gl_net.proofs.Determined.{keeps_then}
use Rattle.gl_frames_stages.specs.Columns.{carried_by}
use Rattle.gl_frames_stages.specs.Framing.{value_in}
use Rattle.gl_frames_slots.specs.Items.{rows_in}
use Rattle.gl_frames_slots.proofs.ItemsNet.{own_told}
use Rattle.gl_frames_slots.proofs.items.put_slot_own.Goals as goal

pub put_operand-requires-clause-source : goal.put_operand-requires-clause-source
put_operand-requires-clause-source c = c.requires.input.source

pub returns : goal.returns
returns c =
    let input = c.args.input in
    let value = c.in_ok-value.ensures in
    let out = c.in_ok-out.ensures in
    record {
      keeps = keeps_then _ c.put_operand.new.net _ value.keeps out.keeps;
      cost = record {
        nodes = omega (arith, value.cost.nodes, out.cost.nodes);
        registers = omega (arith, value.cost.registers, out.cost.registers, value.same_width);
        memories = omega (arith, value.cost.memories, out.cost.memories);
      };
      bus = out.bus;
      same_width = out.same_width ∙ value.same_width;
      tells = λ run r ends told counts.
          own_told run input.rows ends (value_in run.held c.args.operand) (rows_in run input) (carried_by run c.in_ok-out.out)
          (λ t. out.value run r t ∙ value.carries run (out.keeps.runs run r) (suc t));
    }
