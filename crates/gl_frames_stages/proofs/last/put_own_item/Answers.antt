use Rattle.std.proofs.Common.{suc, arith, ◌∙◌}
use Rattle.gl_frames.specs.Frames.{last_value_of}
use Rattle.gl_net.proofs.Determined.{keeps_then}
use Rattle.gl_frames_stages.specs.Columns.{carried_by}
use Rattle.gl_frames_stages.specs.Framing.{every, value_in}
use Rattle.gl_frames_stages.specs.Inputs.{rows_by}
use Rattle.gl_frames_stages.proofs.LastNet.{own_value}
use Rattle.gl_frames_stages.proofs.MeetLemmas.{tells_next}
use Rattle.gl_frames_stages.proofs.last.put_own_item.Goals as goal

pub put_operand-requires-clause-source : goal.put_operand-requires-clause-source
put_operand-requires-clause-source c = c.requires.input.source

pub returns : goal.returns
returns c = λ back.
    let input = c.args.input in
    let x = c.in_ok-value.value in
    let value = c.in_ok-value.ensures in
    let out = c.in_ok-out.ensures in
    record {
      keeps = keeps_then _ c.put_operand.new.net _ value.keeps out.keeps;
      cost = record {
        nodes = omega (arith, value.cost.nodes, out.cost.nodes);
        registers = omega (arith, value.cost.registers, out.cost.registers, value.same_width);
        memories = omega (arith, value.cost.memories, out.cost.memories);
      };
      bus = out.bus;
      same_width = out.same_width ∙ value.same_width;
      tells = λ run r.
          tells_next run input.lines 0 (last_value_of (value_in run.held c.args.operand) back every) (rows_by run input) (carried_by run x) (carried_by run c.in_ok-out.out) (out.value run r)
          (own_value run input.lines (value_in run.held c.args.operand) back (rows_by run input) (carried_by run x) (λ t. value.carries run (out.keeps.runs run r) (suc t)));
    }
