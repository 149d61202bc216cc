use Rattle.std.proofs.Common.{◌≡◌, suc, ◌+◌, ap, arith, sym, ◌∙◌}
use Rattle.gl_frames.specs.Frames.{number_or, own_of}
use Rattle.gl_net.proofs.Determined.{keeps_then}
use Rattle.gl_frames_stages.specs.Columns.{carried_by}
use Rattle.gl_frames_stages.specs.Framing.{value_in}
use Rattle.gl_frames_stages.specs.Inputs.{rows_by}
use Rattle.gl_frames_stages.proofs.MeetLemmas.{tells_next}
use Rattle.gl_frames_stages.proofs.SlideNet.{last_row}
use Rattle.gl_frames_stages.proofs.over.put_own.Goals as goal

pub put_operand-requires-clause-source : goal.put_operand-requires-clause-source
put_operand-requires-clause-source c = c.requires.input.source

pub returns : goal.returns
returns c =
    let input = c.args.input in
    let value = c.in_ok-value.ensures in
    let out = c.in_ok-out.ensures in
    record {
      keeps = keeps_then _ c.put_operand.new.net _ value.keeps out.keeps;
      cost = record {
        nodes = omega (arith, value.cost.nodes, out.cost.nodes);
        registers = omega (arith, value.cost.registers, out.cost.registers, value.same_width);
        memories = omega (arith, value.cost.memories, out.cost.memories);
      };
      bus = out.bus;
      same_width = out.same_width ∙ value.same_width;
      tells = λ run r.
          let v = value_in run.held c.args.operand in
          tells_next run input.lines 0 (own_of v) (rows_by run input) (carried_by run c.in_ok-value.value) (carried_by run c.in_ok-out.out) (out.value run r)
          (λ d u.
          let e : suc d + 0 ≡ suc d = omega arith in
          ap (carried_by run c.in_ok-value.value) e ∙ value.carries run (out.keeps.runs run r) (suc d)
          ∙ sym (ap (number_or v) (last_row run input.lines (rows_by run input) d u)));
    }
