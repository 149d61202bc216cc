use Rattle.std.proofs.Common.{arith, ◌∙◌}
use Rattle.gl_values.specs.Totals.{sum_total}
use Rattle.gl_net.proofs.Determined.{keeps_then}
use Rattle.gl_frames_stages.specs.Columns.{carried_by}
use Rattle.gl_frames_stages.proofs.MeetLemmas.{tells_next}
use Rattle.gl_frames_stages.proofs.TotalNet.{total_here}
use Rattle.gl_frames_stages.proofs.sum.put_summed.Goals as goal

pub returns : goal.returns
returns c =
    let value = c.args.value in
    let lines = c.args.lines in
    let sum = c.in_ok-sum.ensures in
    let out = c.in_ok-out.ensures in
    let s = c.in_ok-sum.sum in
    let o = c.in_ok-out.out in
    record {
      keeps = keeps_then _ c.put_sum.new.net _ sum.keeps out.keeps;
      cost = record {
        nodes = omega (arith, sum.cost.nodes, out.cost.nodes);
        registers = omega (arith, sum.cost.registers, out.cost.registers, sum.same_width);
        memories = omega (arith, sum.cost.memories, out.cost.memories);
      };
      bus = out.bus;
      same_width = out.same_width ∙ sum.same_width;
      tells = λ run r.
          tells_next run lines 0 (sum_total value.width) (carried_by run value) (carried_by run s) (carried_by run o) (out.value run r)
          (λ d v. total_here run lines value s 0 (sum_total value.width) (sum.carries run (out.keeps.runs run r)) d);
    }
