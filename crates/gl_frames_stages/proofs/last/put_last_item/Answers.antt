use Rattle.std.proofs.Common.{suc, Bool, None, Some, ap, arith, ◌∙◌}
use Rattle.std.specs.Prelude.{◌&&◌, slice_index}
use Rattle.gl_algebra.specs.Results.{counts_in}
use Rattle.gl_values.specs.Kinds.{width_of}
use Rattle.gl_frames.specs.Frames.{last_value_of}
use Rattle.gl_net.proofs.Determined.{keeps_then}
use Rattle.gl_wire.specs.Wire.{line_at, row_at}
use Rattle.gl_wire.proofs.ColumnLemmas.{bit_kept, bus_kept}
use Rattle.gl_wire.proofs.GateLemmas.{bit_of}
use Rattle.gl_frames_stages.specs.Columns.{carried_by}
use Rattle.gl_frames_stages.specs.Framing.{value_in}
use Rattle.gl_frames_stages.specs.Inputs.{rows_by}
use Rattle.gl_frames_stages.proofs.InputNet.{bit_at, column_kind, column_there, input_kept}
use Rattle.gl_frames_stages.proofs.LastNet.{last_told}
use Rattle.gl_frames_stages.proofs.MeetLemmas.{tells_next}
use Rattle.gl_frames_stages.proofs.last.put_last_item.Goals as goal

pub put_operand-requires-clause-source : goal.put_operand-requires-clause-source
put_operand-requires-clause-source c = c.requires.input.source

pub put_operand-requires-clause-fits : goal.put_operand-requires-clause-fits
put_operand-requires-clause-fits c = column_there c.args.input.source.kinds.now c.args.column c.requires.filter

pub put_operand-requires-2-clause-source : goal.put_operand-requires-2-clause-source
put_operand-requires-2-clause-source c = (input_kept _ _ c.args.input c.in_ok-passes.ensures.keeps c.requires.input).source

pub bit-requires : goal.bit-requires
bit-requires c = c.in_ok-passes.ensures.same_width ∙ ap width_of (column_kind c.args.input.source.kinds.now c.args.column c.requires.filter)

pub both-requires-clause-left : goal.both-requires-clause-left
both-requires-clause-left c =
    (input_kept _ _ c.args.input (keeps_then _ c.put_operand.new.net _ c.in_ok-passes.ensures.keeps c.in_ok-value.ensures.keeps) c.requires.input).valid

pub both-requires-clause-right : goal.both-requires-clause-right
both-requires-clause-right c =
    let passes = c.in_ok-passes.ensures in
    bit_kept _ _ c.bit.result c.in_ok-value.ensures.keeps
    (bit_of c.put_operand.new.net c.in_ok-passes.passes c.bit.result passes.bus (passes.same_width ∙ ap width_of (column_kind c.args.input.source.kinds.now c.args.column c.requires.filter)) c.bit.ensures)

pub put_last-requires-clause-eos : goal.put_last-requires-clause-eos
put_last-requires-clause-eos c =
    (input_kept _ _ c.args.input (keeps_then _ c.put_operand.new.net _ c.in_ok-passes.ensures.keeps (keeps_then _ c.put_operand-2.new.net _ c.in_ok-value.ensures.keeps c.in_ok-takes.ensures.keeps)) c.requires.input).eos

pub put_last-requires-clause-value : goal.put_last-requires-clause-value
put_last-requires-clause-value c = bus_kept _ _ c.in_ok-value.value c.in_ok-takes.ensures.keeps c.in_ok-value.ensures.bus

pub returns : goal.returns
returns c =
    let input = c.args.input in
    let p = counts_in (Some c.args.column) in
    let x = c.in_ok-value.value in
    let passes = c.in_ok-passes.ensures in
    let value = c.in_ok-value.ensures in
    let takes = c.in_ok-takes.ensures in
    let last = c.in_ok-last.ensures in
    let out = c.in_ok-out.ensures in
    let f = c.in_ok-last.last in
    record {
      keeps = keeps_then _ c.put_operand.new.net _ passes.keeps (keeps_then _ c.put_operand-2.new.net _ value.keeps (keeps_then _ c.both.new.net _ takes.keeps (keeps_then _ c.put_last.new.net _ last.keeps out.keeps)));
      cost = record {
        nodes = omega (arith, passes.cost.nodes, value.cost.nodes, takes.cost.nodes, last.cost.nodes, out.cost.nodes);
        registers = omega (arith, passes.cost.registers, value.cost.registers, takes.cost.registers, last.cost.registers, out.cost.registers, value.same_width, last.now_width);
        memories = omega (arith, passes.cost.memories, value.cost.memories, takes.cost.memories, last.cost.memories, out.cost.memories);
      };
      bus = out.bus;
      same_width = out.same_width ∙ last.now_width ∙ value.same_width;
      tells = λ run r.
          let v = value_in run.held c.args.operand in
          let at_last = out.keeps.runs run r in
          let at_takes = last.keeps.runs run at_last in
          let at_value = takes.keeps.runs run at_takes in
          let at_passes = value.keeps.runs run at_value in
          tells_next run input.lines 0 (last_value_of v None p) (rows_by run input) (carried_by run f.now) (carried_by run c.in_ok-out.out) (out.value run r)
          (last_told run input.lines c.in_ok-takes.takes v p (rows_by run input) (carried_by run x) (carried_by run f.before) (carried_by run f.now)
          (last.anew run at_last) (last.taken run at_last)
          (λ t.
          takes.line run at_takes (suc t)
          ∙ ap (λ (b : Bool). line_at run input.lines.valid (suc t) && b)
          (bit_at run c.bit.result t (slice_index (row_at run (suc t) input.source.columns.now) c.args.column)
          (ap (run.at (suc t)) c.bit.ensures ∙ passes.carries run at_passes (suc t))))
          (λ t. value.carries run at_value (suc t)));
    }
