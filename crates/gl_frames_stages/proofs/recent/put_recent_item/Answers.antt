use Rattle.std.proofs.Common.{suc, Some, ap, arith, ◌∙◌}
use Rattle.std.specs.Prelude.{slice_index}
use Rattle.gl_algebra.specs.Results.{counts_in}
use Rattle.gl_values.specs.Kinds.{width_of}
use Rattle.gl_net.proofs.Determined.{keeps_then}
use Rattle.gl_wire.specs.Wire.{row_at}
use Rattle.gl_wire.proofs.ColumnLemmas.{bit_kept}
use Rattle.gl_wire.proofs.GateLemmas.{bit_of}
use Rattle.gl_frames_stages.specs.Framing.{value_in}
use Rattle.gl_frames_stages.specs.Inputs.{rows_by}
use Rattle.gl_frames_stages.proofs.InputNet.{bit_at, column_kind, column_there, input_kept}
use Rattle.gl_frames_stages.proofs.recent.put_recent_item.Goals as goal

pub put_operand-requires-clause-source : goal.put_operand-requires-clause-source
put_operand-requires-clause-source c = c.requires.input.source

pub put_operand-requires-clause-fits : goal.put_operand-requires-clause-fits
put_operand-requires-clause-fits c = column_there c.args.input.source.kinds.now c.args.column c.requires.filter

pub put_operand-requires-2-clause-source : goal.put_operand-requires-2-clause-source
put_operand-requires-2-clause-source c = (input_kept _ _ c.args.input c.in_ok-passes.ensures.keeps c.requires.input).source

pub bit-requires : goal.bit-requires
bit-requires c = c.in_ok-passes.ensures.same_width ∙ ap width_of (column_kind c.args.input.source.kinds.now c.args.column c.requires.filter)

pub put_recent-requires-clause-valid : goal.put_recent-requires-clause-valid
put_recent-requires-clause-valid c =
    (input_kept _ _ c.args.input (keeps_then _ c.put_operand.new.net _ c.in_ok-passes.ensures.keeps c.in_ok-value.ensures.keeps) c.requires.input).valid

pub put_recent-requires-clause-eos : goal.put_recent-requires-clause-eos
put_recent-requires-clause-eos c =
    (input_kept _ _ c.args.input (keeps_then _ c.put_operand.new.net _ c.in_ok-passes.ensures.keeps c.in_ok-value.ensures.keeps) c.requires.input).eos

pub put_recent-requires-clause-passes : goal.put_recent-requires-clause-passes
put_recent-requires-clause-passes c =
    let passes = c.in_ok-passes.ensures in
    bit_kept _ _ c.bit.result c.in_ok-value.ensures.keeps
    (bit_of c.put_operand.new.net c.in_ok-passes.passes c.bit.result passes.bus (passes.same_width ∙ ap width_of (column_kind c.args.input.source.kinds.now c.args.column c.requires.filter)) c.bit.ensures)

pub returns : goal.returns
returns c =
    let input = c.args.input in
    let p = counts_in (Some c.args.column) in
    let passes = c.in_ok-passes.ensures in
    let value = c.in_ok-value.ensures in
    let out = c.in_ok-out.ensures in
    record {
      keeps = keeps_then _ c.put_operand.new.net _ passes.keeps (keeps_then _ c.put_operand-2.new.net _ value.keeps out.keeps);
      cost = record {
        nodes = omega (arith, passes.cost.nodes, value.cost.nodes, out.cost.nodes);
        registers = omega (arith, passes.cost.registers, value.cost.registers, out.cost.registers, value.same_width);
        memories = omega (arith, passes.cost.memories, value.cost.memories, out.cost.memories);
      };
      bus = out.bus;
      same_width = out.same_width ∙ value.same_width;
      tells = λ run r.
          let v = value_in run.held c.args.operand in
          let at_value = out.keeps.runs run r in
          let at_passes = value.keeps.runs run at_value in
          out.tells run r p v (rows_by run input)
          (λ t.
          bit_at run c.bit.result t (slice_index (row_at run (suc t) input.source.columns.now) c.args.column)
          (ap (run.at (suc t)) c.bit.ensures ∙ passes.carries run at_passes (suc t)))
          (λ t. value.carries run at_value (suc t));
    }
