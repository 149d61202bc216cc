use Rattle.std.proofs.Common.{Bool, suc, ap, arith, refl, ◌∙◌}
use Rattle.std.specs.Prelude.{◌&&◌, slice_index}
use Rattle.gl_values.specs.Kinds.{width_of}
use Rattle.gl_net.proofs.Determined.{keeps_then}
use Rattle.gl_wire.specs.Wire.{line_at, row_at}
use Rattle.gl_wire.proofs.ColumnLemmas.{bit_kept}
use Rattle.gl_wire.proofs.GateLemmas.{bit_of}
use Rattle.gl_frames_stages.proofs.InputNet.{bit_at, column_kind, column_there}
use Rattle.gl_frames_stages.proofs.input.put_passing_by.Goals as goal

pub put_operand-requires-clause-source : goal.put_operand-requires-clause-source
put_operand-requires-clause-source c = c.requires.input.source

pub put_operand-requires-clause-fits : goal.put_operand-requires-clause-fits
put_operand-requires-clause-fits c = column_there c.args.input.source.kinds.now c.args.column c.requires.filter

pub bit-requires : goal.bit-requires
bit-requires c = c.in_ok-passes.ensures.same_width ∙ ap width_of (column_kind c.args.input.source.kinds.now c.args.column c.requires.filter)

pub both-requires-clause-left : goal.both-requires-clause-left
both-requires-clause-left c = bit_kept _ _ c.args.input.lines.valid c.in_ok-passes.ensures.keeps c.requires.input.valid

pub both-requires-clause-right : goal.both-requires-clause-right
both-requires-clause-right c =
    let passes = c.in_ok-passes.ensures in
    bit_of c.put_operand.new.net c.in_ok-passes.passes c.bit.result passes.bus (passes.same_width ∙ ap width_of (column_kind c.args.input.source.kinds.now c.args.column c.requires.filter)) c.bit.ensures

pub returns : goal.returns
returns c =
    let input = c.args.input in
    let passes = c.in_ok-passes.ensures in
    let valid = c.in_ok-valid.ensures in
    record {
      keeps = keeps_then _ c.put_operand.new.net _ passes.keeps valid.keeps;
      cost = record {
        nodes = omega (arith, passes.cost.nodes, valid.cost.nodes);
        registers = omega (arith, passes.cost.registers, valid.cost.registers);
        memories = omega (arith, passes.cost.memories, valid.cost.memories);
      };
      row_line = valid.bit;
      end_line = bit_kept _ _ input.lines.eos (keeps_then _ c.put_operand.new.net _ passes.keeps valid.keeps) c.requires.input.eos;
      same_ends = refl;
      passing = λ run r t.
          valid.line run r (suc t)
          ∙ ap (λ (b : Bool). line_at run input.lines.valid (suc t) && b)
          (bit_at run c.bit.result t (slice_index (row_at run (suc t) input.source.columns.now) c.args.column)
          (ap (run.at (suc t)) c.bit.ensures ∙ passes.carries run (valid.keeps.runs run r) (suc t)));
    }
