use Rattle.std.proofs.Common.{◌≡◌, ◌∙◌, ◌<◌, length, sym, arith}
use Rattle.std.specs.Prelude.{slice_index}
use Rattle.gl_bits.specs.Words.{widths_of}
use Rattle.gl_tuples.proofs.Rows.{row_more, widths_length}
use Rattle.gl_runner.proofs.sampling.set_row.Goals as goal

pub loop-place-preserved : goal.loop-place-preserved
loop-place-preserved c =
    let inside : c.loop-place.place < length c.args.columns.now = omega arith in
    let sizes : length c.args.columns.now ≡ length (widths_of c.args.row.now) = c.requires.lengths ∙ sym (widths_length c.args.row.now) in
    record {
      widths = c.set_value.ensures.widths ∙ c.loop-place.invariant.widths;
      bits = λ fit. row_more c.loop-place.row c.set_value.new.row (widths_of c.args.row.now) c.args.columns.now (slice_index c.args.sim.now.shown) c.loop-place.place c.output.result 0
          inside sizes fit c.loop-place.invariant.widths c.output.ensures c.set_value.ensures.bits (c.loop-place.invariant.bits fit);
    }
