use Rattle.std.proofs.Common.{◌≡◌, ◌∙◌, ◌<◌, None, length, sym, arith}
use Rattle.gl_bits.specs.Words.{widths_of}
use Rattle.gl_tuples.proofs.Rows.{row_more, widths_length}
use Rattle.gl_vcd.specs.Showings.{value_in}
use Rattle.gl_vcd.proofs.columns.fill.Goals as goal

pub loop-place-preserved : goal.loop-place-preserved
loop-place-preserved c =
    let inside : c.loop-place.place < length c.args.numbers.now = omega arith in
    let sizes : length c.args.numbers.now ≡ length (widths_of c.args.row.now) = c.requires.long ∙ sym (widths_length c.args.row.now) in
    record {
      widths = c.set_value.ensures.widths ∙ c.loop-place.invariant.widths;
      bits = row_more c.loop-place.row c.set_value.new.row (widths_of c.args.row.now) c.args.numbers.now (value_in c.args.values.now) c.loop-place.place c.value_in.result None
          inside sizes c.requires.room c.loop-place.invariant.widths c.value_in.ensures c.set_value.ensures.bits c.loop-place.invariant.bits;
    }
