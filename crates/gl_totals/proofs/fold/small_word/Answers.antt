use Rattle.gl_totals.proofs.FoldNet.{small_fits}
use Rattle.gl_totals.proofs.fold.small_word.Goals as goal

pub unwrap-requires : goal.unwrap-requires
unwrap-requires c = c.new.ensures.given.1 (c.requires.some', c.requires.most, small_fits c.bit_number.result c.args.width c.bit_number.ensures.small c.requires.some')
