use Rattle.gl_bits.specs.Words.{bits_of}
use Rattle.gl_outside.proofs.Takes.{wrote_same}
use Rattle.gl_tuples.specs.Pieces.{sampled}
use Rattle.gl_tuples.proofs.Puts.{lines_alone}
use Rattle.gl_tuples.proofs.lines.put_cycle.Goals as goal

pub returns : goal.returns
returns g c =
    wrote_same _ _ _ _ c.put_lines.result (lines_alone c.args.kinds.now c.args.overflowed (sampled c.args.sample c.args.cycle (bits_of c.args.row.now))) c.put_lines.ensures
