use Rattle.gl_bits.specs.Words.{bits_of}
use Rattle.gl_tuples.proofs.Narrow.{bits_more}
use Rattle.gl_tuples.proofs.flat.push_words.Goals as goal

pub loop-at-preserved : goal.loop-at-preserved
loop-at-preserved c =
    bits_more (bits_of c.args.row.now) c.args.numbers.now.items c.loop-at.numbers.items c.push.new.self.items c.loop-at.at c.number_at.result c.number_at.ensures c.loop-at.invariant c.in_ok-push.ensures.items
