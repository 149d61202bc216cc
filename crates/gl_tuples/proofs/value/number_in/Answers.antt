use Rattle.std.proofs.Common.{arith}
use Rattle.gl_tuples.proofs.Numbers.{digit_more, none_yet}
use Rattle.gl_tuples.proofs.value.number_in.Goals as goal

pub loop-digit-init : goal.loop-digit-init
loop-digit-init c = none_yet c.args.digits.now

pub loop-digit-preserved : goal.loop-digit-preserved
loop-digit-preserved c = rw (c.min-number.ensures, c.from.ensures, c.saturating_sub.ensures) (digit_more c.args.digits.now c.loop-digit.digit-index c.loop-digit.number (omega arith) c.loop-digit.invariant)
