use Rattle.std.proofs.Common.{ℕ, ◌+◌, ◌*◌, drop, refl, sym, ap, ◌∙◌}
use Rattle.gl_vcd.proofs.Bits.{bit_here, bits_from, bits_next, bits_past}
use Rattle.gl_vcd.proofs.changing.binary_in.Goals as goal

pub loop-digit-init : goal.loop-digit-init
loop-digit-init c = refl

pub bit_of-requires : goal.bit_of-requires
bit_of-requires c = bit_here c.args.digits.now c.loop-digit.digit-index c.loop-digit-test.true c.requires

pub returns-then-number-ge-HALF : goal.returns-then-number-ge-HALF
returns-then-number-ge-HALF c = bits_past c.loop-digit.number c.loop-digit.digit-index c.args.digits.now c.loop-digit-test.true c.if-number-ge-HALF.true c.loop-digit.invariant

pub loop-digit-preserved : goal.loop-digit-preserved
loop-digit-preserved c =
    ap (λ (b : ℕ). bits_from (2 * c.loop-digit.number + b) (drop (c.loop-digit.digit-index + 1) c.args.digits.now)) c.bit_of.ensures.value
    ∙ sym (bits_next c.loop-digit.number c.loop-digit.digit-index c.args.digits.now c.loop-digit-test.true) ∙ c.loop-digit.invariant
