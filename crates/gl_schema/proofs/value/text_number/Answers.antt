use Rattle.std.proofs.Common.{◌∙◌, arith}
use Rattle.gl_schema.proofs.TextNumbers.{bits_fit, bits_more, text_more}
use Rattle.gl_schema.proofs.value.text_number.Goals as goal

pub overflow_mul-bits : goal.overflow_mul-bits
overflow_mul-bits c = omega (arith, bits_fit c.loop-at.at c.loop-at.bits 0 (omega arith) c.loop-at.invariant.small (omega arith))

pub overflow_add-bits : goal.overflow_add-bits
overflow_add-bits c = omega (arith, bits_fit c.loop-at.at c.loop-at.bits c.from.result (omega arith) c.loop-at.invariant.small (omega arith))

pub loop-at-preserved : goal.loop-at-preserved
loop-at-preserved c = record {
  value = text_more c.args.bytes c.args.text.now c.loop-at.at c.loop-at.bits c.from.result c.requires.short (omega arith) c.loop-at.invariant.value (c.from.ensures ∙ c.byte_at.ensures);
  small = bits_more c.loop-at.at c.loop-at.bits c.from.result c.loop-at.invariant.small (omega arith);
}
