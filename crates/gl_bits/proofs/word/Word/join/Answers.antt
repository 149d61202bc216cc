use Rattle.std.proofs.Common.{◌+◌, ◌*◌, ◌%◌, ◌^◌, ◌<◌, rules, arith}
use Rattle.gl_bits.proofs.Wrapping.{fits_wider, join_place, word_joined}
use Rattle.gl_bits.proofs.word.Word.join.Goals as goal

pub overflow_add-result : goal.overflow_add-result
overflow_add-result c =
    let n = c.self.inside.bits * 2 ^ c.low.inside.width % 2 ^ 128 + c.low.inside.bits in
    let fits : n < 2 ^ 128 =
    fits_wider n (c.self.inside.width + c.low.inside.width) 128
    (join_place c.self.inside.bits c.self.inside.width c.low.inside.bits c.low.inside.width c.self.invariant c.low.invariant (search rules)) (search rules)
    in
    omega (arith, fits)

pub invariant_of-result : goal.invariant_of-result
invariant_of-result c =
    word_joined c.self.inside.bits c.self.inside.width c.low.inside.bits c.low.inside.width c.self.invariant c.low.invariant (search rules)
