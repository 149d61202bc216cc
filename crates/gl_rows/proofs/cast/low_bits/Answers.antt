use Rattle.std.proofs.Common.{arith}
use Rattle.gl_rows.proofs.CastNet.{low}
use Rattle.gl_rows.proofs.cast.low_bits.Goals as goal

-- the branch without zero bits
pub returns : goal.returns
returns c =
    let cut = c.in_ok-low.ensures in
    low c.args.net.now c.cut.new.self c.args.width c.args.bus c.in_ok-low.low c.requires.bus c.requires.width.some' c.if-bus-width.false cut.keeps
    (record { nodes = omega (arith, cut.size); registers = omega (arith, cut.register_bits); memories = omega (arith, cut.memory_bits) })
    cut.bus cut.width cut.value
