use Rattle.std.proofs.Common.{arith}
use Rattle.gl_rows.proofs.CastNet.{high}
use Rattle.gl_rows.proofs.cast.high_bits.Goals as goal

-- the branch without zero bits
pub returns : goal.returns
returns c =
    let cut = c.in_ok-high.ensures in
    high c.args.net.now c.cut.new.self c.args.width c.args.bus c.in_ok-high.high c.requires.bus c.requires.width.some' c.if-bus-width.false cut.keeps
    (record { nodes = omega (arith, cut.size); registers = omega (arith, cut.register_bits); memories = omega (arith, cut.memory_bits) })
    cut.bus cut.width cut.value
