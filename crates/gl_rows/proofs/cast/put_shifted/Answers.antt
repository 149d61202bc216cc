use Rattle.std.proofs.Common.{arith}
use Rattle.gl_rows.proofs.CastNet.{shifts_down}
use Rattle.gl_rows.proofs.cast.put_shifted.Goals as goal

pub returns : goal.returns
returns c =
    let cut = c.in_ok-high.ensures in
    shifts_down c.args.net.now c.cut.new.self c.put_number_in.new.net c.args.kind c.args.by c.args.bus c.in_ok-high.high c.in_ok-wide.wide c.requires.bus c.requires.same_width
    c.requires.near cut.keeps
    (record { nodes = omega (arith, cut.size); registers = omega (arith, cut.register_bits); memories = omega (arith, cut.memory_bits) })
    cut.width cut.value c.in_ok-wide.ensures
