use Rattle.std.proofs.Common.{arith}
use Rattle.gl_slots.proofs.PickLemmas.{merges_are}
use Rattle.gl_slots.proofs.pick.merge.Goals as goal

pub returns : goal.returns
returns c =
    let bus = c.in_ok-bus.ensures in
    merges_are c.args.net.now c.binary.new.self c.args.left c.args.right c.in_ok-bus.bus bus.keeps
    (record { nodes = omega (arith, bus.size); registers = omega (arith, bus.register_bits); memories = omega (arith, bus.memory_bits) }) bus.bus bus.width bus.value
