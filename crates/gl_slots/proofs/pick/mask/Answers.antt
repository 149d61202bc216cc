use Rattle.std.proofs.Common.{arith}
use Rattle.gl_slots.proofs.PickLemmas.{masks_are}
use Rattle.gl_slots.proofs.pick.mask.Goals as goal

pub returns : goal.returns
returns c =
    let bus = c.in_ok-masked.ensures in
    masks_are c.args.net.now c.choose.new.self c.args.line c.args.bus c.args.zero c.in_ok-masked.masked bus.keeps
    (record { nodes = omega (arith, bus.size); registers = omega (arith, bus.register_bits); memories = omega (arith, bus.memory_bits) }) bus.bus bus.width c.requires.carries bus.value
