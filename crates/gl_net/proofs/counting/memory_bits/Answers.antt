use Rattle.std.proofs.Common.{rules, ◌≤◌, subst}
use Rattle.gl_net.specs.Small.{IsAddressed}
use Rattle.gl_bits.proofs.Memories.{memory_small}
use Rattle.gl_net.proofs.counting.memory_bits.Goals as goal

pub returns-in-Memory-clause-small : goal.returns-in-Memory-clause-small
returns-in-Memory-clause-small c =
    let narrow : c.from.result ≤ 255 = search rules in
    memory_small c.in-Memory.bits 340282366920938463463374607431768211456 c.from.result (subst IsAddressed c.in-Memory.is c.requires) narrow
