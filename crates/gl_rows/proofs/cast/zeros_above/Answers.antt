use Rattle.std.proofs.Common.{arith}
use Rattle.gl_wire.proofs.ColumnLemmas.{bus_kept}
use Rattle.gl_rows.proofs.CastNet.{above}
use Rattle.gl_rows.proofs.cast.zeros_above.Goals as goal

pub put_zeros-requires : goal.put_zeros-requires
put_zeros-requires c = record { some' = omega (arith, c.requires.more); most = omega (arith, c.requires.width.most) }

pub join-requires : goal.join-requires
join-requires c =
    let zeros = c.in_ok-zeros.ensures in
    record {
      high = zeros.bus;
      low = bus_kept c.args.net.now c.put_zeros.new.net c.args.bus zeros.keeps c.requires.bus;
      widths = omega (arith, zeros.same_width, c.requires.more, c.requires.width.most);
    }

pub returns : goal.returns
returns c =
    let joined = c.in_ok-joined.ensures in
    above c.args.net.now c.put_zeros.new.net c.join.new.self c.args.width c.args.bus c.in_ok-zeros.zeros c.in_ok-joined.joined c.requires.bus c.requires.more
    c.in_ok-zeros.ensures joined.keeps
    (record { nodes = omega (arith, joined.size); registers = omega (arith, joined.register_bits); memories = omega (arith, joined.memory_bits) })
    joined.bus joined.width joined.value
