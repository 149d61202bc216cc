use Rattle.gl_net.proofs.Growth.{bus_read, bit_read}
use Rattle.gl_net.proofs.builder.NetBuilder.choose.Goals as goal

pub add-requires-clause-fits : goal.add-requires-clause-fits
add-requires-clause-fits c =
    (bit_read _ _ c.requires.test, bus_read _ _ c.requires.yes, bus_read _ _ c.requires.no, c.requires.widths)
