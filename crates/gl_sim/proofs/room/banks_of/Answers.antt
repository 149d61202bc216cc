use Rattle.std.proofs.Common.{map}
use Rattle.gl_bits.proofs.AllLists.{get_mapped, all_at}
use Rattle.gl_verilog.specs.View.{declaration_of}
use Rattle.gl_verilog.specs.Widths.{HasSize}
use Rattle.gl_sim.proofs.Settling.{slice_get-at}
use Rattle.gl_sim.proofs.room.banks_of.Goals as goal

pub bank_of-requires : goal.bank_of-requires
bank_of-requires c = λ bits h.
    ((all_at HasSize (map declaration_of c.args.declarations.now) c.loop-declaration.declaration-index (declaration_of c.declaration-item.result)
    (get_mapped declaration_of c.args.declarations.now c.loop-declaration.declaration-index c.declaration-item.result (slice_get-at c.args.declarations.now c.loop-declaration.declaration-index c.declaration-item.result c.loop-declaration-test.true c.declaration-item.is)) c.requires).1 bits h).1
