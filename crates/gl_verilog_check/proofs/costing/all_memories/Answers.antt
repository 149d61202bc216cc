use Rattle.gl_bits.proofs.AllLists.{mapped_at}
use Rattle.gl_verilog.specs.View.{declaration_of}
use Rattle.gl_verilog.specs.Widths.{HasSize}
use Rattle.gl_verilog_check.proofs.costing.all_memories.Goals as goal

pub memory_bits-total-requires : goal.memory_bits-total-requires
memory_bits-total-requires c = mapped_at HasSize declaration_of c.args.declarations.now c.loop-declaration.declaration-index c.declaration-item.result c.requires c.loop-declaration-test.true c.declaration-item.is
