use Rattle.gl_net.proofs.Determined.{keeps_then}
use Rattle.gl_wire.proofs.ColumnLemmas.{wire_kept}
use Rattle.gl_blocks_tests.proofs.CircuitLemmas.{can_finish}
use Rattle.gl_blocks_tests.proofs.circuit.union_of.Goals as goal

pub emit-requires-clause-left : goal.emit-requires-clause-left
emit-requires-clause-left c = wire_kept _ _ _ c.in_ok-again.ensures.keeps c.in_ok-source.ensures.wire

pub finish-requires : goal.finish-requires
finish-requires c =
    can_finish c.put_source.new.net c.emit.new.net c.module.new.self c.args.first c.args.second c.in_ok-source.source c.in_ok-source.ensures
    (keeps_then c.put_source.new.net c.pad.new.net c.emit.new.net c.in_ok-again.ensures.keeps c.in_ok-out.ensures.behind.keeps)
    c.in_ok-module.ensures.ports c.in_ok-module.ensures.module_name c.in_ok-module.ensures.undriven c.in_ok-module.ensures.grows.shapes
