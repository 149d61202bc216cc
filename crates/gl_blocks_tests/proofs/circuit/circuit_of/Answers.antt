use Rattle.gl_blocks_tests.proofs.CircuitLemmas.{can_finish}
use Rattle.gl_blocks_tests.proofs.circuit.circuit_of.Goals as goal

pub finish-requires : goal.finish-requires
finish-requires g c =
    can_finish c.put_source.new.net c.emit.new.net c.module.new.self c.width.result c.width-2.result c.in_ok-source.source c.in_ok-source.ensures
    c.in_ok-out.ensures.behind.keeps c.in_ok-module.ensures.ports c.in_ok-module.ensures.module_name c.in_ok-module.ensures.undriven c.in_ok-module.ensures.grows.shapes
