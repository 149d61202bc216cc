use Rattle.std.proofs.Common.{List, arith, sym, subst}
use Rattle.std.specs.Prelude.{slice_index_or}
use Rattle.gl_net.specs.declared.node.Bus.{Bus}
use Rattle.gl_net.specs.Net.{IsBus}
use Rattle.gl_blocks_tests.proofs.CircuitLemmas.{can_finish, column_is}
use Rattle.gl_blocks_tests.proofs.circuit.divider_of.Goals as goal

pub divide-requires-clause-top : goal.divide-requires-clause-top
divide-requires-clause-top c =
    subst (λ (bs : List Bus). IsBus c.put_source.new.net (slice_index_or bs 0 (record { node = 0; width = 0 }))) (sym c.as_slice.ensures)
    (column_is c.put_source.new.net c.args.first c.args.second c.in_ok-source.source 0 c.in_ok-source.ensures (omega arith))

pub divide-requires-clause-bottom : goal.divide-requires-clause-bottom
divide-requires-clause-bottom c =
    subst (λ (bs : List Bus). IsBus c.put_source.new.net (slice_index_or bs 1 (record { node = 0; width = 0 }))) (sym c.as_slice-2.ensures)
    (column_is c.put_source.new.net c.args.first c.args.second c.in_ok-source.source 1 c.in_ok-source.ensures (omega arith))

pub finish-requires : goal.finish-requires
finish-requires c =
    can_finish c.put_source.new.net c.divide.new.net c.module.new.self c.args.first c.args.second c.in_ok-source.source c.in_ok-source.ensures
    c.in_ok-quotient.ensures.keeps c.in_ok-module.ensures.ports c.in_ok-module.ensures.module_name c.in_ok-module.ensures.undriven c.in_ok-module.ensures.grows.shapes
