use Rattle.std.proofs.Common.{List, arith, sym, subst}
use Rattle.std.specs.Prelude.{All, slice_index_or}
use Rattle.gl_algebra.specs.Known.{AggKnown}
use Rattle.gl_rows.specs.Made.{AreHeldBuses}
use Rattle.gl_rows.proofs.MadeLemmas.{no_words}
use Rattle.gl_wire.specs.Wire.{widths}
use Rattle.gl_net.specs.declared.node.Bus.{Bus}
use Rattle.gl_net.specs.Net.{IsBus}
use Rattle.gl_net.proofs.Determined.{keeps_then}
use Rattle.gl_wire.proofs.ColumnLemmas.{bus_kept, wire_kept}
use Rattle.gl_blocks_tests.proofs.CircuitLemmas.{can_finish, column_is}
use Rattle.gl_blocks_tests.proofs.circuit.table_of.Goals as goal

pub cut-requires-clause-arg : goal.cut-requires-clause-arg
cut-requires-clause-arg c =
    subst (λ (bs : List Bus). IsBus c.put_source.new.net (slice_index_or bs 0 (record { node = 0; width = 0 }))) (sym c.as_slice.ensures)
    (column_is c.put_source.new.net c.width.result c.width-2.result c.in_ok-source.source 0 c.in_ok-source.ensures (omega arith))

pub cut-requires-2-clause-arg : goal.cut-requires-2-clause-arg
cut-requires-2-clause-arg c =
    subst (λ (bs : List Bus). IsBus c.cut.new.self (slice_index_or bs 0 (record { node = 0; width = 0 }))) (sym c.as_slice.ensures)
    (bus_kept _ _ (slice_index_or c.in_ok-source.source.wire.columns 0 (record { node = 0; width = 0 })) c.in_ok-slot.ensures.keeps
    (column_is c.put_source.new.net c.width.result c.width-2.result c.in_ok-source.source 0 c.in_ok-source.ensures (omega arith)))

pub emit-requires-clause-wire : goal.emit-requires-clause-wire
emit-requires-clause-wire c =
    wire_kept c.put_source.new.net _ c.in_ok-source.source.wire (keeps_then _ c.cut.new.self _ c.in_ok-slot.ensures.keeps c.in_ok-begins.ensures.keeps)
    c.in_ok-source.ensures.wire

pub emit-requires-clause-words : goal.emit-requires-clause-words
emit-requires-clause-words c = subst (AreHeldBuses c.cut-2.new.self) (sym c.requires.words) (no_words c.cut-2.new.self)

pub emit-requires-clause-known : goal.emit-requires-clause-known
emit-requires-clause-known c =
    subst (λ (bs : List Bus). All (AggKnown (widths bs)) c.args.table.now.aggs.now) (sym c.requires.words) c.requires.known

pub finish-requires : goal.finish-requires
finish-requires c =
    can_finish c.put_source.new.net c.emit.new.net c.module.new.self c.width.result c.width-2.result c.in_ok-source.source c.in_ok-source.ensures
    (keeps_then _ c.cut.new.self _ c.in_ok-slot.ensures.keeps (keeps_then _ c.cut-2.new.self _ c.in_ok-begins.ensures.keeps c.in_ok-out.ensures.keeps))
    c.in_ok-module.ensures.ports c.in_ok-module.ensures.module_name c.in_ok-module.ensures.undriven c.in_ok-module.ensures.grows.shapes
