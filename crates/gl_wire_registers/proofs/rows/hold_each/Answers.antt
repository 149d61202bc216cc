use Rattle.std.proofs.Common.{[], sym, subst, take}
use Rattle.std.specs.Prelude.{slice_index_or}
use Rattle.std.proofs.lemmas.List.{take_more}
use Rattle.std.proofs.lemmas.Option.{slice_get-get_or}
use Rattle.gl_wire.proofs.ColumnLemmas.{bus_kept}
use Rattle.gl_wire_registers.specs.Rows.{HoldsRow}
use Rattle.gl_wire_registers.proofs.RowLemmas.{holds_none, holds_more}
use Rattle.gl_wire_registers.proofs.rows.hold_each.Goals as goal

pub loop-bus-init : goal.loop-bus-init
loop-bus-init c = subst (HoldsRow c.args.net.now c.args.net.now c.args.load []) (sym c.new-all.ensures) (holds_none c.args.net.now c.args.load)

pub hold-requires-clause-bus : goal.hold-requires-clause-bus
hold-requires-clause-bus c = bus_kept c.args.net.now c.loop-bus.net _ c.loop-bus.invariant.keeps (c.requires.columns.each _ _ (slice_get-get_or _ _ _ c.loop-bus-test.true))

pub loop-bus-preserved : goal.loop-bus-preserved
loop-bus-preserved c =
    rw (take_more c.args.columns.now c.loop-bus.bus-index (record { node = 0; width = 0 }) c.loop-bus-test.true, c.in_ok-push.ensures.ok)
    (holds_more c.args.net.now c.loop-bus.net c.hold.new.net c.args.load (take c.loop-bus.bus-index c.args.columns.now) c.loop-bus.all (slice_index_or c.args.columns.now c.loop-bus.bus-index (record { node = 0; width = 0 })) c.in_ok-register.register
    c.loop-bus.invariant c.in_ok-register.ensures)
