use Rattle.std.proofs.Common.{[], sym, subst}
use Rattle.std.proofs.lemmas.List.{take_more}
use Rattle.std.proofs.lemmas.Option.{slice_get-get_or}
use Rattle.gl_wire.specs.Stages.{AreLater}
use Rattle.gl_wire.proofs.ColumnLemmas.{bus_kept, later_none, later_more}
use Rattle.gl_wire.proofs.stages.later_all.Goals as goal

pub loop-bus-init : goal.loop-bus-init
loop-bus-init c = subst (AreLater c.args.net.now c.args.net.now []) (sym c.new-all.ensures) (later_none c.args.net.now)

pub later-requires : goal.later-requires
later-requires c = bus_kept c.args.net.now c.loop-bus.net _ c.loop-bus.invariant.keeps (c.requires.each _ _ (slice_get-get_or _ _ _ c.loop-bus-test.true))

pub loop-bus-preserved : goal.loop-bus-preserved
loop-bus-preserved c =
    rw (take_more c.args.columns.now c.loop-bus.bus-index (record { node = 0; width = 0 }) c.loop-bus-test.true, c.in_ok-push.ensures.ok)
    (later_more c.args.net.now c.loop-bus.net c.later.new.net _ _ _ _ c.loop-bus.invariant c.in_ok-register.ensures)
