use Rattle.std.proofs.Common.{[], sym, subst}
use Rattle.std.proofs.lemmas.List.{take_more}
use Rattle.std.proofs.lemmas.Option.{slice_get-get_or}
use Rattle.gl_wire.proofs.ColumnLemmas.{bus_kept}
use Rattle.gl_queue.specs.JoinLines.{AreKept}
use Rattle.gl_queue.proofs.JoinLinesLemmas.{kept_none, kept_more}
use Rattle.gl_queue.proofs.joiner.put_row.Goals as goal

pub loop-bus-init : goal.loop-bus-init
loop-bus-init c = subst (AreKept c.args.net.now c.args.net.now c.args.valid []) (sym c.new-all.ensures) (kept_none c.args.net.now c.args.valid)

pub loop-bus-preserved : goal.loop-bus-preserved
loop-bus-preserved c =
    rw (take_more c.args.columns.now c.loop-bus.bus-index (record { node = 0; width = 0 }) c.loop-bus-test.true, c.in_ok-push.ensures.ok)
    (kept_more c.args.net.now c.loop-bus.net c.put_kept.new.net c.args.valid _ _ _ _ c.loop-bus.invariant c.in_ok-kept.ensures)

pub put_kept-requires-clause-column : goal.put_kept-requires-clause-column
put_kept-requires-clause-column c =
    bus_kept c.args.net.now c.loop-bus.net _ c.loop-bus.invariant.keeps (c.requires.columns.each _ _ (slice_get-get_or _ _ _ c.loop-bus-test.true))
