use Rattle.std.proofs.Common.{[], sym, subst}
use Rattle.std.proofs.lemmas.List.{take_more}
use Rattle.std.proofs.lemmas.Option.{slice_get-get_or}
use Rattle.gl_wire.proofs.ColumnLemmas.{bus_kept}
use Rattle.gl_queue.specs.Parts.{AreStored}
use Rattle.gl_queue.proofs.PartLemmas.{stored_none, stored_more}
use Rattle.gl_queue.proofs.ring.put_columns.Goals as goal

pub loop-bus-init : goal.loop-bus-init
loop-bus-init c =
    subst (AreStored c.args.net.now c.args.net.now c.args.bits c.args.push c.args.at.tail c.args.at.head []) (sym c.new-all.ensures)
    (stored_none c.args.net.now c.args.bits c.args.push c.args.at.tail c.args.at.head)

pub loop-bus-preserved : goal.loop-bus-preserved
loop-bus-preserved c =
    rw (take_more c.args.columns.now c.loop-bus.bus-index (record { node = 0; width = 0 }) c.loop-bus-test.true, c.in_ok-push.ensures.ok)
    (stored_more c.args.net.now c.loop-bus.net c.put_memory.new.net c.args.bits c.args.push c.args.at.tail c.args.at.head _ _ _ _ c.loop-bus.invariant c.in_ok-out.ensures)

pub put_memory-requires-clause-value : goal.put_memory-requires-clause-value
put_memory-requires-clause-value c =
    bus_kept c.args.net.now c.loop-bus.net _ c.loop-bus.invariant.keeps (c.requires.columns.each _ _ (slice_get-get_or _ _ _ c.loop-bus-test.true))
