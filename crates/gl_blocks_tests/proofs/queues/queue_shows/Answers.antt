use Rattle.std.proofs.Common.{sym, subst}
use Rattle.gl_wire.specs.Wire.{AreBuses}
use Rattle.gl_wire.proofs.ColumnLemmas.{buses_kept}
use Rattle.gl_blocks_tests.proofs.BenchLemmas.{ready_kept}
use Rattle.gl_blocks_tests.proofs.queues.queue_shows.Goals as goal

pub put_queue-requires-clause-columns : goal.put_queue-requires-clause-columns
put_queue-requires-clause-columns c =
    subst (AreBuses c.put_source-2.new.net) (sym c.as_slice.ensures) (buses_kept _ _ _ c.in_ok-held.ensures.keeps c.in_ok-source.ensures.wire.columns)

pub finished-requires : goal.finished-requires
finished-requires c =
    ready_kept c.put_source-2.new.net c.put_queue.new.net c.in_ok-queue.ensures.keeps
    (ready_kept c.put_source.new.net c.put_source-2.new.net c.in_ok-held.ensures.keeps (ready_kept c.in_ok-net.field-0.net c.put_source.new.net c.in_ok-source.ensures.keeps c.in_ok-net.ensures.ready))
