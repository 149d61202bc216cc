use Rattle.gl_wire.proofs.ColumnLemmas.{wire_kept}
use Rattle.gl_blocks_tests.proofs.BenchLemmas.{ready_kept}
use Rattle.gl_blocks_tests.proofs.queues.joiner_shows.Goals as goal

pub emit-requires-clause-left : goal.emit-requires-clause-left
emit-requires-clause-left c = wire_kept _ _ _ c.in_ok-other.ensures.keeps c.in_ok-one.ensures.wire

pub finished-requires : goal.finished-requires
finished-requires c =
    ready_kept c.put_source-2.new.net c.emit.new.net c.in_ok-out.ensures.behind.keeps
    (ready_kept c.put_source.new.net c.put_source-2.new.net c.in_ok-other.ensures.keeps (ready_kept c.in_ok-net.field-0.net c.put_source.new.net c.in_ok-one.ensures.keeps c.in_ok-net.ensures.ready))
