use Rattle.gl_blocks_tests.proofs.BenchLemmas.{ready_kept}
use Rattle.gl_blocks_tests.proofs.queues.spacer_shows.Goals as goal

pub finished-requires : goal.finished-requires
finished-requires c =
    ready_kept c.put_source.new.net c.emit.new.net c.in_ok-out.ensures.behind.keeps (ready_kept c.in_ok-net.field-0.net c.put_source.new.net c.in_ok-source.ensures.keeps c.in_ok-net.ensures.ready)
