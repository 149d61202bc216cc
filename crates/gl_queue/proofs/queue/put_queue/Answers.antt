use Rattle.std.proofs.Common.{ℕ, sym, subst}
use Rattle.gl_queue.specs.Queues.{IsQueueOf}
use Rattle.gl_queue.proofs.queue.put_queue.Goals as goal

pub returns-in_ok-single : goal.returns-in_ok-single
returns-in_ok-single c =
    subst (λ (n : ℕ). IsQueueOf c.args.net.now c.put_single.new.net n c.args.push c.args.hold c.args.columns.now c.in_ok-single.single) (sym c.if-depth-eq1.true) c.in_ok-single.ensures
