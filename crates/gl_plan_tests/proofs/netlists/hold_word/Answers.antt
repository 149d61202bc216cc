use Rattle.std.proofs.Common.{suc, ◌∙◌}
use Rattle.gl_net.proofs.Values.{stored_now}
use Rattle.gl_plan_tests.proofs.netlists.hold_word.Goals as goal

pub returns-clause-law : goal.returns-clause-law
returns-clause-law c = λ run r t w a.
    c.in_ok-word.ensures.value run (c.in_ok-drive_memory.ensures.grows.runs run r) (suc t) ∙ c.in_ok-drive_memory.ensures.value run r t _
    ∙ stored_now _ _ _ _ _ w a
