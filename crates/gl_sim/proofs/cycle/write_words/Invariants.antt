use Rattle.std.proofs.Common.{drop}
use Rattle.gl_sim.proofs.Words.{HasPut}
use Rattle.gl_sim.proofs.cycle.write_words.Given as goal

abbrev pub invariant-loop-update : goal.invariant-loop-update
invariant-loop-update l = HasPut l.updates l.initial.banks.items (drop l.update-index l.updates) l.banks.items
