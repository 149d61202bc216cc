-- Arguments of aggregates.
use Rattle.std.proofs.Common.{append_assoc}
use Rattle.gl_bits.proofs.AllLists.{all_front, all_back}

pub ruleset argument_steps = (all_front, all_back, append_assoc)
