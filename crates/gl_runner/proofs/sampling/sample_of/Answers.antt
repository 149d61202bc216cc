use Rattle.gl_runner.proofs.sampling.sample_of.Goals as goal

pub is_high-requires : goal.is_high-requires
is_high-requires c = c.requires.group'

pub is_high-requires-2 : goal.is_high-requires-2
is_high-requires-2 c = c.requires.valid'

pub is_high-requires-3 : goal.is_high-requires-3
is_high-requires-3 c = c.requires.end'
