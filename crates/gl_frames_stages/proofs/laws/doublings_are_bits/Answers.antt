use Rattle.gl_frames_stages.proofs.CycleLemmas.{doublings_bits}
use Rattle.gl_frames_stages.proofs.laws.doublings_are_bits.Goals as goal

pub returns : goal.returns
returns c = doublings_bits
