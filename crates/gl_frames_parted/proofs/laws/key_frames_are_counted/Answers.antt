use Rattle.gl_frames_parted.proofs.CountedLemmas.{key_frames_counted}
use Rattle.gl_frames_parted.proofs.laws.key_frames_are_counted.Goals as goal

pub returns : goal.returns
returns c = key_frames_counted c.doublings_are_bits.ensures c.columns_are_asked.ensures c.nodes_are_same.ensures.nodes
