use Rattle.gl_frames.proofs.LastLemmas.{frames_counted}
use Rattle.gl_frames.proofs.SumLemmas.{counts_sum, filters_mask, sums_slide}
use Rattle.gl_frames.proofs.laws.sums_slide.Goals as goal

pub returns-clause-slide : goal.returns-clause-slide
returns-clause-slide g c = sums_slide

pub returns-clause-filters : goal.returns-clause-filters
returns-clause-filters g c = filters_mask

pub returns-clause-counts : goal.returns-clause-counts
returns-clause-counts g c = counts_sum

pub returns-clause-lengths : goal.returns-clause-lengths
returns-clause-lengths g c = frames_counted
