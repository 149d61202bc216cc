use Rattle.gl_frames_stages.proofs.doubling.+put_doubled.Given as goal

abbrev pub decreases-put_doubled : goal.decreases-put_doubled
decreases-put_doubled l = l.more
