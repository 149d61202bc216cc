use Rattle.gl_frames_slots.proofs.doubling.+put_slot_doubled.Given as goal

abbrev pub decreases-put_slot_doubled : goal.decreases-put_slot_doubled
decreases-put_slot_doubled l = l.more
