use Rattle.gl_plan_tests.proofs.plans.put_others.Goals as goal

pub put_frames-requires : goal.put_frames-requires
put_frames-requires c = c.in_ok-put_beside.ensures _ _ c.in_ok-source.ensures.made

pub put_windows-requires-clause-source : goal.put_windows-requires-clause-source
put_windows-requires-clause-source c =
    c.in_ok-put_frames.ensures _ _ (c.in_ok-put_beside.ensures _ _ c.in_ok-source.ensures.made)

pub put_windows-requires-clause-body : goal.put_windows-requires-clause-body
put_windows-requires-clause-body c =
    c.in_ok-put_frames.ensures _ _
    (c.in_ok-put_beside.ensures _ _ (c.in_ok-source.ensures.kept _ _ c.requires))

pub put_groups-requires-clause-source : goal.put_groups-requires-clause-source
put_groups-requires-clause-source c =
    c.in_ok-put_windows.ensures _ _
    (c.in_ok-put_frames.ensures _ _ (c.in_ok-put_beside.ensures _ _ c.in_ok-source.ensures.made))

pub put_groups-requires-clause-body : goal.put_groups-requires-clause-body
put_groups-requires-clause-body c =
    c.in_ok-put_windows.ensures _ _
    (c.in_ok-put_frames.ensures _ _
    (c.in_ok-put_beside.ensures _ _ (c.in_ok-source.ensures.kept _ _ c.requires)))
