use Rattle.gl_frames_keys.proofs.LaterLemmas.{lanes_late}
use Rattle.gl_frames_keys.proofs.OpenLemmas.{lanes_open}
use Rattle.gl_frames_keys.proofs.SlotKeyLemmas.{keyed_run, slots_keyed}
use Rattle.gl_frames_keys.proofs.laws.keyed_lanes_run.Goals as goal

pub returns-clause-slots : goal.returns-clause-slots
returns-clause-slots c = slots_keyed

pub returns-clause-opens : goal.returns-clause-opens
returns-clause-opens c = lanes_open

pub returns-clause-late : goal.returns-clause-late
returns-clause-late c = lanes_late

pub returns-clause-runs : goal.returns-clause-runs
returns-clause-runs c = keyed_run
