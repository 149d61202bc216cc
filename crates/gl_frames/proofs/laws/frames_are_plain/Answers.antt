use Rattle.gl_frames.proofs.LastLemmas.{last_values_own}
use Rattle.gl_frames.proofs.ListLemmas.{frames_plain, frames_short, lags_plain, rows_framed}
use Rattle.gl_frames.proofs.laws.frames_are_plain.Goals as goal

pub returns-clause-rows : goal.returns-clause-rows
returns-clause-rows g c = rows_framed

pub returns-clause-frames : goal.returns-clause-frames
returns-clause-frames g c = frames_plain

pub returns-clause-short : goal.returns-clause-short
returns-clause-short g c = frames_short

pub returns-clause-lags : goal.returns-clause-lags
returns-clause-lags g c = lags_plain

pub returns-clause-last_values : goal.returns-clause-last_values
returns-clause-last_values g c = last_values_own
