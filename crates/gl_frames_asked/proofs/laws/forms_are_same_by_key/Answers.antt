use Rattle.gl_frames_asked.proofs.FormLemmas.{forms_same}
use Rattle.gl_frames_asked.proofs.laws.forms_are_same_by_key.Goals as goal

pub returns : goal.returns
returns g c = forms_same
