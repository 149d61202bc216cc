use Rattle.gl_top_forms.proofs.Rows.{worked_forms}
use Rattle.gl_top_forms.proofs.laws.worked_forms.Goals as goal

pub returns : goal.returns
returns c = worked_forms
