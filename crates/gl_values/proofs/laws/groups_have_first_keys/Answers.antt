use Rattle.gl_values.proofs.Grouping.{have_first_keys}
use Rattle.gl_values.proofs.laws.groups_have_first_keys.Goals as goal

pub returns : goal.returns
returns g c = λ n key_of xs. have_first_keys n key_of xs
