use Rattle.gl_groups.proofs.GroupLemmas.{groups_group}
use Rattle.gl_groups.proofs.laws.groups_group.Goals as goal

pub returns : goal.returns
returns c = groups_group
