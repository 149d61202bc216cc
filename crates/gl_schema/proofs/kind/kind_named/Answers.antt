use Rattle.std.proofs.Common.{◌∙◌}
use Rattle.gl_schema.proofs.KindTable.{kind_found}
use Rattle.gl_schema.proofs.kind.kind_named.Goals as goal

pub returns : goal.returns
returns c = c.kind_read.ensures ∙ kind_found c.args.word.now
