use Rattle.std.proofs.Common.{◌∙◌, sym}
use Rattle.gl_tuple_reader.proofs.Settings.{word_narrow}
use Rattle.gl_tuple_reader.proofs.setting.value_at.Goals as goal

pub small-requires : goal.small-requires
small-requires c = word_narrow c.args.parameter.now.kind _ c.in-Some.word c.requires.kind (sym c.in-Some.is ∙ c.word_at.ensures)
