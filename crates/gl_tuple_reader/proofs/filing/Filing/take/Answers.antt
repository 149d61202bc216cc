use Rattle.std.proofs.Common.{◌∙◌, ap, length, sym}
use Rattle.gl_tuple_reader.proofs.Columns.{shape_long}
use Rattle.gl_tuple_reader.proofs.filing.Filing.take.Goals as goal

pub add-requires-clause-many : goal.add-requires-clause-many
add-requires-clause-many c = c.len.ensures ∙ shape_long c.args.schema.now ∙ ap length (sym c.requires.columns)
