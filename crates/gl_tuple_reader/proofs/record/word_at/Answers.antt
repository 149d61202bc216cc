use Rattle.gl_schema.proofs.KindTable.{written_is}
use Rattle.gl_tuple_reader.proofs.record.word_at.Goals as goal

pub word_of-requires : goal.word_of-requires
word_of-requires c = written_is c.args.column.now.kind c.requires.kind
