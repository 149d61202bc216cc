use Rattle.gl_tuple_reader.proofs.Columns.{entry_there}
use Rattle.gl_tuple_reader.proofs.Filings.{pair_second}
use Rattle.gl_tuple_reader.proofs.filing.Filing.add.Goals as goal

pub beat_with-requires : goal.beat_with-requires
beat_with-requires c = entry_there c.args.self.whole.columns c.args.streams c.args.cycle c.args.number c.args.self.current c.args.entry c.in_ok-whole.beat c.requires.many c.requires.rows c.requires.stream (pair_second _ _ _ _ c.in_ok-whole.ensures)
