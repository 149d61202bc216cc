use Rattle.std.proofs.Common.{subst}
use Rattle.gl_tuples.specs.declared.beats.Beat.{Beat}
use Rattle.gl_tuples.specs.Growing.{Fit}
use Rattle.gl_tuple_reader.proofs.Columns.{last_fit}
use Rattle.gl_tuple_reader.proofs.Filings.{ok_is}
use Rattle.gl_tuple_reader.proofs.filing.Filing.end.Goals as goal

pub push-requires : goal.push-requires
push-requires c =
    let columns = c.args.self.whole.columns in
    subst (λ (b : Beat). Fit columns b.rows) (ok_is _ _ c.in_ok-last.ensures)
    (last_fit columns c.args.streams c.args.self.current c.requires.many c.requires.rows)
