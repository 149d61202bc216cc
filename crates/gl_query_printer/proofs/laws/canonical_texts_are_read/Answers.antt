use Rattle.gl_query_printer.proofs.RoundTrip.{canonical_read}
use Rattle.gl_query_printer.proofs.laws.canonical_texts_are_read.Goals as goal

pub returns : goal.returns
returns c = canonical_read
