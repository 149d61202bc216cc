use Rattle.gl_query_texts.proofs.Listing.{listed}
use Rattle.gl_query_texts.proofs.list_laws.statements_are_listed.Goals as goal

pub returns : goal.returns
returns c = listed
