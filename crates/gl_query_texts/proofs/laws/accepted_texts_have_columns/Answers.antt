use Rattle.gl_query_texts.proofs.Items.{have_columns}
use Rattle.gl_query_texts.proofs.laws.accepted_texts_have_columns.Goals as goal

pub returns : goal.returns
returns c = have_columns c.accepted_have_real_columns.ensures
