use Rattle.gl_query_texts.proofs.Verdicts.{verdicts}
use Rattle.gl_query_texts.proofs.list_laws.texts_have_one_verdict.Goals as goal

pub returns : goal.returns
returns c = verdicts
