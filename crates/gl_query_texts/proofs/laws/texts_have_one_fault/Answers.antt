use Rattle.gl_query_texts.proofs.Judged.{one_faults}
use Rattle.gl_query_texts.proofs.laws.texts_have_one_fault.Goals as goal

pub returns : goal.returns
returns c = one_faults c.texts_have_one_verdict.ensures c.first_faults_are_exact.ensures
