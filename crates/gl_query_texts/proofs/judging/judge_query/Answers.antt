use Rattle.gl_query_texts.proofs.Judged.{unread}
use Rattle.gl_query_texts.proofs.judging.judge_query.Goals as goal

pub returns-in-Err-clause-fault : goal.returns-in-Err-clause-fault
returns-in-Err-clause-fault c = unread c.args.schema.now c.args.query.now c.in-Err.fault c.in-Err.ensures.fault c.in-Err.ensures.only
