use Rattle.std.proofs.lemmas.Result.{err_from_is_err_and}
use Rattle.gl_top_explain.proofs.Refused.{explain_refused}
use Rattle.gl_top_explain.proofs.explaining.explain_query.Goals as goal

pub returns-in_err-checked-clause-refused : goal.returns-in_err-checked-clause-refused
returns-in_err-checked-clause-refused c =
    let p = err_from_is_err_and c.from_residual.result c.from_residual.ensures.1 in
    rw (p.1, p.2) (explain_refused c.args.schema.now c.args.query.now _ c.in_err-checked.ensures.fault)
