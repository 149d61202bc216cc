use Rattle.std.proofs.lemmas.Result.{err_from_is_err_and}
use Rattle.gl_compiler.proofs.Telling.{schema_cause, schema_tells, told_over}
use Rattle.gl_compiler.proofs.querying.compile.Goals as goal

pub returns-in_err-schema-clause-cause : goal.returns-in_err-schema-clause-cause
returns-in_err-schema-clause-cause c =
    let p = err_from_is_err_and c.from_residual.result c.from_residual.ensures.1 in
    rw (p.1, p.2) (schema_cause c.args.schema.now c.args.query.now _ c.in_err-schema.ensures.exact)

pub returns-in_err-schema-clause-told : goal.returns-in_err-schema-clause-told
returns-in_err-schema-clause-told c =
    let p = err_from_is_err_and c.from_residual.result c.from_residual.ensures.1 in
    rw (p.1, p.2) (schema_tells c.args.schema.now c.args.query.now _ c.in_err-schema.ensures.exact)

pub returns-clause-told : goal.returns-clause-told
returns-clause-told c = told_over c.args.schema.now c.args.query.now c.in_ok-schema.schema c.compile_query.result c.in_ok-schema.ensures.found c.compile_query.ensures.told
