use Rattle.std.proofs.Common.{List, ℕ, subst}
use Rattle.std.proofs.lemmas.Result.{err_from_is_err_and}
use Rattle.gl_schema.specs.SchemaFaults.{Fails, schema_of}
use Rattle.gl_top_status.proofs.Fetched.{has_none}
use Rattle.gl_top_status.proofs.fetching.fetch_schema.Goals as goal

pub returns-in_err-read_schema-clause-leaves : goal.returns-in_err-read_schema-clause-leaves
returns-in_err-read_schema-clause-leaves g c =
    let p = err_from_is_err_and c.from_residual-in_err-read_schema.result c.from_residual-in_err-read_schema.ensures.1 in
    let fault = c.in_err-read_schema.field-0.0 in
    let fails = subst (λ (v : List ℕ). Fails fault (schema_of v)) c.deref.ensures.value c.in_err-read_schema.ensures.exact in
    rw (p.1, p.2) (has_none c.args.words.now _ _ c.in_ok-text.text.items fault c.in_ok-text.ensures.leaves c.in_ok-text.ensures.text fails)
