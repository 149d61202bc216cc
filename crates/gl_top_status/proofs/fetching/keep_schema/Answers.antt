use Rattle.std.proofs.Common.{List, ℕ, subst}
use Rattle.gl_schema.specs.SchemaFaults.{Fails, schema_of}
use Rattle.gl_top_status.proofs.Fetched.{has_none}
use Rattle.gl_top_status.proofs.fetching.keep_schema.Goals as goal

pub returns-in-Err-clause-leaves : goal.returns-in-Err-clause-leaves
returns-in-Err-clause-leaves g c =
    let fails = subst (λ (v : List ℕ). Fails c.in-Err.fault (schema_of v)) c.deref.ensures.value c.in-Err.ensures.exact in
    rw c.from.ensures (has_none c.args.words.now _ _ c.in_ok-text.text.items c.in-Err.fault c.in_ok-text.ensures.leaves c.in_ok-text.ensures.text fails)
