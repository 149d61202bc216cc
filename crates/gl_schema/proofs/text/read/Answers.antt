use Rattle.std.proofs.Common.{length, subst, ap, ◌∙◌, arith}
use Rattle.std.proofs.lemmas.Result.{err_from_is_err_and}
use Rattle.gl_schema.specs.SchemaText.{tokens_from, Between, tokens_of}
use Rattle.gl_schema.specs.SchemaFaults.{Fails, schema_of, schema_from}
use Rattle.gl_schema.proofs.Steps.{goes_on, stops}
use Rattle.gl_schema.proofs.text.read.Goals as goal

pub loop-at-init : goal.loop-at-init
unfolding schema_of tokens_of
loop-at-init c = record { inside = tt; same = ap (schema_from (length c.args.text.now) (tokens_from Between 0 c.args.text.now)) c.new-reading.ensures }

pub loop-at-preserved : goal.loop-at-preserved
loop-at-preserved c = record {
  inside = c.in_ok-standing.ensures.0;
  same = goes_on c.args.text.now (length c.args.text.now) c.loop-at.at c.loop-at.standing c.loop-at.reading c.in_ok-standing.field-0-0 c.in_ok-standing.field-0-1 (omega arith) c.in_ok-standing.ensures ∙ c.loop-at.invariant.same;
}

pub returns-in_err-standing : goal.returns-in_err-standing
returns-in_err-standing c =
    let failed = subst (Fails c.in_err-standing.field-0.0) c.loop-at.invariant.same (stops c.args.text.now (length c.args.text.now) c.loop-at.at c.loop-at.standing c.loop-at.reading c.in_err-standing.field-0.0 (omega arith) c.in_err-standing.ensures) in
    let p = err_from_is_err_and c.from_residual.result c.from_residual.ensures.1 in rw (p.1, p.2) (failed)
