use Rattle.std.proofs.Common.{List, ℕ, subst}
use Rattle.std.specs.Prelude.{IfErr, IfOk}
use Rattle.std.proofs.lemmas.Result.{IfOk-weaker, err_from_is_err_and}
use Rattle.gl_top_explain.specs.Explaining.{IsExplained, IsExplainRefused}
use Rattle.gl_top_explain.specs.Ending.{Unfetched}
use Rattle.gl_top_explain.proofs.Plans.{plan_text_of, query_leaves}
use Rattle.gl_top_explain.proofs.answering.explain_text.Goals as goal

pub returns-in_err-text-clause-leaves : goal.returns-in_err-text-clause-leaves
returns-in_err-text-clause-leaves g c =
    let p = err_from_is_err_and c.from_residual.result c.from_residual.ensures.1 in
    rw (p.1, p.2) (Unfetched c.in_err-text.ensures.leaves)

pub returns-clause-plan : goal.returns-clause-plan
returns-clause-plan g c =
    let told = (g.S.Shelf.state c.args.shelf.now).told in
    let explained = subst (λ (q : List ℕ). IfOk c.explain_query.result (λ v. IsExplained c.args.schema.now q v.items)) c.deref.ensures.value c.explain_query.ensures.explained in
    IfOk-weaker c.explain_query.result _ _ (λ v e. plan_text_of told c.args.words.now c.in_ok-text.text.items c.args.schema.now v.items c.requires.passes c.in_ok-text.ensures.text e) explained

pub returns-clause-leaves : goal.returns-clause-leaves
returns-clause-leaves g c =
    let refused = subst (λ (q : List ℕ). IfErr c.explain_query.result (IsExplainRefused c.args.schema.now q)) c.deref.ensures.value c.explain_query.ensures.refused in
    query_leaves c.args.words.now _ _ c.in_ok-text.text.items c.args.schema.now c.explain_query.result c.in_ok-text.ensures.leaves c.in_ok-text.ensures.text refused
