use Rattle.std.proofs.Common.{◌++◌, ◌∙◌}
use Rattle.gl_plan.specs.Together.{plans_over}
use Rattle.gl_plan.proofs.TogetherLemmas.{roots-within}
use Rattle.gl_plan.proofs.several.elaborated.Goals as goal

pub returns-clause-within : goal.returns-clause-within
returns-clause-within c =
    let schema = c.args.schema.now in
    let statements = c.args.statements.now in
    let put = c.in_ok-put_statements.ensures in
    let none = c.new-plan.ensures in
    let empty = c.new-roots.ensures.items in
    roots-within c.several_are_right.ensures schema statements c.requires _ _ (put.nodes ∙ (λ i. (plans_over (none i) schema statements).nodes))
    (put.roots ∙ (λ i. empty i ++ (plans_over (none i) schema statements).roots))
