use Rattle.std.proofs.Common.{◌≡◌, [], Some, refl, sym, ap, ◌∙◌}
use Rattle.gl_algebra.specs.declared.node.PlanNode.TheVariants.{Aggregate}
use Rattle.gl_algebra.specs.Shapes.{kinds_of}
use Rattle.gl_wiring.specs.Lanes.{has_room}
use Rattle.gl_wiring.proofs.CanLemmas.{first_within}
use Rattle.gl_wiring.proofs.GroupLemmas.{in_body}
use Rattle.gl_wiring.proofs.groups.GroupOf.stores.Goals as goal

pub node-requires : goal.node-requires
node-requires c = in_body c.laws_below.ensures c.args.site.plan.now c.args.self.now c.args.site.planned c.requires.node

pub kinds-requires : goal.kinds-requires
kinds-requires c =
    first_within c.args.site.plan.now c.args.self.now.body _ c.node.ensures.plan (c.node.ensures.node ∙ ap Some c.in-Aggregate.is) c.in-Aggregate.child [] refl

pub returns-in-Aggregate : goal.returns-in-Aggregate
returns-in-Aggregate c = λ child aggs at.
    let own = rw (c.kinds.ensures.kinds, c.as_slice.ensures, c.from.ensures) at c.has_room.ensures in
    let same : Aggregate c.in-Aggregate.child c.in-Aggregate.aggs ≡ Aggregate child aggs = (let z = sym (c.node.ensures.node ∙ ap Some c.in-Aggregate.is) ∙ at in cc) in
    let child_is : c.in-Aggregate.child ≡ child = cc in
    let aggs_are : c.in-Aggregate.aggs ≡ aggs = cc in
    own ∙ ap (λ i. has_room (kinds_of c.args.site.plan.now i) c.in-Aggregate.aggs c.args.key) child_is ∙ ap (λ l. has_room (kinds_of c.args.site.plan.now child) l c.args.key) aggs_are

pub returns-in_default : goal.returns-in_default
returns-in_default c = λ child aggs at.
    let same : c.node.result.now ≡ Aggregate child aggs = (let z = sym c.node.ensures.node ∙ at in cc) in
    absurd (c.in_default.not-Aggregate child aggs same)
