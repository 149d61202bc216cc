use Rattle.std.proofs.Common.{◌∷◌, [], Some, refl, sym, subst, ap, ◌∙◌}
use Rattle.gl_algebra.specs.Direct.{form_of, is_direct}
use Rattle.gl_algebra.specs.Shapes.{Shape, kinds_of, shape_of}
use Rattle.gl_wiring.specs.Leaves.{HaveLeaves}
use Rattle.gl_wiring.proofs.BodyTables.{table_put}
use Rattle.gl_wiring.proofs.CanLemmas.{first_within}
use Rattle.gl_wiring.proofs.FormLemmas.{direct_is, never, others_not_direct}
use Rattle.gl_rows.proofs.MadeLemmas.{words_kept}
use Rattle.gl_wiring.proofs.lanes.put_table.Goals as goal

pub put_rows-requires-clause-within : goal.put_rows-requires-clause-within
put_rows-requires-clause-within c =
    first_within c.args.site.plan.now c.args.body _ c.node.ensures.plan (c.node.ensures.node ∙ ap Some c.in-Aggregate.is) c.in-Aggregate.child [] refl

pub put_rows-requires-clause-form : goal.put_rows-requires-clause-form
put_rows-requires-clause-form c =
    let follows = c.laws_below.ensures.nodes_follow_tables c.args.site.plan.now c.args.body _ c.node.ensures.plan (c.node.ensures.node ∙ ap Some c.in-Aggregate.is) in
    (direct_is (form_of c.args.site.plan.now c.in-Aggregate.child) (kinds_of c.args.site.plan.now c.in-Aggregate.child) c.in-Aggregate.aggs
    (sym (ap is_direct follows.form) ∙ c.requires.direct)).rows

pub put_rows-requires-clause-leaves : goal.put_rows-requires-clause-leaves
put_rows-requires-clause-leaves c =
    let follows = c.laws_below.ensures.nodes_follow_tables c.args.site.plan.now c.args.body _ c.node.ensures.plan (c.node.ensures.node ∙ ap Some c.in-Aggregate.is) in
    subst (λ (s : Shape). HaveLeaves c.args.net.now (c.args.lane.now ∷ []) s.leaves) follows.shape c.requires.leaves

pub kinds-requires : goal.kinds-requires
kinds-requires c =
    first_within c.args.site.plan.now c.args.body _ c.node.ensures.plan (c.node.ensures.node ∙ ap Some c.in-Aggregate.is) c.in-Aggregate.child [] refl

pub put_states-requires-clause-are_kinds : goal.put_states-requires-clause-are_kinds
put_states-requires-clause-are_kinds c =
    rw c.kinds.ensures.kinds (c.laws_below.ensures.columns_have_kinds c.args.site.plan.now c.in-Aggregate.child c.node.ensures.plan
    (first_within c.args.site.plan.now c.args.body _ c.node.ensures.plan (c.node.ensures.node ∙ ap Some c.in-Aggregate.is) c.in-Aggregate.child [] refl))

pub put_states-requires-clause-aggs : goal.put_states-requires-clause-aggs
put_states-requires-clause-aggs c =
    rw (c.kinds.ensures.kinds, c.as_slice.ensures) ((c.node.ensures.plan.fits c.args.body _ (c.node.ensures.node ∙ ap Some c.in-Aggregate.is)).suits)

pub put_states-requires-clause-some : goal.put_states-requires-clause-some
put_states-requires-clause-some c =
    let follows = c.laws_below.ensures.nodes_follow_tables c.args.site.plan.now c.args.body _ c.node.ensures.plan (c.node.ensures.node ∙ ap Some c.in-Aggregate.is) in
    rw c.as_slice.ensures (direct_is (form_of c.args.site.plan.now c.in-Aggregate.child) (kinds_of c.args.site.plan.now c.in-Aggregate.child) c.in-Aggregate.aggs
    (sym (ap is_direct follows.form) ∙ c.requires.direct)).some'

pub unreachable-requires : goal.unreachable-requires
unreachable-requires c =
    let follows = c.laws_below.ensures.nodes_follow_tables c.args.site.plan.now c.args.body c.node.result.now c.node.ensures.plan c.node.ensures.node in
    never (others_not_direct (shape_of c.args.site.plan.now) (form_of c.args.site.plan.now) c.node.result.now c.in_default.not-Aggregate
    ∙ sym (ap is_direct follows.form) ∙ c.requires.direct)

pub put_states-requires-clause-words : goal.put_states-requires-clause-words
put_states-requires-clause-words c = words_kept c.args.net.now c.put_rows.new.net c.args.site.words.now c.in_ok-below-in-Aggregate.ensures.keeps c.requires.words.held

pub put_states-requires-clause-known : goal.put_states-requires-clause-known
put_states-requires-clause-known c = rw c.as_slice.ensures (c.requires.words.known.each c.args.body _ (c.node.ensures.node ∙ ap Some c.in-Aggregate.is))

pub returns : goal.returns
returns c =
    table_put c.laws_below.ensures c.args.site.plan.now c.args.body c.in-Aggregate.child c.in-Aggregate.aggs c.node.ensures.plan (c.node.ensures.node ∙ ap Some c.in-Aggregate.is)
    c.args.net.now c.put_rows.new.net c.put_states.new.net c.args.lane.now c.args.place c.in_ok-below-in-Aggregate.below c.in_ok-below-in-Aggregate.ensures
    (record { kinds = c.kinds.result; words = c.args.site.words; aggs = c.as_slice.result }) c.kinds.ensures.kinds c.as_slice.ensures c.in_ok-out-in-Aggregate.out
    c.in_ok-out-in-Aggregate.ensures
