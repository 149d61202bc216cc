use Rattle.std.proofs.Common.{◌<◌, ◌≡◌, List, ◌∷◌, length, sym, subst, ◌∙◌}
use Rattle.gl_schema.specs.declared.schema.Stream.{Stream}
use Rattle.gl_query.specs.Columns.{parameter_stream}
use Rattle.gl_query.specs.Shapes.{query_shape}
use Rattle.gl_elaborate.specs.Fitting.{CanPlace, PlacedFit}
use Rattle.gl_algebra.specs.Added.{Placed, placed_at}
use Rattle.gl_algebra.specs.Fits.{IsPlan}
use Rattle.gl_elaborate.specs.Plans.{placed, plan_behind, stream_node}
use Rattle.gl_elaborate.proofs.CanLemmas.{can-place}
use Rattle.gl_elaborate.proofs.StatementLemmas.{right-behind}
use Rattle.gl_elaborate.proofs.elaborating.elaborate_into.Goals as goal

pub query_into-requires-clause-can : goal.query_into-requires-clause-can
query_into-requires-clause-can c =
    let statement = c.args.checked.now.statement in
    subst (λ (streams : List Stream). CanPlace streams (query_shape statement.query))
    (sym (λ i. parameter_stream (c.as_slice-2.ensures i) ∷ c.as_slice.ensures i))
    (can-place c.args.checked.now.schema statement c.requires.checked)

pub query_into-requires-clause-fit : goal.query_into-requires-clause-fit
query_into-requires-clause-fit c =
    let schema = c.args.checked.now.schema in
    let statement = c.args.checked.now.statement in
    subst (λ (X : Type 0). X)
    (sym (λ i. PlacedFit (stream_node (c.as_slice.ensures i)) (parameter_stream (c.as_slice-2.ensures i) ∷ c.as_slice.ensures i) (query_shape statement.query) c.args.plan.now))
    (right-behind c.results_are_long.ensures c.args.plan.now schema statement c.requires.checked c.requires.plan).fit

pub returns-clause-within : goal.returns-clause-within
returns-clause-within c =
    let schema = c.args.checked.now.schema in
    let statement = c.args.checked.now.statement in
    let at : placed_at c.query_into.new.plan c.in_ok-root.root ≡ plan_behind c.args.plan.now schema statement =
    c.in_ok-root.ensures.root ∙ (λ i. placed (stream_node (c.as_slice.ensures i)) (parameter_stream (c.as_slice-2.ensures i) ∷ c.as_slice.ensures i) (query_shape statement.query) c.args.plan.now) in
    subst (λ (p : Placed). p.root < length p.nodes) (sym at) (right-behind c.results_are_long.ensures c.args.plan.now schema statement c.requires.checked c.requires.plan).at.within

pub returns-clause-is : goal.returns-clause-is
returns-clause-is c =
    let schema = c.args.checked.now.schema in
    let statement = c.args.checked.now.statement in
    let at : placed_at c.query_into.new.plan c.in_ok-root.root ≡ plan_behind c.args.plan.now schema statement =
    c.in_ok-root.ensures.root ∙ (λ i. placed (stream_node (c.as_slice.ensures i)) (parameter_stream (c.as_slice-2.ensures i) ∷ c.as_slice.ensures i) (query_shape statement.query) c.args.plan.now) in
    subst (λ (p : Placed). IsPlan p.nodes) (sym at) (right-behind c.results_are_long.ensures c.args.plan.now schema statement c.requires.checked c.requires.plan).over.plan
