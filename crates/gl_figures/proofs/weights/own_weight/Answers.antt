use Rattle.std.proofs.Common.{◌+◌, ◌*◌, sum_by, ◌∙◌}
use Rattle.gl_algebra.specs.FigureTable.{delay_of_aggs}
use Rattle.gl_algebra.specs.Weights.{weight_by_key, weight_of_agg}
use Rattle.gl_figures.proofs.weights.own_weight.Goals as goal

pub returns-in-Frames-clause-value : goal.returns-in-Frames-clause-value
returns-in-Frames-clause-value c =
    rw c.in-Frames.is
    (c.weight_by_key.ensures.value ∙ (λ i. weight_by_key (c.kinds.ensures.kinds i) c.args.own c.in-Frames.by (c.as_slice.ensures i)))

pub returns-in-Aggregate-clause-value : goal.returns-in-Aggregate-clause-value
returns-in-Aggregate-clause-value c =
    let kinds = c.kinds-kinds.ensures.kinds in
    let aggs = c.as_slice-in-Aggregate.ensures in
    let behind = c.as_slice-in-Aggregate-2.ensures in
    let delay = c.delay_of_aggs-delay.ensures ∙ (λ i. delay_of_aggs (kinds i) (aggs i)) in
    let parts = c.weight_of_aggs.ensures.value ∙ (λ i. sum_by (λ agg. 2 * delay i + weight_of_agg (kinds i) agg) (behind i)) in
    rw c.in-Aggregate.is (λ i. 4 * c.args.own + parts i)
