-- Windows of tuples and of time: what the body makes of each, and that nothing but memory is wanted there.
use Rattle.std.proofs.Common.{◌≡◌, ◌∙◌, List, map, sym, ap, subst, Bor}
use Rattle.gl_values.specs.Lists.{slices}
use Rattle.gl_values.specs.Times.{tslices}
use Rattle.gl_query.specs.declared.tree.Measure.TheVariants.{Tuples, Time}
use Rattle.gl_query.specs.declared.tree.Query.{Query}
use Rattle.gl_query.specs.Shapes.{query_shape}
use Rattle.gl_values.specs.Results.{Row}
use Rattle.gl_query.specs.Results.{IsResultIn, columns_in, ticks_in, times_in}
use Rattle.gl_reference.specs.Sources.{env_view}
use Rattle.gl_reference.proofs.Passing.{each_passes, passes}
use Rattle.gl_reference.proofs.Forms.{each_made}
use Rattle.gl_reference.proofs.results.+results.Goals as goal
use Rattle.gl_reference.proofs.results.+results.Answers.Said.{Accepted, Gives}

pub result_of-returns-in_ok-inside-in-Each-clause-value : goal.result_of-returns-in_ok-inside-in-Each-clause-value
result_of-returns-in_ok-inside-in-Each-clause-value t c =
    let env = env_view c.args.sources.now in
    let from = c.in_ok-from-in-Each.from in
    let is = subst (Gives c.args.sources.now from) c.deref-in-Each.ensures c.in_ok-from-in-Each.ensures.value in
    let columns : c.as_slice-in-Each-3.result.now ≡ columns_in env (query_shape c.in-Each.source.value) =
    c.as_slice-in-Each-3.ensures ∙ c.in_ok-columns-in-Each.ensures ∙ ap (λ (q : Query). columns_in env (query_shape q)) c.deref-in-Each-2.ensures in
    let parts : map (λ (s : Bor (List Row)). s.now) c.as_slice-in-Each-4.result.now ≡ slices c.in-Each.size.value c.in-Each.advance.value from.rows =
    ap (map (λ (s : Bor (List Row)). s.now)) c.as_slice-in-Each-4.ensures.value ∙ c.in_ok-slices-in-Each.ensures.value
    ∙ ap (slices c.in-Each.size.value c.in-Each.advance.value) c.as_slice-in-Each.ensures in
    let made = each_made Tuples env c.in-Each.var.text (query_shape c.in-Each.source.value) c.in-Each.size.value c.in-Each.advance.value (query_shape c.in-Each.body.value) from.rows from.spill _ _ _ _ _ _ _ _ is (ap query_shape c.deref-in-Each-3.ensures) c.as_slice-in-Each-2.ensures columns parts c.in_ok-inside-in-Each.ensures.value c.of_parts.ensures.rows c.of_parts.ensures.spill in
    subst (λ (q : Query). IsResultIn (query_shape q) env c.of_parts.result.rows c.of_parts.result.spill) (sym c.in-Each.is) made

pub result_of-returns-in_err-inside-in-Each-clause-fits : goal.result_of-returns-in_err-inside-in-Each-clause-fits
result_of-returns-in_err-inside-in-Each-clause-fits t c = λ timed s a.
    let env = env_view c.args.sources.now in
    let from = c.in_ok-from-in-Each.from in
    let whole = subst (Accepted c.args.sources.now timed) c.in-Each.is a in
    let is = subst (Gives c.args.sources.now from) c.deref-in-Each.ensures c.in_ok-from-in-Each.ensures.value in
    let columns : c.as_slice-in-Each-3.result.now ≡ columns_in env (query_shape c.in-Each.source.value) =
    c.as_slice-in-Each-3.ensures ∙ c.in_ok-columns-in-Each.ensures ∙ ap (λ (q : Query). columns_in env (query_shape q)) c.deref-in-Each-2.ensures in
    let parts : map (λ (s : Bor (List Row)). s.now) c.as_slice-in-Each-4.result.now ≡ slices c.in-Each.size.value c.in-Each.advance.value from.rows =
    ap (map (λ (s : Bor (List Row)). s.now)) c.as_slice-in-Each-4.ensures.value ∙ c.in_ok-slices-in-Each.ensures.value
    ∙ ap (slices c.in-Each.size.value c.in-Each.advance.value) c.as_slice-in-Each.ensures in
    let want = each_passes c.results_fit.ensures Tuples env timed c.in-Each.var.text (query_shape c.in-Each.source.value) c.in-Each.size.value c.in-Each.advance.value (query_shape c.in-Each.body.value) from.rows from.spill _ _ _ _ _ s whole is (ap query_shape c.deref-in-Each-3.ensures) c.as_slice-in-Each-2.ensures columns parts (c.in_err-inside-in-Each.ensures.fits s) in
    passes _ c.from_residual-in_err-inside-in-Each.ensures.1 (λ y e. e ∙ want)

pub result_of-returns-in_ok-inside-in-EachTime-clause-value : goal.result_of-returns-in_ok-inside-in-EachTime-clause-value
result_of-returns-in_ok-inside-in-EachTime-clause-value t c =
    let env = env_view c.args.sources.now in
    let from = c.in_ok-from-in-EachTime.from in
    let is = subst (Gives c.args.sources.now from) c.deref-in-EachTime.ensures c.in_ok-from-in-EachTime.ensures.value in
    let columns : c.as_slice-in-EachTime-3.result.now ≡ columns_in env (query_shape c.in-EachTime.source.value) =
    c.as_slice-in-EachTime-3.ensures ∙ c.in_ok-columns-in-EachTime.ensures ∙ ap (λ (q : Query). columns_in env (query_shape q)) c.deref-in-EachTime-2.ensures in
    let parts : map (λ (s : Bor (List Row)). s.now) c.as_slice-in-EachTime-4.result.now
    ≡ tslices c.in-EachTime.size.value c.in-EachTime.advance.value (times_in env (query_shape c.in-EachTime.source.value)) (ticks_in env (query_shape c.in-EachTime.source.value)) from.rows =
    ap (map (λ (s : Bor (List Row)). s.now)) c.as_slice-in-EachTime-4.ensures.value ∙ c.in_ok-parts-in-EachTime.ensures ∙ c.as_slice-in-EachTime.ensures ∙ c.in_ok-tables-in-EachTime.ensures.value
    ∙ (λ i. tslices c.in-EachTime.size.value c.in-EachTime.advance.value ((c.clock_of-clock.ensures.times ∙ ap (λ (q : Query). times_in env (query_shape q)) c.deref-in-EachTime-3.ensures) i)
    ((c.clock_of-clock.ensures.ticks ∙ ap (λ (q : Query). ticks_in env (query_shape q)) c.deref-in-EachTime-3.ensures) i) (c.as_slice-rows.ensures i)) in
    let made = each_made Time env c.in-EachTime.var.text (query_shape c.in-EachTime.source.value) c.in-EachTime.size.value c.in-EachTime.advance.value (query_shape c.in-EachTime.body.value) from.rows from.spill _ _ _ _ _ _ _ _ is (ap query_shape c.deref-in-EachTime-4.ensures) c.as_slice-in-EachTime-2.ensures columns parts c.in_ok-inside-in-EachTime.ensures.value c.of_parts-in-EachTime.ensures.rows c.of_parts-in-EachTime.ensures.spill in
    subst (λ (q : Query). IsResultIn (query_shape q) env c.of_parts-in-EachTime.result.rows c.of_parts-in-EachTime.result.spill) (sym c.in-EachTime.is) made

pub result_of-returns-in_err-inside-in-EachTime-clause-fits : goal.result_of-returns-in_err-inside-in-EachTime-clause-fits
result_of-returns-in_err-inside-in-EachTime-clause-fits t c = λ timed s a.
    let env = env_view c.args.sources.now in
    let from = c.in_ok-from-in-EachTime.from in
    let whole = subst (Accepted c.args.sources.now timed) c.in-EachTime.is a in
    let is = subst (Gives c.args.sources.now from) c.deref-in-EachTime.ensures c.in_ok-from-in-EachTime.ensures.value in
    let columns : c.as_slice-in-EachTime-3.result.now ≡ columns_in env (query_shape c.in-EachTime.source.value) =
    c.as_slice-in-EachTime-3.ensures ∙ c.in_ok-columns-in-EachTime.ensures ∙ ap (λ (q : Query). columns_in env (query_shape q)) c.deref-in-EachTime-2.ensures in
    let parts : map (λ (s : Bor (List Row)). s.now) c.as_slice-in-EachTime-4.result.now
    ≡ tslices c.in-EachTime.size.value c.in-EachTime.advance.value (times_in env (query_shape c.in-EachTime.source.value)) (ticks_in env (query_shape c.in-EachTime.source.value)) from.rows =
    ap (map (λ (s : Bor (List Row)). s.now)) c.as_slice-in-EachTime-4.ensures.value ∙ c.in_ok-parts-in-EachTime.ensures ∙ c.as_slice-in-EachTime.ensures ∙ c.in_ok-tables-in-EachTime.ensures.value
    ∙ (λ i. tslices c.in-EachTime.size.value c.in-EachTime.advance.value ((c.clock_of-clock.ensures.times ∙ ap (λ (q : Query). times_in env (query_shape q)) c.deref-in-EachTime-3.ensures) i)
    ((c.clock_of-clock.ensures.ticks ∙ ap (λ (q : Query). ticks_in env (query_shape q)) c.deref-in-EachTime-3.ensures) i) (c.as_slice-rows.ensures i)) in
    let want = each_passes c.results_fit.ensures Time env timed c.in-EachTime.var.text (query_shape c.in-EachTime.source.value) c.in-EachTime.size.value c.in-EachTime.advance.value (query_shape c.in-EachTime.body.value) from.rows from.spill _ _ _ _ _ s whole is (ap query_shape c.deref-in-EachTime-4.ensures) c.as_slice-in-EachTime-2.ensures columns parts (c.in_err-inside-in-EachTime.ensures.fits s) in
    passes _ c.from_residual-in_err-inside-in-EachTime.ensures.1 (λ y e. e ∙ want)
