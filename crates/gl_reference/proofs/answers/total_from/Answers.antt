use Rattle.std.proofs.Common.{◌≡◌, ◌∷◌, ◌∙◌, List, [], ap, map, rules, subst, sym}
use Rattle.gl_values.specs.Results.{Row}
use Rattle.gl_schema.specs.declared.schema.Column.{Column}
use Rattle.gl_query.specs.Columns.{reach_of}
use Rattle.gl_query.specs.Results.{columns_in, reach_in, streams_of, total_row, widened, words_in}
use Rattle.gl_query.specs.Shapes.{agg_item_shape, query_shape}
use Rattle.gl_reference.specs.Fits.{AreAggs, AreRows}
use Rattle.gl_reference.specs.Sources.{env_view}
use Rattle.gl_reference.proofs.Seeing.{seen_wide}
use Rattle.gl_reference.proofs.answers.total_from.Goals as goal

pub returns-in_err-row-clause-fits : goal.returns-in_err-row-clause-fits
returns-in_err-row-clause-fits c = λ h s.
    let env = env_view c.args.sources.now in
    let source = query_shape c.args.source.now in
    let columns : c.as_slice-3.result.now ≡ reach_of (streams_of env) (columns_in env source) =
    c.as_slice-3.ensures ∙ c.in_ok-reach.ensures ∙ ap (reach_of (streams_of env)) (c.as_slice.ensures ∙ c.in_ok-columns.ensures) in
    let rows : c.as_slice-4.result.now ≡ widened (words_in env) c.args.from.rows =
    c.as_slice-4.ensures ∙ c.in_ok-wide.ensures ∙ (λ i. widened (c.words_of.ensures i) (c.as_slice-2.ensures i)) in
    let aggs = subst (λ (k : List Column). AreAggs k (map agg_item_shape c.args.aggs.now)) (sym columns) h in
    let given = subst (λ (l : List Row). AreRows (reach_in env source).columns l) (sym rows) (seen_wide (reach_in env source) c.args.from.rows s) in
    let wide = subst (λ (k : List Column). AreRows k c.as_slice-4.result.now) (sym columns) given in
    let known = c.in_err-row.ensures.fits aggs wide in
    search rules

pub returns-clause-value : goal.returns-clause-value
returns-clause-value c =
    let env = env_view c.args.sources.now in
    let source = query_shape c.args.source.now in
    let columns : c.as_slice-3.result.now ≡ reach_of (streams_of env) (columns_in env source) =
    c.as_slice-3.ensures ∙ c.in_ok-reach.ensures ∙ ap (reach_of (streams_of env)) (c.as_slice.ensures ∙ c.in_ok-columns.ensures) in
    let rows : c.as_slice-4.result.now ≡ widened (words_in env) c.args.from.rows =
    c.as_slice-4.ensures ∙ c.in_ok-wide.ensures ∙ (λ i. widened (c.words_of.ensures i) (c.as_slice-2.ensures i)) in
    record {
      rows = c.args.from.rows;
      of_source = c.requires;
      changed = c.in_ok-rows.ensures
          ∙ ap (λ (row : Row). row ∷ []) (c.as_slice-5.ensures ∙ c.in_ok-row.ensures.value ∙ (λ i. total_row (columns i) (map agg_item_shape c.args.aggs.now) (rows i)));
    }
