use Rattle.std.proofs.Common.{◌≡◌, ◌∙◌, List, ap, map, option_map, rules, subst, sym}
use Rattle.gl_values.specs.Results.{Row}
use Rattle.gl_schema.specs.declared.schema.Column.{Column}
use Rattle.gl_query.specs.Accepted.{IsRows}
use Rattle.gl_query.specs.Columns.{reach_of}
use Rattle.gl_query.specs.Results.{Reach, columns_in, kept, picked, reach_in, streams_of}
use Rattle.gl_query.specs.Shapes.{expr_shape, pick_shape, query_shape}
use Rattle.gl_reference.specs.Rows.{AreSeen}
use Rattle.gl_reference.specs.Sources.{env_view}
use Rattle.gl_reference.proofs.Seeing.{seen_by}
use Rattle.gl_reference.proofs.answers.rows_from.Goals as goal

pub returns-clause-value : goal.returns-clause-value
returns-clause-value c =
    let env = env_view c.args.sources.now in
    let source = query_shape c.args.source.now in
    let pick = pick_shape c.args.pick.now in
    let filter = option_map expr_shape c.args.filter.now in
    let columns : c.as_slice-2.result.now ≡ reach_of (streams_of env) (columns_in env source) =
    c.as_slice-2.ensures ∙ c.in_ok-reach.ensures ∙ ap (reach_of (streams_of env)) (c.as_slice.ensures ∙ c.in_ok-columns.ensures) in
    let seen : seen_by c.as_slice-2.result.now c.words_of.result.now ≡ reach_in env source =
    (λ i. seen_by (columns i) (c.words_of.ensures i)) in
    record {
      rows = c.args.from.rows;
      of_source = c.requires;
      changed = c.in_ok-rows.ensures.value
          ∙ (λ i. map (picked (seen i) pick) (kept (seen i) filter (c.as_slice-3.ensures i)));
    }

pub returns-in_err-rows-clause-fits : goal.returns-in_err-rows-clause-fits
returns-in_err-rows-clause-fits c = λ h s.
    let env = env_view c.args.sources.now in
    let source = query_shape c.args.source.now in
    let columns : c.as_slice-2.result.now ≡ reach_of (streams_of env) (columns_in env source) =
    c.as_slice-2.ensures ∙ c.in_ok-reach.ensures ∙ ap (reach_of (streams_of env)) (c.as_slice.ensures ∙ c.in_ok-columns.ensures) in
    let seen : seen_by c.as_slice-2.result.now c.words_of.result.now ≡ reach_in env source =
    (λ i. seen_by (columns i) (c.words_of.ensures i)) in
    let takes = subst (λ (k : List Column). IsRows k (pick_shape c.args.pick.now) (option_map expr_shape c.args.filter.now)) (sym columns) h in
    let given = subst (λ (r : Reach). AreSeen r c.args.from.rows) (sym seen) s in
    let rows = subst (λ (l : List Row). AreSeen (seen_by c.as_slice-2.result.now c.words_of.result.now) l) (sym c.as_slice-3.ensures) given in
    let known = c.in_err-rows.ensures.fits takes rows in
    search rules
