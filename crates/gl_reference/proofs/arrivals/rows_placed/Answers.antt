use Rattle.std.proofs.Common.{◌≡◌, ◌∙◌, List, ap, map, refl, sym, subst}
use Rattle.std.specs.Prelude.{option_map}
use Rattle.gl_arrival.specs.Changes.{kept_at, mapped_at}
use Rattle.gl_schema.specs.declared.schema.Column.{Column}
use Rattle.gl_query.specs.Accepted.{IsFilter, IsPick}
use Rattle.gl_query.specs.Columns.{reach_of}
use Rattle.gl_query.specs.Results.{Reach, columns_in, is_kept, kept, picked, reach_in, streams_of}
use Rattle.gl_query.specs.Shapes.{expr_shape, pick_shape, query_shape}
use Rattle.gl_reference.specs.Arrivals.{kept_in, picked_one, rows_in}
use Rattle.gl_reference.specs.Rows.{AreSeen}
use Rattle.gl_reference.specs.Sources.{env_view, placed_of}
use Rattle.gl_reference.proofs.Passing.{passes}
use Rattle.gl_reference.proofs.Placing.{placed_kept, placed_picked, rows_left}
use Rattle.gl_reference.proofs.Seeing.{seen_by, seen_filter}
use Rattle.gl_reference.proofs.arrivals.rows_placed.Goals as goal

pub returns-in_err-kept-clause-fits : goal.returns-in_err-kept-clause-fits
returns-in_err-kept-clause-fits c = λ w s.
    let env = env_view c.args.sources.now in
    let source = query_shape c.args.source.now in
    let own : Reach = seen_by c.as_slice-2.result.now c.words_of.result.now in
    let columns : c.as_slice-2.result.now ≡ reach_of (streams_of env) (columns_in env source) =
    c.as_slice-2.ensures ∙ c.in_ok-reach.ensures ∙ ap (reach_of (streams_of env)) (c.as_slice.ensures ∙ c.in_ok-columns.ensures) in
    let seen : own ≡ reach_in env source = (λ i. seen_by (columns i) (c.words_of.ensures i)) in
    let filter = subst (λ (k : List Column). IsFilter k (option_map expr_shape c.args.filter.now)) (sym columns) w.filters in
    let given = subst (λ (r : Reach). AreSeen r (rows_in c.args.from.rows)) (sym seen) s in
    let fit = subst (λ l. AreSeen own (rows_in l)) (sym c.as_slice-3.ensures) given in
    passes _ c.from_residual-in_err-kept.ensures.1 (λ y e. e ∙ c.in_err-kept.ensures.fits filter fit)

pub returns-in_err-rows-clause-fits : goal.returns-in_err-rows-clause-fits
returns-in_err-rows-clause-fits c = λ w s.
    let env = env_view c.args.sources.now in
    let source = query_shape c.args.source.now in
    let condition = option_map expr_shape c.args.filter.now in
    let own : Reach = seen_by c.as_slice-2.result.now c.words_of.result.now in
    let columns : c.as_slice-2.result.now ≡ reach_of (streams_of env) (columns_in env source) =
    c.as_slice-2.ensures ∙ c.in_ok-reach.ensures ∙ ap (reach_of (streams_of env)) (c.as_slice.ensures ∙ c.in_ok-columns.ensures) in
    let seen : own ≡ reach_in env source = (λ i. seen_by (columns i) (c.words_of.ensures i)) in
    let left : rows_in c.as_slice-4.result.now ≡ kept own condition (rows_in c.args.from.rows) =
    ap rows_in (c.as_slice-4.ensures ∙ c.in_ok-kept.ensures.value ∙ ap (kept_in own condition) c.as_slice-3.ensures) ∙ rows_left (is_kept own condition) c.args.from.rows in
    let pick = subst (λ (k : List Column). IsPick k (pick_shape c.args.pick.now)) (sym columns) w.picks in
    let given = subst (λ (r : Reach). AreSeen r (rows_in c.args.from.rows)) (sym seen) s in
    let fit = subst (AreSeen own) (sym left) (seen_filter own (is_kept own condition) (rows_in c.args.from.rows) given) in
    passes _ c.from_residual-in_err-rows.ensures.1 (λ y e. e ∙ c.in_err-rows.ensures.fits pick fit)

pub returns-clause-value : goal.returns-clause-value
returns-clause-value c =
    let env = env_view c.args.sources.now in
    let source = query_shape c.args.source.now in
    let from = c.args.from in
    let pick = pick_shape c.args.pick.now in
    let condition = option_map expr_shape c.args.filter.now in
    let own : Reach = seen_by c.as_slice-2.result.now c.words_of.result.now in
    let columns : c.as_slice-2.result.now ≡ reach_of (streams_of env) (columns_in env source) =
    c.as_slice-2.ensures ∙ c.in_ok-reach.ensures ∙ ap (reach_of (streams_of env)) (c.as_slice.ensures ∙ c.in_ok-columns.ensures) in
    let seen : own ≡ reach_in env source = (λ i. seen_by (columns i) (c.words_of.ensures i)) in
    let left = c.as_slice-4.ensures ∙ c.in_ok-kept.ensures.value ∙ ap (kept_in own condition) c.as_slice-3.ensures in (
      ap (map placed_of) (c.in_ok-rows.ensures.value ∙ ap (map (picked_one own pick)) left)
          ∙ placed_picked own pick (kept_in own condition from.rows) ∙ ap (mapped_at (picked own pick)) (placed_kept (is_kept own condition) from.rows)
          ∙ ap (λ (r : Reach). mapped_at (picked r pick) (kept_at (is_kept r condition) (map placed_of from.rows))) seen,
      refl,
    )
