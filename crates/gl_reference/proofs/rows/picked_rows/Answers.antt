use Rattle.std.proofs.Common.{◌≡◌, ◌∙◌, ◌++◌, ap, rules, subst, sym}
use Rattle.gl_values.specs.Results.{Row}
use Rattle.gl_schema.specs.Schemas.{IsRowOf}
use Rattle.gl_reference.specs.Fits.{IsRow}
use Rattle.gl_reference.proofs.Fitting.{all_place}
use Rattle.gl_reference.proofs.rows.picked_rows.Goals as goal

pub returns-in_err-ok_or-clause-fits : goal.returns-in_err-ok_or-clause-fits
returns-in_err-ok_or-clause-fits c = λ h s.
    let columns = c.args.seen.columns.now in
    let words = c.args.seen.words.now in
    let fit = all_place (λ (x : Row). IsRowOf columns (x ++ words)) c.args.rows.now c.loop-row.row-index c.row-item.result c.loop-row-test.true c.row-item.is s.fit in
    let is : c.as_slice-wide.result.now ≡ c.row-item.result ++ words =
    c.as_slice-wide.ensures ∙ c.in_ok-joint.ensures ∙ ap (λ (r : Row). r ++ words) c.as_slice-own.ensures in
    let row : IsRow columns c.as_slice-wide.result.now = record { kinds = s.kinds; fits = subst (IsRowOf columns) (sym is) fit } in
    let known = c.keeps.ensures.fits h.filters row in
    search rules

pub returns-in_err-picked_row-clause-fits : goal.returns-in_err-picked_row-clause-fits
returns-in_err-picked_row-clause-fits c = λ h s.
    let columns = c.args.seen.columns.now in
    let words = c.args.seen.words.now in
    let fit = all_place (λ (x : Row). IsRowOf columns (x ++ words)) c.args.rows.now c.loop-row.row-index c.row-item.result c.loop-row-test.true c.row-item.is s.fit in
    let is : c.as_slice-wide.result.now ≡ c.row-item.result ++ words =
    c.as_slice-wide.ensures ∙ c.in_ok-joint.ensures ∙ ap (λ (r : Row). r ++ words) c.as_slice-own.ensures in
    let row : IsRow columns c.as_slice-wide.result.now = record { kinds = s.kinds; fits = subst (IsRowOf columns) (sym is) fit } in
    let known = c.picked_row.ensures.fits h.picks row in
    search rules
