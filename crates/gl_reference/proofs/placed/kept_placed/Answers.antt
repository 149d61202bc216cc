use Rattle.std.proofs.Common.{◌≡◌, ◌∙◌, ◌++◌, ap, rules, subst, sym}
use Rattle.gl_values.specs.Results.{Row}
use Rattle.gl_schema.specs.Schemas.{IsRowOf}
use Rattle.gl_reference.specs.Fits.{IsRow}
use Rattle.gl_reference.specs.Rows.{reach_seen}
use Rattle.gl_reference.proofs.Placing.{placed_row_seen}
use Rattle.gl_reference.proofs.placed.kept_placed.Goals as goal

pub returns-in_err-ok_or-clause-fits : goal.returns-in_err-ok_or-clause-fits
returns-in_err-ok_or-clause-fits c = λ f s.
    let columns = c.args.seen.columns.now in
    let words = c.args.seen.words.now in
    let fit = placed_row_seen (reach_seen c.args.seen) c.args.rows.now c.loop-row.row-index c.row-item.result c.loop-row-test.true c.row-item.is s in
    let is : c.as_slice-wide.result.now ≡ c.row-item.result.row ++ words =
    c.as_slice-wide.ensures ∙ c.in_ok-joint.ensures ∙ ap (λ (r : Row). r ++ words) c.as_slice-own.ensures in
    let row : IsRow columns c.as_slice-wide.result.now = record { kinds = s.kinds; fits = subst (IsRowOf columns) (sym is) fit } in
    let known = c.keeps.ensures.fits f row in
    search rules
