use Rattle.std.proofs.Common.{◌≡◌, ◌∙◌, ◌++◌, sym, subst, option_map}
use Rattle.gl_values.specs.Results.{Row}
use Rattle.gl_query.specs.Results.{keeps, kept}
use Rattle.gl_query.specs.Shapes.{expr_shape}
use Rattle.gl_reference.specs.Rows.{AreSeen, reach_seen}
use Rattle.gl_reference.proofs.Seeing.{seen_filter}
use Rattle.gl_reference.proofs.frames.frames_over.Goals as goal

pub returns-clause-fits : goal.returns-clause-fits
returns-clause-fits c = λ h f p r.
    let reach = reach_seen c.args.seen in
    let condition = option_map expr_shape c.args.framing.filter.now in
    let from : c.as_slice-of_rows.result.now ≡ kept reach condition c.args.rows.now = c.as_slice-of_rows.ensures ∙ c.in_ok-from.ensures.value in
    c.parted_rows.ensures.fits h p
    (subst (AreSeen reach) (sym from) (seen_filter reach (λ (row : Row). keeps reach.columns condition (row ++ reach.words)) c.args.rows.now r))
