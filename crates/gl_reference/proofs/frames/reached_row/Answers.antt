use Rattle.std.proofs.Common.{◌≡◌, ◌∙◌, List, IfOk, map, subst, sym}
use Rattle.gl_values.specs.Results.{Row}
use Rattle.gl_query.specs.Results.{frame_row}
use Rattle.gl_query.specs.Shapes.{frame_item_shape}
use Rattle.gl_reference.specs.Fits.{AreRows}
use Rattle.gl_reference.specs.Rows.{reach_seen}
use Rattle.gl_reference.proofs.Seeing.{seen_wide}
use Rattle.gl_reference.proofs.frames.reached_row.Goals as goal

pub returns-clause-value : goal.returns-clause-value
returns-clause-value c =
    subst (λ (rows : List Row). IfOk c.frame_row.result (λ v. v ≡ frame_row c.args.seen.columns.now (map frame_item_shape c.args.items.now) rows))
    (c.as_slice.ensures ∙ c.in_ok-wide.ensures) c.frame_row.ensures.value

pub returns-clause-fits : goal.returns-clause-fits
returns-clause-fits c = λ h s.
    let wide = c.as_slice.ensures ∙ c.in_ok-wide.ensures in
    c.frame_row.ensures.fits h (subst (AreRows c.args.seen.columns.now) (sym wide) (seen_wide (reach_seen c.args.seen) c.args.rows.now s))
