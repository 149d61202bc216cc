use Rattle.std.proofs.Common.{◌∙◌, ◌+◌, ◌∷◌, [], ◌++◌, List, rules, subst, sym, ap, map, take}
use Rattle.gl_values.specs.Results.{Row}
use Rattle.gl_frames.specs.Frames.{framed}
use Rattle.gl_query.specs.Shapes.{frame_item_shape}
use Rattle.gl_query.specs.Results.{reached_row}
use Rattle.gl_reference.specs.Rows.{AreSeen, reach_seen}
use Rattle.gl_reference.proofs.Framing.{framed_next}
use Rattle.gl_reference.proofs.Seeing.{seen_take}
use Rattle.gl_reference.proofs.frames.framed_rows.Goals as goal

pub loop-number-preserved : goal.loop-number-preserved
loop-number-preserved c =
    let f : List Row → Row = reached_row (reach_seen c.args.seen) (map frame_item_shape c.args.items.now) in
    c.in_ok-push.ensures.ok ∙ ap (λ l. l ++ c.in_ok-reached_row.field-0 ∷ []) c.loop-number.invariant
    ∙ ap (λ r. framed f (take c.loop-number.number c.args.rows.now) ++ r ∷ []) (c.in_ok-reached_row.ensures.value ∙ ap f c.split_at.ensures.front)
    ∙ sym (framed_next f c.args.rows.now c.loop-number.number c.loop-number-test.true)

pub returns-in_err-reached_row-clause-fits : goal.returns-in_err-reached_row-clause-fits
returns-in_err-reached_row-clause-fits c = λ h s.
    let reach = reach_seen c.args.seen in
    let first = subst (AreSeen reach) (sym c.split_at.ensures.front) (seen_take reach (c.loop-number.number + 1) c.args.rows.now s) in
    let known = c.reached_row.ensures.fits h first in
    search rules
