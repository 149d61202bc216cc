use Rattle.std.proofs.Common.{◌≡◌, ◌∙◌, List, ap, map, option_map, rules, subst, sym}
use Rattle.std.specs.Prelude.{◌||◌}
use Rattle.gl_values.specs.Results.{Row}
use Rattle.gl_schema.specs.declared.schema.Column.{Column}
use Rattle.gl_query.specs.Accepted.{IsFilter}
use Rattle.gl_query.specs.Results.{Reach, kept}
use Rattle.gl_query.specs.Shapes.{expr_shape, frame_item_shape, slots_shape}
use Rattle.gl_reference.specs.Fits.{AreFramesOf}
use Rattle.gl_reference.specs.Frames.{framed_rows, left_out}
use Rattle.gl_reference.specs.Rows.{AreSeen, reach_over}
use Rattle.gl_reference.proofs.Seeing.{seen_by}
use Rattle.gl_reference.proofs.answers.frames_from.Goals as goal

pub returns-clause-value : goal.returns-clause-value
returns-clause-value c =
    let columns = c.args.columns.now in
    let items = map frame_item_shape c.args.framing.items.now in
    let filter = option_map expr_shape c.args.framing.filter.now in
    let slots = option_map slots_shape c.args.framing.slots.now in
    let names = c.as_slice.ensures ∙ c.in_ok-reach.ensures in
    let seen : seen_by c.as_slice.result.now c.words_of.result.now ≡ reach_over c.args.sources.now columns =
    (λ i. seen_by (names i) (c.words_of.ensures i)) in
    let from = c.as_slice-rows.ensures in
    let either : c.if-from.result ≡ (c.args.from.spill || c.in_ok-framed.framed.further) = search rules in (
      c.in_ok-framed.ensures.value.0 ∙ (λ i. framed_rows columns (seen i) items slots (kept (seen i) filter (from i))),
      either ∙ ap (λ b. c.args.from.spill || b) (c.in_ok-framed.ensures.value.1 ∙ (λ j. left_out columns slots (kept (seen j) filter (from j)))),
    )

pub returns-in_err-framed-clause-fits : goal.returns-in_err-framed-clause-fits
returns-in_err-framed-clause-fits c = λ h f p s.
    let columns = c.args.columns.now in
    let names = c.as_slice.ensures ∙ c.in_ok-reach.ensures in
    let seen : seen_by c.as_slice.result.now c.words_of.result.now ≡ reach_over c.args.sources.now columns =
    (λ i. seen_by (names i) (c.words_of.ensures i)) in
    let items = subst (λ (k : List Column). AreFramesOf k (map frame_item_shape c.args.framing.items.now)) (sym names) h in
    let filter = subst (λ (k : List Column). IsFilter k (option_map expr_shape c.args.framing.filter.now)) (sym names) f in
    let given = subst (λ (r : Reach). AreSeen r c.args.from.rows) (sym seen) s in
    let rows = subst (λ (l : List Row). AreSeen (seen_by c.as_slice.result.now c.words_of.result.now) l) (sym c.as_slice-rows.ensures) given in
    let known = c.in_err-framed.ensures.fits items filter p rows in
    search rules
