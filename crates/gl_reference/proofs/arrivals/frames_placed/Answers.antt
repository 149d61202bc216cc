use Rattle.std.proofs.Common.{◌≡◌, ◌∙◌, List, ap, map, sym, subst, IfOk}
use Rattle.std.specs.Prelude.{option_map}
use Rattle.gl_values.specs.Results.{Row}
use Rattle.gl_arrival.specs.Changes.{kept_at}
use Rattle.gl_arrival.specs.Places.{Placed}
use Rattle.gl_schema.specs.declared.schema.Column.{Column}
use Rattle.gl_query.specs.Accepted.{IsFilter}
use Rattle.gl_query.specs.Results.{Reach, is_kept, kept}
use Rattle.gl_query.specs.Shapes.{expr_shape, frame_item_shape, slots_shape}
use Rattle.gl_reference.specs.declared.arrivals.Arrived.{Arrived}
use Rattle.gl_reference.specs.Arrivals.{framed_in, kept_in, rows_in, spills}
use Rattle.gl_reference.specs.Fits.{AreFramesOf}
use Rattle.gl_reference.specs.Rows.{AreSeen, reach_over}
use Rattle.gl_reference.specs.Sources.{placed_of}
use Rattle.gl_reference.proofs.Passing.{passes}
use Rattle.gl_reference.proofs.Placing.{placed_kept, rows_left}
use Rattle.gl_reference.proofs.Seeing.{seen_by, seen_filter}
use Rattle.gl_reference.proofs.arrivals.frames_placed.Goals as goal

pub returns-clause-value : goal.returns-clause-value
returns-clause-value c =
    let columns = c.args.columns.now in
    let from = c.args.from in
    let items = map frame_item_shape c.args.framing.items.now in
    let condition = option_map expr_shape c.args.framing.filter.now in
    let slots = option_map slots_shape c.args.framing.slots.now in
    let own : Reach = seen_by c.as_slice.result.now c.words_of.result.now in
    let names = c.as_slice.ensures ∙ c.in_ok-reach.ensures in
    let seen : own ≡ reach_over c.args.sources.now columns = (λ i. seen_by (names i) (c.words_of.ensures i)) in
    let left : c.in_ok-kept.kept ≡ kept_in own condition from.rows = c.in_ok-kept.ensures.value ∙ ap (kept_in own condition) c.as_slice-2.ensures in
    let places : map placed_of c.in_ok-kept.kept ≡ kept_at (is_kept own condition) (map placed_of from.rows) = ap (map placed_of) left ∙ placed_kept (is_kept own condition) from.rows in
    let rows : rows_in c.in_ok-kept.kept ≡ kept own condition (rows_in from.rows) = ap rows_in left ∙ rows_left (is_kept own condition) from.rows in
    let made = subst (λ (l : List (Placed Row)). IfOk c.parted_placed.result (λ (a : Arrived). (map placed_of a.rows ≡ framed_in columns own items slots l) × (a.spill ≡ spills columns slots from.spill (rows_in c.in_ok-kept.kept)))) places c.parted_placed.ensures.value in
    let told = subst (λ (l : List Row). IfOk c.parted_placed.result (λ (a : Arrived). (map placed_of a.rows ≡ framed_in columns own items slots (kept_at (is_kept own condition) (map placed_of from.rows))) × (a.spill ≡ spills columns slots from.spill l))) rows made in
    subst (λ (r : Reach). IfOk c.parted_placed.result (λ (a : Arrived). (map placed_of a.rows ≡ framed_in columns r items slots (kept_at (is_kept r condition) (map placed_of from.rows))) × (a.spill ≡ spills columns slots from.spill (kept r condition (rows_in from.rows))))) seen told

pub returns-clause-fits : goal.returns-clause-fits
returns-clause-fits c = λ h f p s.
    let columns = c.args.columns.now in
    let from = c.args.from in
    let condition = option_map expr_shape c.args.framing.filter.now in
    let own : Reach = seen_by c.as_slice.result.now c.words_of.result.now in
    let names = c.as_slice.ensures ∙ c.in_ok-reach.ensures in
    let seen : own ≡ reach_over c.args.sources.now columns = (λ i. seen_by (names i) (c.words_of.ensures i)) in
    let left : c.in_ok-kept.kept ≡ kept_in own condition from.rows = c.in_ok-kept.ensures.value ∙ ap (kept_in own condition) c.as_slice-2.ensures in
    let rows : rows_in c.in_ok-kept.kept ≡ kept own condition (rows_in from.rows) = ap rows_in left ∙ rows_left (is_kept own condition) from.rows in
    let items = subst (λ (k : List Column). AreFramesOf k (map frame_item_shape c.args.framing.items.now)) (sym names) h in
    let given = subst (λ (r : Reach). AreSeen r (rows_in from.rows)) (sym seen) s in
    let fit = subst (AreSeen own) (sym rows) (seen_filter own (is_kept own condition) (rows_in from.rows) given) in
    c.parted_placed.ensures.fits items p fit

pub returns-in_err-kept-clause-fits : goal.returns-in_err-kept-clause-fits
returns-in_err-kept-clause-fits c = λ h f p s.
    let columns = c.args.columns.now in
    let own : Reach = seen_by c.as_slice.result.now c.words_of.result.now in
    let names = c.as_slice.ensures ∙ c.in_ok-reach.ensures in
    let seen : own ≡ reach_over c.args.sources.now columns = (λ i. seen_by (names i) (c.words_of.ensures i)) in
    let filter = subst (λ (k : List Column). IsFilter k (option_map expr_shape c.args.framing.filter.now)) (sym names) f in
    let given = subst (λ (r : Reach). AreSeen r (rows_in c.args.from.rows)) (sym seen) s in
    let fit = subst (λ l. AreSeen own (rows_in l)) (sym c.as_slice-2.ensures) given in
    passes _ c.from_residual-in_err-kept.ensures.1 (λ y e. e ∙ c.in_err-kept.ensures.fits filter fit)
