use Rattle.std.proofs.Common.{◌≡◌, ◌∙◌, List, Bool, map, sym, ap, subst, IfOk}
use Rattle.std.specs.Prelude.{IsTrue, option_map}
use Rattle.std.proofs.lemmas.Result.{IfOk-weaker}
use Rattle.gl_arrival.specs.Changes.{kept_at, mapped_at}
use Rattle.gl_values.specs.Results.{Row}
use Rattle.gl_asof.specs.AsOf.{JoinBy, as_of, more_keys}
use Rattle.gl_schema.specs.declared.schema.Column.{Column}
use Rattle.gl_query.specs.declared.tree.FrameItem.{FrameItem}
use Rattle.gl_query.specs.declared.tree.Query.{Query}
use Rattle.gl_query.specs.Accepted.{AreSlots, IsAcceptedOver, IsFilter, IsParted, IsRows}
use Rattle.gl_query.specs.Columns.{arrives}
use Rattle.gl_query.specs.Laws.{scope_of}
use Rattle.gl_query.specs.Results.{ArrivesIn, columns_in, join_by, kept, picked, Reach, is_kept, reach_in}
use Rattle.gl_query.specs.Shapes.{expr_shape, frame_item_shape, pick_shape, query_shape, slots_shape}
use Rattle.gl_query.specs.Shapes as shape
use Rattle.gl_reference.specs.declared.arrivals.Arrived.{Arrived}
use Rattle.gl_reference.specs.declared.columns.Source.{Source as Given}
use Rattle.gl_reference.specs.Arrivals.{framed_in, rows_in, spills}
use Rattle.gl_reference.specs.Fits.{AreFramesOf, IsOrMemory}
use Rattle.gl_reference.specs.Rows.{AreSeen, reach_over}
use Rattle.gl_reference.specs.Sources.{HasArrived, env_view, placed_of}
use Rattle.gl_reference.proofs.Arriving.{arrived_fit, as_of_arrived, frames_arrived, rows_arrived}
use Rattle.gl_reference.proofs.Passing.{passes}
use Rattle.gl_reference.proofs.Seeing.{rows_seen}
use Rattle.gl_reference.proofs.arrivals.+arrivals.Goals as goal

-- a query is accepted over sources, each of its rows comes of one row that came, and an answer is its result with places
abbrev Accepted : List Given → Bool → Query → Type 0
Accepted sources timed q = IsAcceptedOver (scope_of (env_view sources) timed) (query_shape q)

abbrev Arrives : Query → Type 0
Arrives q = IsTrue (arrives (query_shape q))

abbrev Came : List Given → Arrived → Query → Type 0
Came sources a q = HasArrived sources (query_shape q) a

pub arrival_of-returns-in_ok-from-in-Rows-clause-value : goal.arrival_of-returns-in_ok-from-in-Rows-clause-value
arrival_of-returns-in_ok-from-in-Rows-clause-value t c =
    let env = env_view c.args.sources.now in
    let from = c.in_ok-from-in-Rows.from in
    let source = query_shape c.in-Rows.source.value in
    let reach : Reach = reach_in env source in
    let pick = pick_shape c.in-Rows.pick in
    let filter = option_map expr_shape c.in-Rows.filter in
    let is = subst (Came c.args.sources.now from) c.deref.ensures c.in_ok-from-in-Rows.ensures.value in
    let known = subst (λ (q : Query). let r : Reach = reach_in env (query_shape q) in
    IfOk c.rows_placed.result (λ (a : Arrived). (map placed_of a.rows ≡ mapped_at (picked r pick) (kept_at (is_kept r filter) (map placed_of from.rows))) × (a.spill ≡ from.spill))) c.deref-in-Rows.ensures c.rows_placed.ensures.value in
    let made = IfOk-weaker c.rows_placed.result (λ (a : Arrived). (map placed_of a.rows ≡ mapped_at (picked reach pick) (kept_at (is_kept reach filter) (map placed_of from.rows))) × (a.spill ≡ from.spill)) (λ (a : Arrived). ArrivesIn (shape.Rows pick filter source) env (map placed_of a.rows) a.spill)
    (λ (a : Arrived) facts. rows_arrived env pick filter source (map placed_of from.rows) from.spill (map placed_of a.rows) a.spill is facts) known in
    subst (λ (q : Query). IfOk c.rows_placed.result (λ a. Came c.args.sources.now a q)) (sym c.in-Rows.is) made

pub arrival_of-returns-in_ok-columns-in-Frames-clause-value : goal.arrival_of-returns-in_ok-columns-in-Frames-clause-value
arrival_of-returns-in_ok-columns-in-Frames-clause-value t c =
    let env = env_view c.args.sources.now in
    let from = c.in_ok-from-in-Frames.from in
    let source = query_shape c.in-Frames.source.value in
    let columns = c.as_slice-columns.result.now in
    let reach : Reach = reach_over c.args.sources.now columns in
    let items = map frame_item_shape c.as_slice-items.result.now in
    let filter = option_map expr_shape c.in-Frames.filter in
    let slots = option_map slots_shape c.in-Frames.slots in
    let is = subst (Came c.args.sources.now from) c.deref-in-Frames.ensures c.in_ok-from-in-Frames.ensures.value in
    let known : columns ≡ columns_in env source =
    c.as_slice-columns.ensures ∙ c.in_ok-columns-in-Frames.ensures ∙ ap (λ (q : Query). columns_in env (query_shape q)) c.deref-in-Frames-2.ensures in
    let made = IfOk-weaker c.frames_placed.result (λ (a : Arrived). (map placed_of a.rows ≡ framed_in columns reach items slots (kept_at (is_kept reach filter) (map placed_of from.rows))) × (a.spill ≡ spills columns slots from.spill (kept reach filter (rows_in from.rows)))) (λ (a : Arrived). ArrivesIn (shape.Frames items filter slots source) env (map placed_of a.rows) a.spill)
    (λ (a : Arrived) facts. frames_arrived env items filter slots source from.rows from.spill columns (map placed_of a.rows) a.spill is known facts) c.frames_placed.ensures.value in
    let all = subst (λ (l : List FrameItem). IfOk c.frames_placed.result (λ a. ArrivesIn (shape.Frames (map frame_item_shape l) filter slots source) env (map placed_of a.rows) a.spill)) c.as_slice-items.ensures made in
    subst (λ (q : Query). IfOk c.frames_placed.result (λ a. Came c.args.sources.now a q)) (sym c.in-Frames.is) all

pub arrival_of-returns-in_err-from-in-Rows-clause-fits : goal.arrival_of-returns-in_err-from-in-Rows-clause-fits
arrival_of-returns-in_err-from-in-Rows-clause-fits t c = λ timed r s a.
    let whole = subst (Accepted c.args.sources.now timed) c.in-Rows.is a in
    let came = subst Arrives c.in-Rows.is r in
    let part = subst (Accepted c.args.sources.now timed) (sym c.deref.ensures) whole.0 in
    let of_part = subst Arrives (sym c.deref.ensures) came in
    passes _ c.from_residual.ensures.1 (λ y e. e ∙ c.in_err-from-in-Rows.ensures.fits timed of_part s part)

pub arrival_of-returns-in_err-from-in-Frames-clause-fits : goal.arrival_of-returns-in_err-from-in-Frames-clause-fits
arrival_of-returns-in_err-from-in-Frames-clause-fits t c = λ timed r s a.
    let whole = subst (Accepted c.args.sources.now timed) c.in-Frames.is a in
    let came = subst Arrives c.in-Frames.is r in
    let part = subst (Accepted c.args.sources.now timed) (sym c.deref-in-Frames.ensures) whole.0 in
    let of_part = subst Arrives (sym c.deref-in-Frames.ensures) came in
    passes _ c.from_residual-in_err-from-in-Frames.ensures.1 (λ y e. e ∙ c.in_err-from-in-Frames.ensures.fits timed of_part s part)

pub arrival_of-returns-in_ok-from-in-Rows-clause-fits : goal.arrival_of-returns-in_ok-from-in-Rows-clause-fits
arrival_of-returns-in_ok-from-in-Rows-clause-fits t c = λ timed r s a.
    let env = env_view c.args.sources.now in
    let from = c.in_ok-from-in-Rows.from in
    let source = query_shape c.in-Rows.source.value in
    let whole = subst (Accepted c.args.sources.now timed) c.in-Rows.is a in
    let came = subst Arrives c.in-Rows.is r in
    let is = subst (Came c.args.sources.now from) c.deref.ensures c.in_ok-from-in-Rows.ensures.value in
    let pass = subst (λ (q : Query). let r : Reach = reach_in env (query_shape q) in
    IsRows r.columns (pick_shape c.in-Rows.pick) (option_map expr_shape c.in-Rows.filter) → AreSeen r (rows_in from.rows) → IsOrMemory c.rows_placed.result) c.deref-in-Rows.ensures c.rows_placed.ensures.fits in
    pass whole.1 (rows_seen env timed source (rows_in from.rows) s (arrived_fit c.arrivals_are_results.ensures c.results_fit.ensures env timed source from.rows from.spill came s whole.0 is))

pub arrival_of-returns-in_ok-columns-in-Frames-clause-fits : goal.arrival_of-returns-in_ok-columns-in-Frames-clause-fits
arrival_of-returns-in_ok-columns-in-Frames-clause-fits t c = λ timed r s a.
    let env = env_view c.args.sources.now in
    let from = c.in_ok-from-in-Frames.from in
    let source = query_shape c.in-Frames.source.value in
    let whole = subst (Accepted c.args.sources.now timed) c.in-Frames.is a in
    let came = subst Arrives c.in-Frames.is r in
    let is = subst (Came c.args.sources.now from) c.deref-in-Frames.ensures c.in_ok-from-in-Frames.ensures.value in
    let known : c.as_slice-columns.result.now ≡ columns_in env source =
    c.as_slice-columns.ensures ∙ c.in_ok-columns-in-Frames.ensures ∙ ap (λ (q : Query). columns_in env (query_shape q)) c.deref-in-Frames-2.ensures in
    let pass = subst (λ (k : List Column). let r : Reach = reach_over c.args.sources.now k in
    AreFramesOf r.columns (map frame_item_shape c.as_slice-items.result.now) → IsFilter r.columns (option_map expr_shape c.in-Frames.filter) → IsParted k (option_map slots_shape c.in-Frames.slots) → AreSeen r (rows_in from.rows) → IsOrMemory c.frames_placed.result) known c.frames_placed.ensures.fits in
    let items = subst (λ (l : List FrameItem). AreFramesOf (reach_in env source).columns (map frame_item_shape l)) (sym c.as_slice-items.ensures) whole.1.typed in
    pass items whole.1.filters whole.1.parted
    (rows_seen env timed source (rows_in from.rows) s (arrived_fit c.arrivals_are_results.ensures c.results_fit.ensures env timed source from.rows from.spill came s whole.0 is))

pub as_of-returns-clause-value : goal.as_of-returns-clause-value
as_of-returns-clause-value t c =
    let env = env_view c.args.sources.now in
    let l = query_shape c.args.left.now in
    let r = query_shape c.args.right.now in
    let slots = slots_shape c.args.slots.now in
    let first = c.in_ok-first.first in
    let second = c.in_ok-second.second in
    let of_left = c.as_slice-of_left.ensures ∙ c.in_ok-lefts.ensures in
    let of_right = c.as_slice-of_right.ensures ∙ c.in_ok-rights.ensures in
    let by : JoinBy Row Row Row = join_by c.as_slice-of_left.result.now c.as_slice-of_right.result.now slots in
    let made = c.in_ok-made.made in
    let both : (map placed_of made.rows ≡ as_of by (map placed_of first.rows) (map placed_of second.rows)) × (made.further ≡ more_keys by (map placed_of first.rows) (map placed_of second.rows)) = (
      c.in_ok-made.ensures.value.0 ∙ (λ j. as_of by (map placed_of (c.as_slice-left_rows.ensures j)) (map placed_of (c.as_slice-right_rows.ensures j))),
      c.in_ok-made.ensures.value.1 ∙ (λ j. more_keys by (map placed_of (c.as_slice-left_rows.ensures j)) (map placed_of (c.as_slice-right_rows.ensures j))),
    ) in
    as_of_arrived env l r slots (map placed_of first.rows) (map placed_of second.rows) first.spill second.spill c.as_slice-of_left.result.now c.as_slice-of_right.result.now
    (map placed_of made.rows) made.further c.is_any-spill.result c.in_ok-first.ensures.value c.in_ok-second.ensures.value of_left of_right both c.is_any-spill.ensures

pub as_of-returns-in_err-made-clause-fits : goal.as_of-returns-in_err-made-clause-fits
as_of-returns-in_err-made-clause-fits t c = λ timed s a.
    let known = c.as_slice-of_left.ensures ∙ c.in_ok-lefts.ensures in
    let kept = subst (λ (k : List Column). AreSlots k (slots_shape c.args.slots.now)) (sym known) a.3.of_left in
    passes _ c.from_residual-in_err-made.ensures.1 (λ y e. e ∙ c.in_err-made.ensures.fits kept)
