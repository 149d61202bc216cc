mod Said
mod Windows
mod Groups
use Rattle.std.proofs.Common.{◌≡◌, ◌+◌, ◌++◌, ◌∙◌, List, [], ◌∷◌, Bool, false, take, map, sym, ap, subst, IfOk, Bor}
use Rattle.std.specs.Prelude.{◌||◌, option_map}
use Rattle.std.proofs.lemmas.List.{take_all}
use Rattle.std.proofs.lemmas.Result.{IfOk-weaker}
use Rattle.std.specs.List.{AllByRecursion}
use Rattle.gl_values.specs.Lists.{slices}
use Rattle.gl_values.specs.declared.lists.Group.{Group}
use Rattle.gl_schema.specs.declared.schema.Column.{Column}
use Rattle.gl_query.specs.declared.tree.Query.{Query}
use Rattle.gl_query.specs.declared.tree.AggItem.{AggItem}
use Rattle.gl_query.specs.declared.tree.FrameItem.{FrameItem}
use Rattle.gl_query.specs.declared.tree.Slots.{Slots}
use Rattle.gl_query.specs.Shapes.{agg_item_shape, expr_shape, frame_item_shape, pick_shape, query_shape, slots_shape}
use Rattle.gl_query.specs.Shapes as shape
use Rattle.gl_values.specs.Results.{Row, AreBeside, AreJoined}
use Rattle.gl_bits.proofs.AllLists.{all_of_mapped, taken_next}
use Rattle.gl_schema.specs.Schemas.{IsRowOf}
use Rattle.gl_query.specs.Accepted.{IsAcceptedOver, IsFilter, IsParted, IsRows}
use Rattle.gl_query.specs.Laws.{scope_of}
use Rattle.gl_query.specs.Columns.{parameters_in}
use Rattle.gl_query.specs.Results.{Env, IsResultIn, Source, columns_in, kept, only, parameter_source, reach_in, streams_of, variable_source, words_in}
use Rattle.gl_reference.specs.declared.answers.Answer.{Answer}
use Rattle.gl_reference.specs.declared.arrivals.Arrived.{Arrived}
use Rattle.gl_reference.specs.Sources.{HasArrived, env_view, placed_of, source_of}
use Rattle.gl_reference.specs.Joins.{AreOverGroups, AreOverSlices, IsOverGroup}
use Rattle.gl_reference.specs.Frames.{framed_rows, left_out}
use Rattle.gl_reference.specs.Fits.{AreAggs, AreFramesOf, IsOrMemory}
use Rattle.gl_reference.specs.Rows.{AreSeen, reach_over}
use Rattle.gl_reference.proofs.Fitting.{all_place, body_passes, one_length, rows_fit}
use Rattle.gl_reference.proofs.Passing.{passes}
use Rattle.gl_reference.proofs.Joining.{joined_push, map_taken}
use Rattle.gl_reference.proofs.Forms.{arrived_made, as_of_made, concat_made, frames_made, union_made}
use Rattle.gl_reference.proofs.Seeing.{rows_seen}
use Rattle.gl_reference.proofs.results.+results.Goals as goal
use Rattle.gl_reference.specs.declared.columns.Source.{Source as Given}
use Rattle.gl_reference.proofs.results.+results.Answers.Said.{Accepted, Gives}
use Rattle.gl_reference.proofs.results.+results.Answers.Windows as windows
use Rattle.gl_reference.proofs.results.+results.Answers.Groups as groups

abbrev IsArrivedIn : List Given → Arrived → Query → Query → Type 0
IsArrivedIn sources a l r = HasArrived sources (shape.ByArrival (query_shape l) (query_shape r)) a

abbrev IsJoinedIn : List Given → Arrived → Query → Query → Slots → Type 0
IsJoinedIn sources a l r s = HasArrived sources (shape.AsOf (query_shape l) (query_shape r) (slots_shape s)) a

-- the parameters of an environment as a source
abbrev parameters_from : Env → Source
parameters_from env = parameter_source (parameters_in (streams_of env)) (words_in env)

pub over_groups-loop-group-preserved : goal.over_groups-loop-group-preserved
over_groups-loop-group-preserved t c =
    let env = env_view c.args.sources.now in
    let over = IsOverGroup (query_shape c.args.body.now) env c.args.var.now c.args.columns.now in
    let outer : source_of c.parameters_as-outer.result ≡ parameters_from env =
    c.parameters_as-outer.ensures (words_in env) (c.as_slice-words.ensures ∙ c.in_ok-table.ensures)
    ∙ ap (λ (ps : List Column). parameter_source ps (words_in env)) (c.as_slice-parameters.ensures ∙ c.in_ok-names.ensures) in
    let given = subst (λ (s : Source). IsResultIn (query_shape c.args.body.now) (s ∷ variable_source c.args.var.now c.args.columns.now c.as_slice.result.now ∷ []) c.in_ok-part.part.rows c.in_ok-part.part.spill) outer c.in_ok-part.ensures.value in
    let is = subst (λ (rows : List Row). IsResultIn (query_shape c.args.body.now) (only env c.args.var.now c.args.columns.now rows) c.in_ok-part.part.rows c.in_ok-part.part.spill) c.as_slice.ensures given in
    let made : c.in_ok-keyed.keyed ≡ map (λ (row : Row). c.group-item.result.key ∷ row) c.in_ok-part.part.rows =
    c.in_ok-keyed.ensures ∙ ap (map (λ (row : Row). c.group-item.result.key ∷ row)) c.as_slice-in-loop-group.ensures in
    let here : over c.group-item.result c.in_ok-keyed.keyed c.in_ok-part.part.spill = record { rows = c.in_ok-part.part.rows; of_source = is; changed = made } in
    let more = joined_push over (take c.loop-group.group-index c.args.groups.now) c.group-item.result c.loop-group.rows c.in_ok-keyed.keyed c.loop-group.spill c.in_ok-part.part.spill c.loop-group.invariant here in
    let next = taken_next c.args.groups.now c.loop-group.group-index c.group-item.result c.loop-group-test.true c.group-item.is in
    let grown = subst (λ (gs : List Group). AreJoined over gs (c.loop-group.rows ++ c.in_ok-keyed.keyed) (c.loop-group.spill || c.in_ok-part.part.spill)) (sym next) more in
    subst (λ (rows : List Row). AreJoined over (take (c.loop-group.group-index + 1) c.args.groups.now) rows (c.loop-group.spill || c.in_ok-part.part.spill)) (sym c.in_ok-rows.ensures) grown

pub over_groups-returns-clause-value : goal.over_groups-returns-clause-value
over_groups-returns-clause-value t c = subst (λ (gs : List Group). AreOverGroups (query_shape c.args.body.now) (env_view c.args.sources.now) c.args.var.now c.args.columns.now gs c.loop-group.rows c.loop-group.spill) (take_all c.loop-group.group-index c.args.groups.now c.loop-group-test.false) c.loop-group.invariant

pub over_slices-loop-slice-preserved : goal.over_slices-loop-slice-preserved
over_slices-loop-slice-preserved t c =
    let env = env_view c.args.sources.now in
    let over : List Row → List Row → Bool → Type 0 = λ rows. IsResultIn (query_shape c.args.body.now) (only env c.args.var.now c.args.columns.now rows) in
    let outer : source_of c.parameters_as-outer.result ≡ parameters_from env =
    c.parameters_as-outer.ensures (words_in env) (c.as_slice-words.ensures ∙ c.in_ok-table.ensures)
    ∙ ap (λ (ps : List Column). parameter_source ps (words_in env)) (c.as_slice-parameters.ensures ∙ c.in_ok-names.ensures) in
    let is = subst (λ (s : Source). IsResultIn (query_shape c.args.body.now) (s ∷ variable_source c.args.var.now c.args.columns.now c.slice-item.result.now ∷ []) c.in_ok-part.part.rows c.in_ok-part.part.spill) outer c.in_ok-part.ensures.value in
    let now : Bor (List Row) → List Row = λ s. s.now in
    let more = joined_push over (map now (take c.loop-slice.slice-index c.args.slices.now)) c.slice-item.result.now c.loop-slice.rows c.in_ok-part.part.rows c.loop-slice.spill c.in_ok-part.part.spill c.loop-slice.invariant is in
    let next = map_taken now c.args.slices.now c.loop-slice.slice-index c.slice-item.result c.loop-slice-test.true c.slice-item.is in
    let grown = subst (λ (parts : List (List Row)). AreJoined over parts (c.loop-slice.rows ++ c.in_ok-part.part.rows) (c.loop-slice.spill || c.in_ok-part.part.spill)) (sym next) more in
    subst (λ (rows : List Row). AreJoined over (map now (take (c.loop-slice.slice-index + 1) c.args.slices.now)) rows (c.loop-slice.spill || c.in_ok-part.part.spill)) (sym c.in_ok-rows.ensures) grown

pub over_slices-returns-clause-value : goal.over_slices-returns-clause-value
over_slices-returns-clause-value t c = subst (λ (ss : List (Bor (List Row))). AreOverSlices (query_shape c.args.body.now) (env_view c.args.sources.now) c.args.var.now c.args.columns.now (map (λ s. s.now) ss) c.loop-slice.rows c.loop-slice.spill) (take_all c.loop-slice.slice-index c.args.slices.now c.loop-slice-test.false) c.loop-slice.invariant

pub result_of-returns-in-Read-clause-value : goal.result_of-returns-in-Read-clause-value
result_of-returns-in-Read-clause-value t c = subst (λ (q : Query). IfOk c.read.result (λ a. IsResultIn (query_shape q) (env_view c.args.sources.now) a.rows a.spill)) (sym c.in-Read.is) c.read.ensures.value

pub result_of-returns-in_ok-from-in-Rows-clause-value : goal.result_of-returns-in_ok-from-in-Rows-clause-value
result_of-returns-in_ok-from-in-Rows-clause-value t c =
    let made = subst (λ (q : Query). IfOk c.rows_from.result (λ a. IsResultIn (shape.Rows (pick_shape c.in-Rows.pick) (option_map expr_shape c.in-Rows.filter) (query_shape q)) (env_view c.args.sources.now) a.rows a.spill)) c.deref-in-Rows.ensures c.rows_from.ensures.value in
    subst (λ (q : Query). IfOk c.rows_from.result (λ a. IsResultIn (query_shape q) (env_view c.args.sources.now) a.rows a.spill)) (sym c.in-Rows.is) made

pub result_of-returns-in_ok-from-in-Total-clause-value : goal.result_of-returns-in_ok-from-in-Total-clause-value
result_of-returns-in_ok-from-in-Total-clause-value t c =
    let made = subst (λ (q : Query). IfOk c.total_from.result (λ a. IsResultIn (shape.Total (map agg_item_shape c.as_slice.result.now) (query_shape q)) (env_view c.args.sources.now) a.rows a.spill)) c.deref-in-Total-2.ensures c.total_from.ensures.value in
    let all = subst (λ (aggs : List AggItem). IfOk c.total_from.result (λ a. IsResultIn (shape.Total (map agg_item_shape aggs) (query_shape c.in-Total.source.value)) (env_view c.args.sources.now) a.rows a.spill)) c.as_slice.ensures made in
    subst (λ (q : Query). IfOk c.total_from.result (λ a. IsResultIn (query_shape q) (env_view c.args.sources.now) a.rows a.spill)) (sym c.in-Total.is) all

pub result_of-returns-in_ok-columns-in-Frames-clause-value : goal.result_of-returns-in_ok-columns-in-Frames-clause-value
result_of-returns-in_ok-columns-in-Frames-clause-value t c =
    let env = env_view c.args.sources.now in
    let from = c.in_ok-from-in-Frames.from in
    let source = query_shape c.in-Frames.source.value in
    let columns = c.as_slice-in-Frames.result.now in
    let reach = reach_over c.args.sources.now columns in
    let items = map frame_item_shape c.as_slice-in-Frames-2.result.now in
    let filter = option_map expr_shape c.in-Frames.filter in
    let slots = option_map slots_shape c.in-Frames.slots in
    let is = subst (Gives c.args.sources.now from) c.deref-in-Frames.ensures c.in_ok-from-in-Frames.ensures.value in
    let known : columns ≡ columns_in env source =
    c.as_slice-in-Frames.ensures ∙ c.in_ok-columns-in-Frames.ensures ∙ ap (λ (q : Query). columns_in env (query_shape q)) c.deref-in-Frames-2.ensures in
    let made = IfOk-weaker c.frames_from.result (λ (a : Answer). (a.rows ≡ framed_rows columns reach items slots (kept reach filter from.rows)) × (a.spill ≡ (from.spill || left_out columns slots (kept reach filter from.rows)))) (λ (a : Answer). IsResultIn (shape.Frames items filter slots source) env a.rows a.spill)
    (λ (a : Answer) facts. frames_made env items filter slots source from.rows from.spill columns a.rows a.spill is known facts) c.frames_from.ensures.value in
    let all = subst (λ (l : List FrameItem). IfOk c.frames_from.result (λ a. IsResultIn (shape.Frames (map frame_item_shape l) filter slots source) env a.rows a.spill)) c.as_slice-in-Frames-2.ensures made in
    subst (λ (q : Query). IfOk c.frames_from.result (λ a. IsResultIn (query_shape q) (env_view c.args.sources.now) a.rows a.spill)) (sym c.in-Frames.is) all

pub result_of-returns-in_ok-inside-in-Each-clause-value : goal.result_of-returns-in_ok-inside-in-Each-clause-value
result_of-returns-in_ok-inside-in-Each-clause-value = windows.result_of-returns-in_ok-inside-in-Each-clause-value

pub result_of-returns-in_ok-further-in-PerGroup-clause-value : goal.result_of-returns-in_ok-further-in-PerGroup-clause-value
result_of-returns-in_ok-further-in-PerGroup-clause-value = groups.result_of-returns-in_ok-further-in-PerGroup-clause-value

pub result_of-returns-in_ok-second-in-Union-clause-value : goal.result_of-returns-in_ok-second-in-Union-clause-value
result_of-returns-in_ok-second-in-Union-clause-value t c =
    let env = env_view c.args.sources.now in
    let first = c.in_ok-first-in-Union.first in
    let second = c.in_ok-second-in-Union.second in
    let l = subst (Gives c.args.sources.now first) c.deref-in-Union.ensures c.in_ok-first-in-Union.ensures.value in
    let r = subst (Gives c.args.sources.now second) c.deref-in-Union-2.ensures c.in_ok-second-in-Union.ensures.value in
    let made = IfOk-weaker c.union_of.result (λ (a : Answer). (a.rows ≡ first.rows ++ second.rows) × (a.spill ≡ (first.spill || second.spill))) (λ (a : Answer). IsResultIn (shape.Union (query_shape c.in-Union.left.value) (query_shape c.in-Union.right.value)) env a.rows a.spill)
    (λ (a : Answer) facts. union_made env (query_shape c.in-Union.left.value) (query_shape c.in-Union.right.value) first.rows second.rows a.rows first.spill second.spill a.spill l r facts) c.union_of.ensures.value in
    subst (λ (q : Query). IfOk c.union_of.result (λ a. IsResultIn (query_shape q) (env_view c.args.sources.now) a.rows a.spill)) (sym c.in-Union.is) made

pub result_of-returns-in_ok-answer-in-ByArrival-clause-value : goal.result_of-returns-in_ok-answer-in-ByArrival-clause-value
result_of-returns-in_ok-answer-in-ByArrival-clause-value t c =
    let env = env_view c.args.sources.now in
    let both = c.in_ok-both-in-ByArrival.both in
    let r : IsArrivedIn c.args.sources.now both c.in-ByArrival.left.value c.deref-in-ByArrival-2.result.now =
    subst (λ (q : Query). IsArrivedIn c.args.sources.now both q c.deref-in-ByArrival-2.result.now) c.deref-in-ByArrival.ensures c.in_ok-both-in-ByArrival.ensures.value in
    let l : IsArrivedIn c.args.sources.now both c.in-ByArrival.left.value c.in-ByArrival.right.value =
    subst (λ (q : Query). IsArrivedIn c.args.sources.now both c.in-ByArrival.left.value q) c.deref-in-ByArrival-2.ensures r in
    let made = arrived_made env (query_shape c.in-ByArrival.left.value) (query_shape c.in-ByArrival.right.value) (map placed_of both.rows) c.in_ok-answer-in-ByArrival.answer.rows both.spill
    c.in_ok-answer-in-ByArrival.answer.spill l c.in_ok-answer-in-ByArrival.ensures in
    subst (λ (q : Query). IsResultIn (query_shape q) env c.in_ok-answer-in-ByArrival.answer.rows c.in_ok-answer-in-ByArrival.answer.spill) (sym c.in-ByArrival.is) made

pub result_of-returns-in_err-both-in-ByArrival-clause-fits : goal.result_of-returns-in_err-both-in-ByArrival-clause-fits
result_of-returns-in_err-both-in-ByArrival-clause-fits t c = λ timed s a.
    let whole = subst (Accepted c.args.sources.now timed) c.in-ByArrival.is a in
    let r = subst (λ (q : Query). IsAcceptedOver (scope_of (env_view c.args.sources.now) timed) (shape.ByArrival (query_shape c.in-ByArrival.left.value) (query_shape q))) (sym c.deref-in-ByArrival-2.ensures) whole in
    let l = subst (λ (q : Query). IsAcceptedOver (scope_of (env_view c.args.sources.now) timed) (shape.ByArrival (query_shape q) (query_shape c.deref-in-ByArrival-2.result.now))) (sym c.deref-in-ByArrival.ensures) r in
    passes _ c.from_residual-in_err-both-in-ByArrival.ensures.1 (λ y e. e ∙ c.in_err-both-in-ByArrival.ensures.fits timed s l)

pub result_of-returns-in_ok-answer-in-AsOf-clause-value : goal.result_of-returns-in_ok-answer-in-AsOf-clause-value
result_of-returns-in_ok-answer-in-AsOf-clause-value t c =
    let env = env_view c.args.sources.now in
    let both = c.in_ok-both-in-AsOf.both in
    let slots = c.in-AsOf.slots in
    let r : IsJoinedIn c.args.sources.now both c.in-AsOf.left.value c.deref-in-AsOf-2.result.now slots =
    subst (λ (q : Query). IsJoinedIn c.args.sources.now both q c.deref-in-AsOf-2.result.now slots) c.deref-in-AsOf.ensures c.in_ok-both-in-AsOf.ensures.value in
    let l : IsJoinedIn c.args.sources.now both c.in-AsOf.left.value c.in-AsOf.right.value slots =
    subst (λ (q : Query). IsJoinedIn c.args.sources.now both c.in-AsOf.left.value q slots) c.deref-in-AsOf-2.ensures r in
    let made = as_of_made env (query_shape c.in-AsOf.left.value) (query_shape c.in-AsOf.right.value) (slots_shape slots) (map placed_of both.rows) c.in_ok-answer-in-AsOf.answer.rows both.spill
    c.in_ok-answer-in-AsOf.answer.spill l c.in_ok-answer-in-AsOf.ensures in
    subst (λ (q : Query). IsResultIn (query_shape q) env c.in_ok-answer-in-AsOf.answer.rows c.in_ok-answer-in-AsOf.answer.spill) (sym c.in-AsOf.is) made

pub result_of-returns-in_err-both-in-AsOf-clause-fits : goal.result_of-returns-in_err-both-in-AsOf-clause-fits
result_of-returns-in_err-both-in-AsOf-clause-fits t c = λ timed s a.
    let whole = subst (Accepted c.args.sources.now timed) c.in-AsOf.is a in
    let slots = slots_shape c.in-AsOf.slots in
    let r = subst (λ (q : Query). IsAcceptedOver (scope_of (env_view c.args.sources.now) timed) (shape.AsOf (query_shape c.in-AsOf.left.value) (query_shape q) slots)) (sym c.deref-in-AsOf-2.ensures) whole in
    let l = subst (λ (q : Query). IsAcceptedOver (scope_of (env_view c.args.sources.now) timed) (shape.AsOf (query_shape q) (query_shape c.deref-in-AsOf-2.result.now) slots)) (sym c.deref-in-AsOf.ensures) r in
    passes _ c.from_residual-in_err-both-in-AsOf.ensures.1 (λ y e. e ∙ c.in_err-both-in-AsOf.ensures.fits timed s l)

pub result_of-returns-in_ok-second-in-Concat-clause-value : goal.result_of-returns-in_ok-second-in-Concat-clause-value
result_of-returns-in_ok-second-in-Concat-clause-value t c =
    let env = env_view c.args.sources.now in
    let first = c.in_ok-first-in-Concat.first in
    let second = c.in_ok-second-in-Concat.second in
    let l = subst (Gives c.args.sources.now first) c.deref-in-Concat.ensures c.in_ok-first-in-Concat.ensures.value in
    let r = subst (Gives c.args.sources.now second) c.deref-in-Concat-2.ensures c.in_ok-second-in-Concat.ensures.value in
    let made = IfOk-weaker c.concat_of.result (λ (a : Answer). AreBeside first.rows second.rows a.rows × (a.spill ≡ (first.spill || second.spill))) (λ (a : Answer). IsResultIn (shape.Concat (query_shape c.in-Concat.left.value) (query_shape c.in-Concat.right.value)) env a.rows a.spill)
    (λ (a : Answer) facts. concat_made env (query_shape c.in-Concat.left.value) (query_shape c.in-Concat.right.value) first.rows second.rows a.rows first.spill second.spill a.spill l r facts) c.concat_of.ensures.value in
    subst (λ (q : Query). IfOk c.concat_of.result (λ a. IsResultIn (query_shape q) (env_view c.args.sources.now) a.rows a.spill)) (sym c.in-Concat.is) made

pub over_groups-returns-in_err-part-clause-fits : goal.over_groups-returns-in_err-part-clause-fits
over_groups-returns-in_err-part-clause-fits t c = λ s b h.
    let env = env_view c.args.sources.now in
    let outer : source_of c.parameters_as-outer.result ≡ parameters_from env =
    c.parameters_as-outer.ensures (words_in env) (c.as_slice-words.ensures ∙ c.in_ok-table.ensures)
    ∙ ap (λ (ps : List Column). parameter_source ps (words_in env)) (c.as_slice-parameters.ensures ∙ c.in_ok-names.ensures) in
    let here = all_place (λ (g : Group). AllByRecursion (IsRowOf c.args.columns.now) g.rows) c.args.groups.now c.loop-group.group-index c.group-item.result c.loop-group-test.true c.group-item.is h in
    let rows = subst (AllByRecursion (IsRowOf c.args.columns.now)) (sym c.as_slice.ensures) here in
    let want = body_passes env c.args.var.now c.args.columns.now (query_shape c.args.body.now) c.as_slice.result.now (source_of c.parameters_as-outer.result) _ s b rows outer (c.in_err-part.ensures.fits false) in
    passes _ c.from_residual-in_err-part.ensures.1 (λ y e. e ∙ want)

pub over_slices-returns-in_err-part-clause-fits : goal.over_slices-returns-in_err-part-clause-fits
over_slices-returns-in_err-part-clause-fits t c = λ s b h.
    let env = env_view c.args.sources.now in
    let outer : source_of c.parameters_as-outer.result ≡ parameters_from env =
    c.parameters_as-outer.ensures (words_in env) (c.as_slice-words.ensures ∙ c.in_ok-table.ensures)
    ∙ ap (λ (ps : List Column). parameter_source ps (words_in env)) (c.as_slice-parameters.ensures ∙ c.in_ok-names.ensures) in
    let now : Bor (List Row) → List Row = λ s. s.now in
    let all = all_of_mapped (AllByRecursion (IsRowOf c.args.columns.now)) now c.args.slices.now h in
    let here = all_place (λ (s : Bor (List Row)). AllByRecursion (IsRowOf c.args.columns.now) s.now) c.args.slices.now c.loop-slice.slice-index c.slice-item.result c.loop-slice-test.true c.slice-item.is all in
    let want = body_passes env c.args.var.now c.args.columns.now (query_shape c.args.body.now) c.slice-item.result.now (source_of c.parameters_as-outer.result) _ s b here outer (c.in_err-part.ensures.fits false) in
    passes _ c.from_residual-in_err-part.ensures.1 (λ y e. e ∙ want)

pub result_of-returns-in_err-from-in-Rows-clause-fits : goal.result_of-returns-in_err-from-in-Rows-clause-fits
result_of-returns-in_err-from-in-Rows-clause-fits t c = λ timed s a.
    let whole = subst (Accepted c.args.sources.now timed) c.in-Rows.is a in
    let part = subst (Accepted c.args.sources.now timed) (sym c.deref.ensures) whole.0 in
    passes _ c.from_residual.ensures.1 (λ y e. e ∙ c.in_err-from-in-Rows.ensures.fits timed s part)

pub result_of-returns-in_err-from-in-Total-clause-fits : goal.result_of-returns-in_err-from-in-Total-clause-fits
result_of-returns-in_err-from-in-Total-clause-fits t c = λ timed s a.
    let whole = subst (Accepted c.args.sources.now timed) c.in-Total.is a in
    let part = subst (Accepted c.args.sources.now timed) (sym c.deref-in-Total.ensures) whole.0 in
    passes _ c.from_residual-in_err-from-in-Total.ensures.1 (λ y e. e ∙ c.in_err-from-in-Total.ensures.fits timed s part)

pub result_of-returns-in_err-from-in-Frames-clause-fits : goal.result_of-returns-in_err-from-in-Frames-clause-fits
result_of-returns-in_err-from-in-Frames-clause-fits t c = λ timed s a.
    let whole = subst (Accepted c.args.sources.now timed) c.in-Frames.is a in
    let part = subst (Accepted c.args.sources.now timed) (sym c.deref-in-Frames.ensures) whole.0 in
    passes _ c.from_residual-in_err-from-in-Frames.ensures.1 (λ y e. e ∙ c.in_err-from-in-Frames.ensures.fits timed s part)

pub result_of-returns-in_err-from-in-Each-clause-fits : goal.result_of-returns-in_err-from-in-Each-clause-fits
result_of-returns-in_err-from-in-Each-clause-fits t c = λ timed s a.
    let whole = subst (Accepted c.args.sources.now timed) c.in-Each.is a in
    let part = subst (Accepted c.args.sources.now timed) (sym c.deref-in-Each.ensures) whole.0 in
    passes _ c.from_residual-in_err-from-in-Each.ensures.1 (λ y e. e ∙ c.in_err-from-in-Each.ensures.fits timed s part)

pub result_of-returns-in_err-from-in-PerGroup-clause-fits : goal.result_of-returns-in_err-from-in-PerGroup-clause-fits
result_of-returns-in_err-from-in-PerGroup-clause-fits t c = λ timed s a.
    let whole = subst (Accepted c.args.sources.now timed) c.in-PerGroup.is a in
    let part = subst (Accepted c.args.sources.now timed) (sym c.deref-in-PerGroup.ensures) whole.0 in
    passes _ c.from_residual-in_err-from-in-PerGroup.ensures.1 (λ y e. e ∙ c.in_err-from-in-PerGroup.ensures.fits timed s part)

pub result_of-returns-in_err-first-in-Union-clause-fits : goal.result_of-returns-in_err-first-in-Union-clause-fits
result_of-returns-in_err-first-in-Union-clause-fits t c = λ timed s a.
    let whole = subst (Accepted c.args.sources.now timed) c.in-Union.is a in
    let part = subst (Accepted c.args.sources.now timed) (sym c.deref-in-Union.ensures) whole.0 in
    passes _ c.from_residual-in_err-first-in-Union.ensures.1 (λ y e. e ∙ c.in_err-first-in-Union.ensures.fits timed s part)

pub result_of-returns-in_err-second-in-Union-clause-fits : goal.result_of-returns-in_err-second-in-Union-clause-fits
result_of-returns-in_err-second-in-Union-clause-fits t c = λ timed s a.
    let whole = subst (Accepted c.args.sources.now timed) c.in-Union.is a in
    let part = subst (Accepted c.args.sources.now timed) (sym c.deref-in-Union-2.ensures) whole.1 in
    passes _ c.from_residual-in_err-second-in-Union.ensures.1 (λ y e. e ∙ c.in_err-second-in-Union.ensures.fits timed s part)

pub result_of-returns-in_err-first-in-Concat-clause-fits : goal.result_of-returns-in_err-first-in-Concat-clause-fits
result_of-returns-in_err-first-in-Concat-clause-fits t c = λ timed s a.
    let whole = subst (Accepted c.args.sources.now timed) c.in-Concat.is a in
    let part = subst (Accepted c.args.sources.now timed) (sym c.deref-in-Concat.ensures) whole.0 in
    passes _ c.from_residual-in_err-first-in-Concat.ensures.1 (λ y e. e ∙ c.in_err-first-in-Concat.ensures.fits timed s part)

pub result_of-returns-in_err-second-in-Concat-clause-fits : goal.result_of-returns-in_err-second-in-Concat-clause-fits
result_of-returns-in_err-second-in-Concat-clause-fits t c = λ timed s a.
    let whole = subst (Accepted c.args.sources.now timed) c.in-Concat.is a in
    let part = subst (Accepted c.args.sources.now timed) (sym c.deref-in-Concat-2.ensures) whole.1 in
    passes _ c.from_residual-in_err-second-in-Concat.ensures.1 (λ y e. e ∙ c.in_err-second-in-Concat.ensures.fits timed s part)

pub result_of-returns-in_err-slices-in-Each-clause-fits : goal.result_of-returns-in_err-slices-in-Each-clause-fits
result_of-returns-in_err-slices-in-Each-clause-fits t c = λ timed s a.
    let whole = subst (Accepted c.args.sources.now timed) c.in-Each.is a in
    passes _ c.from_residual-in_err-slices-in-Each.ensures.1 (λ y e. e ∙ c.in_err-slices-in-Each.ensures.fits whole.1)

pub result_of-returns-in_err-most-in-PerGroup-clause-fits : goal.result_of-returns-in_err-most-in-PerGroup-clause-fits
result_of-returns-in_err-most-in-PerGroup-clause-fits t c = λ timed s a.
    let whole = subst (Accepted c.args.sources.now timed) c.in-PerGroup.is a in
    passes _ c.from_residual-in_err-most-in-PerGroup.ensures.1 (λ y e. e ∙ c.in_err-most-in-PerGroup.ensures.fits whole.1.most_groups)

pub result_of-returns-in_err-inside-in-Each-clause-fits : goal.result_of-returns-in_err-inside-in-Each-clause-fits
result_of-returns-in_err-inside-in-Each-clause-fits = windows.result_of-returns-in_err-inside-in-Each-clause-fits

pub result_of-returns-in_err-inside-in-PerGroup-clause-fits : goal.result_of-returns-in_err-inside-in-PerGroup-clause-fits
result_of-returns-in_err-inside-in-PerGroup-clause-fits = groups.result_of-returns-in_err-inside-in-PerGroup-clause-fits

pub result_of-returns-in_ok-from-in-Rows-clause-fits : goal.result_of-returns-in_ok-from-in-Rows-clause-fits
result_of-returns-in_ok-from-in-Rows-clause-fits t c = λ timed s a.
    let env = env_view c.args.sources.now in
    let from = c.in_ok-from-in-Rows.from in
    let whole = subst (Accepted c.args.sources.now timed) c.in-Rows.is a in
    let is = subst (Gives c.args.sources.now from) c.deref.ensures c.in_ok-from-in-Rows.ensures.value in
    let source = query_shape c.in-Rows.source.value in
    let pass = subst (λ (q : Query). IsRows (reach_in env (query_shape q)).columns (pick_shape c.in-Rows.pick) (option_map expr_shape c.in-Rows.filter) → AreSeen (reach_in env (query_shape q)) from.rows → IsOrMemory c.rows_from.result) c.deref-in-Rows.ensures c.rows_from.ensures.fits in
    pass whole.1 (rows_seen env timed source from.rows s (rows_fit c.results_fit.ensures env timed source from.rows from.spill s whole.0 is))

pub result_of-returns-in_ok-from-in-Total-clause-fits : goal.result_of-returns-in_ok-from-in-Total-clause-fits
result_of-returns-in_ok-from-in-Total-clause-fits t c = λ timed s a.
    let env = env_view c.args.sources.now in
    let from = c.in_ok-from-in-Total.from in
    let whole = subst (Accepted c.args.sources.now timed) c.in-Total.is a in
    let is = subst (Gives c.args.sources.now from) c.deref-in-Total.ensures c.in_ok-from-in-Total.ensures.value in
    let source = query_shape c.in-Total.source.value in
    let pass = subst (λ (q : Query). AreAggs (reach_in env (query_shape q)).columns (map agg_item_shape c.as_slice.result.now) → AreSeen (reach_in env (query_shape q)) from.rows → IsOrMemory c.total_from.result) c.deref-in-Total-2.ensures c.total_from.ensures.fits in
    let aggs = subst (λ (l : List AggItem). AreAggs (reach_in env source).columns (map agg_item_shape l)) (sym c.as_slice.ensures) whole.1.typed in
    pass aggs (rows_seen env timed source from.rows s (rows_fit c.results_fit.ensures env timed source from.rows from.spill s whole.0 is))

pub result_of-returns-in_ok-columns-in-Frames-clause-fits : goal.result_of-returns-in_ok-columns-in-Frames-clause-fits
result_of-returns-in_ok-columns-in-Frames-clause-fits t c = λ timed s a.
    let env = env_view c.args.sources.now in
    let from = c.in_ok-from-in-Frames.from in
    let source = query_shape c.in-Frames.source.value in
    let whole = subst (Accepted c.args.sources.now timed) c.in-Frames.is a in
    let is = subst (Gives c.args.sources.now from) c.deref-in-Frames.ensures c.in_ok-from-in-Frames.ensures.value in
    let known : c.as_slice-in-Frames.result.now ≡ columns_in env source =
    c.as_slice-in-Frames.ensures ∙ c.in_ok-columns-in-Frames.ensures ∙ ap (λ (q : Query). columns_in env (query_shape q)) c.deref-in-Frames-2.ensures in
    let seen = reach_over c.args.sources.now in
    let pass = subst (λ (k : List Column). AreFramesOf (seen k).columns (map frame_item_shape c.as_slice-in-Frames-2.result.now) → IsFilter (seen k).columns (option_map expr_shape c.in-Frames.filter) → IsParted k (option_map slots_shape c.in-Frames.slots) → AreSeen (seen k) from.rows → IsOrMemory c.frames_from.result) known c.frames_from.ensures.fits in
    let items = subst (λ (l : List FrameItem). AreFramesOf (reach_in env source).columns (map frame_item_shape l)) (sym c.as_slice-in-Frames-2.ensures) whole.1.typed in
    pass items whole.1.filters whole.1.parted (rows_seen env timed source from.rows s (rows_fit c.results_fit.ensures env timed source from.rows from.spill s whole.0 is))

pub result_of-returns-in_ok-second-in-Concat-clause-fits : goal.result_of-returns-in_ok-second-in-Concat-clause-fits
result_of-returns-in_ok-second-in-Concat-clause-fits t c = λ timed s a.
    let env = env_view c.args.sources.now in
    let first = c.in_ok-first-in-Concat.first in
    let second = c.in_ok-second-in-Concat.second in
    let whole = subst (Accepted c.args.sources.now timed) c.in-Concat.is a in
    let l = subst (Gives c.args.sources.now first) c.deref-in-Concat.ensures c.in_ok-first-in-Concat.ensures.value in
    let r = subst (Gives c.args.sources.now second) c.deref-in-Concat-2.ensures c.in_ok-second-in-Concat.ensures.value in
    c.concat_of.ensures.fits (one_length env (query_shape c.in-Concat.left.value) (query_shape c.in-Concat.right.value) first.rows second.rows first.spill second.spill whole.2 l r)

pub result_of-returns-in_ok-inside-in-EachTime-clause-value : goal.result_of-returns-in_ok-inside-in-EachTime-clause-value
result_of-returns-in_ok-inside-in-EachTime-clause-value = windows.result_of-returns-in_ok-inside-in-EachTime-clause-value

pub result_of-returns-in_err-from-in-EachTime-clause-fits : goal.result_of-returns-in_err-from-in-EachTime-clause-fits
result_of-returns-in_err-from-in-EachTime-clause-fits t c = λ timed s a.
    let whole = subst (Accepted c.args.sources.now timed) c.in-EachTime.is a in
    let part = subst (Accepted c.args.sources.now timed) (sym c.deref-in-EachTime.ensures) whole.0 in
    passes _ c.from_residual-in_err-from-in-EachTime.ensures.1 (λ y e. e ∙ c.in_err-from-in-EachTime.ensures.fits timed s part)

pub result_of-returns-in_err-tables-in-EachTime-clause-fits : goal.result_of-returns-in_err-tables-in-EachTime-clause-fits
result_of-returns-in_err-tables-in-EachTime-clause-fits t c = λ timed s a.
    let whole = subst (Accepted c.args.sources.now timed) c.in-EachTime.is a in
    passes _ c.from_residual-in_err-tables-in-EachTime.ensures.1 (λ y e. e ∙ c.in_err-tables-in-EachTime.ensures.fits whole.1)

pub result_of-returns-in_err-inside-in-EachTime-clause-fits : goal.result_of-returns-in_err-inside-in-EachTime-clause-fits
result_of-returns-in_err-inside-in-EachTime-clause-fits = windows.result_of-returns-in_err-inside-in-EachTime-clause-fits

pub result_of-returns-in_ok-further-in-Partition-clause-value : goal.result_of-returns-in_ok-further-in-Partition-clause-value
result_of-returns-in_ok-further-in-Partition-clause-value = groups.result_of-returns-in_ok-further-in-Partition-clause-value

pub result_of-returns-in_err-from-in-Partition-clause-fits : goal.result_of-returns-in_err-from-in-Partition-clause-fits
result_of-returns-in_err-from-in-Partition-clause-fits t c = λ timed s a.
    let whole = subst (Accepted c.args.sources.now timed) c.in-Partition.is a in
    let part = subst (Accepted c.args.sources.now timed) (sym c.deref-in-Partition.ensures) whole.0 in
    passes _ c.from_residual-in_err-from-in-Partition.ensures.1 (λ y e. e ∙ c.in_err-from-in-Partition.ensures.fits timed s part)

pub result_of-returns-in_err-most-in-Partition-clause-fits : goal.result_of-returns-in_err-most-in-Partition-clause-fits
result_of-returns-in_err-most-in-Partition-clause-fits t c = λ timed s a.
    let whole = subst (Accepted c.args.sources.now timed) c.in-Partition.is a in
    passes _ c.from_residual-in_err-most-in-Partition.ensures.1 (λ y e. e ∙ c.in_err-most-in-Partition.ensures.fits whole.1.grouping.most_groups)

pub result_of-returns-in_err-inside-in-Partition-clause-fits : goal.result_of-returns-in_err-inside-in-Partition-clause-fits
result_of-returns-in_err-inside-in-Partition-clause-fits = groups.result_of-returns-in_err-inside-in-Partition-clause-fits

pub result_of-returns-in_err-parts-in-Partition-clause-fits : goal.result_of-returns-in_err-parts-in-Partition-clause-fits
result_of-returns-in_err-parts-in-Partition-clause-fits t c = λ timed s a.
    let whole = subst (Accepted c.args.sources.now timed) c.in-Partition.is a in
    passes _ c.from_residual-in_err-parts-in-Partition.ensures.1 (λ y e. e ∙ c.in_err-parts-in-Partition.ensures.fits whole.1.window)
