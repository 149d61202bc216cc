use Rattle.std.proofs.Common.{◌≡◌, ℕ, ◌+◌, ◌<◌, Some, List, [], ◌∷◌, ◌++◌, length, take, sym, ap, ◌∙◌, arith}
use Rattle.gl_schema.specs.declared.schema.Column.{Column}
use Rattle.gl_schema.specs.Beats.{Inputs}
use Rattle.gl_query.specs.Results.{Source, first_row, numbered}
use Rattle.gl_reference.specs.declared.columns.Source.{Source as Given}
use Rattle.gl_reference.specs.Sources.{env_view, given_inputs, source_of}
use Rattle.gl_reference.proofs.Inputs.{env_push, input_is, numbered_more}
use Rattle.gl_reference.proofs.results.sources_of.Goals as goal

pub loop-i-preserved : goal.loop-i-preserved
loop-i-preserved c =
    let i = c.loop-i.i in
    let s = c.index-streams-i.result in
    let rows = c.as_slice-in-loop-i-2.result.now in
    let inputs = c.args.brought.rows.now in
    let places = c.args.brought.places.now in
    let times = c.args.brought.times.now in
    let ticks = c.args.brought.ticks in
    let put_at = c.as_slice-in-loop-i-3.result.now in
    let clock = c.as_slice-in-loop-i-4.result.now in
    let streams = c.args.streams.now in
    let first = source_of c.args.first in
    let words = first_row first.rows in
    let new : Given = record { name = c.as_slice.result; columns = c.as_slice-in-loop-i.result; rows = c.as_slice-in-loop-i-2.result; clock = Some (record { places = c.as_slice-in-loop-i-3.result; times = c.as_slice-in-loop-i-4.result; ticks = ticks }) } in
    let named : List ℕ → Source = λ n. record { stream = record { name = n; columns = c.as_slice-in-loop-i.result.now }; rows = rows; places = put_at; times = clock; ticks = ticks } in
    let lined : List Column → Source = λ k. record { stream = record { name = s.name; columns = k }; rows = rows; places = put_at; times = clock; ticks = ticks } in
    let is : source_of new ≡ record { stream = s; rows = rows; places = put_at; times = clock; ticks = ticks } = ap named c.as_slice.ensures ∙ ap lined c.as_slice-in-loop-i.ensures in
    let given : Inputs = given_inputs inputs places times ticks words in
    let within : i < length inputs = omega arith in
    let put : i < length places = omega arith in
    let timely : i < length times = omega arith in
    let place : i ≡ 0 + i = omega arith in
    let from = c.as_slice-in-loop-i-2.ensures ∙ input_is inputs i c.index-rows-i.result within c.index-rows-i.is ∙ ap given.rows place in
    let placed = c.as_slice-in-loop-i-3.ensures ∙ input_is places i c.index-places-i.result put c.index-places-i.is ∙ ap given.places place in
    let at = c.as_slice-in-loop-i-4.ensures ∙ input_is times i c.index-times-i.result timely c.index-times-i.is ∙ ap given.times place in
    let more = numbered_more 0 streams given i s rows put_at clock c.loop-i-test.true c.index-streams-i.is from placed at in
    ap env_view c.in_ok-push-2.ensures.items ∙ env_push c.loop-i.out.items new ∙ ap (λ (l : List Source). l ++ source_of new ∷ []) c.loop-i.invariant
    ∙ ap (λ (z : Source). first ∷ (numbered 0 (take i streams) given ++ z ∷ [])) is ∙ ap (λ (l : List Source). first ∷ l) (sym more)
