use Rattle.std.proofs.Common.{◌≡◌, ◌+◌, ◌∙◌, ℕ, List, ◌++◌, ap, map, rules, slice_index, sym, take}
use Rattle.std.specs.Prelude.{Option, Some, option_map, option_to_list}
use Rattle.gl_values.specs.Results.{Row}
use Rattle.gl_frames.specs.Frames.{if_has_key}
use Rattle.gl_arrival.specs.Changes.{framed_by_key_at}
use Rattle.gl_arrival.specs.Places.{Placed, at_place}
use Rattle.gl_query.specs.Shapes.{frame_item_shape}
use Rattle.gl_query.specs.Results.{reached_row}
use Rattle.gl_reference.specs.Rows.{reach_seen}
use Rattle.gl_reference.proofs.Seeing.{seen_take}
use Rattle.gl_reference.specs.Arrivals.{rows_in}
use Rattle.gl_reference.specs.Frames.{key_row}
use Rattle.gl_reference.specs.Sources.{placed_of}
use Rattle.gl_reference.proofs.Placing.{keyed_at_next}
use Rattle.gl_reference.proofs.placed.keyed_placed.Goals as goal

pub loop-i-preserved : goal.loop-i-preserved
loop-i-preserved c =
    let rows = c.args.rows.now in
    let i = c.loop-i.i in
    let k = c.args.keys in
    let row = c.index-rows-i.result in
    let items = map frame_item_shape c.args.items.now in
    let key_of : Row → ℕ = λ r. slice_index r k.column in
    let f : List Row → Row = reached_row (reach_seen c.args.seen) items in
    let seen : List Row = take (i + 1) (rows_in rows) in
    let put : Option Row → List (Placed Row) = λ o. option_to_list (option_map (λ (r : Row). at_place r row.place) o) in
    let key : c.number_at-key.result ≡ key_of row.row = c.number_at-key.ensures ∙ ap key_of c.as_slice.ensures in
    let own : c.in_ok-own.own ≡ if_has_key k.most key_of f seen (Some row.row) =
    c.in_ok-own.ensures.value ∙ ap (λ (l : List Row). key_row (reach_seen c.args.seen) items k.most k.column (take (i + 1) l) c.number_at-key.result) c.requires
    ∙ ap (key_row (reach_seen c.args.seen) items k.most k.column seen) key in
    c.in_ok-push_placed.ensures
    ∙ ap (λ (l : List (Placed Row)). l ++ put c.in_ok-own.own) c.loop-i.invariant
    ∙ ap (λ (o : Option Row). framed_by_key_at k.most key_of f (map placed_of (take i rows)) ++ put o) own
    ∙ sym (keyed_at_next k.most key_of f rows i row c.loop-i-test.true c.index-rows-i.is)

pub returns-in_err-own-clause-fits : goal.returns-in_err-own-clause-fits
returns-in_err-own-clause-fits c = λ h s.
    let known = c.in_err-own.ensures.fits h (seen_take (reach_seen c.args.seen) (c.loop-i.i + 1) c.args.alone.now s) in
    search rules
