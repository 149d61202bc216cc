use Rattle.std.proofs.Common.{◌≡◌, ◌+◌, ◌∙◌, List, [], ◌∷◌, ◌++◌, ap, map, rules, sym, take}
use Rattle.std.proofs.lemmas.List.{map-append}
use Rattle.gl_values.specs.Results.{Row}
use Rattle.gl_arrival.specs.Changes.{framed_at}
use Rattle.gl_arrival.specs.Places.{Placed, at_place}
use Rattle.gl_query.specs.Shapes.{frame_item_shape}
use Rattle.gl_query.specs.Results.{reached_row}
use Rattle.gl_reference.specs.Rows.{reach_seen}
use Rattle.gl_reference.proofs.Seeing.{seen_take}
use Rattle.gl_reference.specs.declared.placed.PlacedRow.{PlacedRow}
use Rattle.gl_reference.specs.Arrivals.{rows_in}
use Rattle.gl_reference.specs.Sources.{placed_of}
use Rattle.gl_reference.proofs.Placing.{framed_at_next}
use Rattle.gl_reference.proofs.placed.framed_placed.Goals as goal

pub loop-i-preserved : goal.loop-i-preserved
loop-i-preserved c =
    let rows = c.args.rows.now in
    let i = c.loop-i.i in
    let row = c.index-rows-i.result in
    let f : List Row → Row = reached_row (reach_seen c.args.seen) (map frame_item_shape c.args.items.now) in
    let new : PlacedRow = record { row = c.in_ok-made.made; place = row.place } in
    let made : c.in_ok-made.made ≡ f (take (i + 1) (rows_in rows)) = c.in_ok-made.ensures.value ∙ ap (λ (l : List Row). f (take (i + 1) l)) c.requires in
    ap (map placed_of) c.in_ok-push.ensures.ok ∙ map-append placed_of c.loop-i.out (new ∷ [])
    ∙ ap (λ (l : List (Placed Row)). l ++ placed_of new ∷ []) c.loop-i.invariant
    ∙ ap (λ (r : Row). framed_at f (map placed_of (take i rows)) ++ at_place r row.place ∷ []) made
    ∙ sym (framed_at_next f rows i row c.loop-i-test.true c.index-rows-i.is)

pub returns-in_err-made-clause-fits : goal.returns-in_err-made-clause-fits
returns-in_err-made-clause-fits c = λ h s.
    let known = c.in_err-made.ensures.fits h (seen_take (reach_seen c.args.seen) (c.loop-i.i + 1) c.args.alone.now s) in
    search rules
