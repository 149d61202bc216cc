use Rattle.std.proofs.Common.{◌∙◌, List, [], ◌∷◌, ◌++◌, ℕ, ap, map, sym, take}
use Rattle.std.proofs.lemmas.List.{map-append}
use Rattle.gl_values.specs.Results.{Row}
use Rattle.gl_arrival.specs.Places.{Placed, at_place, at_places}
use Rattle.gl_reference.specs.declared.placed.PlacedRow.{PlacedRow}
use Rattle.gl_reference.specs.Sources.{placed_of, places_on}
use Rattle.gl_reference.proofs.Placing.{at_places_more, place_is}
use Rattle.gl_reference.proofs.placed.placed_rows.Goals as goal

pub loop-index-preserved : goal.loop-index-preserved
loop-index-preserved c =
    let rows = c.args.rows.now in
    let i = c.loop-index.index in
    let places = places_on c.args.clock rows in
    let new : PlacedRow = record { row = c.in_ok-copy_of_row.field-0; place = c.place_at.result } in
    ap (map placed_of) c.in_ok-push.ensures.ok ∙ map-append placed_of c.loop-index.out (new ∷ [])
    ∙ ap (λ (l : List (Placed Row)). l ++ placed_of new ∷ []) c.loop-index.invariant
    ∙ ap (λ (r : Row). at_places (take i rows) places ++ at_place r c.place_at.result ∷ []) (c.in_ok-copy_of_row.ensures ∙ c.as_slice.ensures)
    ∙ ap (λ (p : ℕ). at_places (take i rows) places ++ at_place c.index-rows-index.result p ∷ []) (c.place_at.ensures ∙ place_is c.args.clock rows i c.loop-index-test.true)
    ∙ sym (at_places_more rows places i c.index-rows-index.result c.loop-index-test.true c.index-rows-index.is)
