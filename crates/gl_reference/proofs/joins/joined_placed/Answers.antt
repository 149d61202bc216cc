use Rattle.std.proofs.Common.{◌≡◌, ◌+◌, ◌∙◌, List, [], ◌++◌, ap, map, sym, take}
use Rattle.std.specs.Prelude.{Option, option_map, option_to_list}
use Rattle.gl_values.specs.Results.{Row}
use Rattle.gl_arrival.specs.Changes.{each_at}
use Rattle.gl_arrival.specs.Places.{Placed, at_place}
use Rattle.gl_reference.specs.Arrivals.{rows_in}
use Rattle.gl_reference.specs.Sides.{join_row, row_joined}
use Rattle.gl_reference.specs.Sources.{placed_of}
use Rattle.gl_reference.proofs.Marking.{joined_at_next}
use Rattle.gl_reference.proofs.joins.joined_placed.Goals as goal

pub loop-i-preserved : goal.loop-i-preserved
loop-i-preserved c =
    let rows = c.args.rows.now in
    let i = c.loop-i.i in
    let p = c.args.partners in
    let row = c.index-rows-i.result in
    let put : Option Row → List (Placed Row) = λ o. option_to_list (option_map (λ (r : Row). at_place r row.place) o) in
    let own : c.in_ok-own.own ≡ row_joined p.zeros.now p.column p.most (take (i + 1) (rows_in rows)) row.row =
    c.in_ok-own.ensures ∙ ap (λ (l : List Row). row_joined p.zeros.now p.column p.most (take (i + 1) l) c.as_slice.result.now) c.requires
    ∙ ap (row_joined p.zeros.now p.column p.most (take (i + 1) (rows_in rows))) c.as_slice.ensures in
    c.in_ok-push_placed.ensures
    ∙ ap (λ (l : List (Placed Row)). l ++ put c.in_ok-own.own) c.loop-i.invariant
    ∙ ap (λ (o : Option Row). each_at (join_row p.zeros.now p.column p.most) [] (map placed_of (take i rows)) ++ put o) own
    ∙ sym (joined_at_next p.zeros.now p.column p.most rows i row c.loop-i-test.true c.index-rows-i.is)
