use Rattle.std.proofs.Common.{◌∙◌, List, [], ◌++◌, ap, map}
use Rattle.std.specs.Prelude.{slice_index}
use Rattle.gl_arrival.specs.Arrival.{by_arrival}
use Rattle.gl_values.specs.Lists.{has_further}
use Rattle.gl_query.specs.Shapes.{slots_shape}
use Rattle.gl_arrival.specs.Changes.{each_at}
use Rattle.gl_reference.specs.declared.placed.PlacedRow.{PlacedRow}
use Rattle.gl_reference.specs.Arrivals.{rows_in}
use Rattle.gl_reference.specs.Sides.{join_row, zeros_of}
use Rattle.gl_reference.specs.Sources.{placed_of}
use Rattle.gl_query.specs.Values.{column_number}
use Rattle.gl_reference.proofs.Marking.{join_made}
use Rattle.gl_reference.proofs.joins.join_placed.Goals as goal

pub returns-clause-value : goal.returns-clause-value
returns-clause-value c =
    let rights = c.args.sides.rights.now in
    let keys = c.in_ok-keys.keys in
    let column = c.column_number-column.result in
    let place = c.column_number-column.ensures.value ∙ ap (column_number rights) c.as_slice-key.ensures in
    let beside = c.as_slice-beside.ensures ∙ c.in_ok-push_zeros.ensures ∙ ap (λ l. l ++ zeros_of rights) c.new-zeros.ensures in
    let first = c.as_slice-first.ensures ∙ c.in_ok-of_right.ensures in
    let second = c.as_slice-second.ensures ∙ c.in_ok-of_left.ensures in
    let both = c.in_ok-both.ensures ∙ (λ t. by_arrival (map placed_of (first t)) (map placed_of (second t))) in
    let rows = c.in_ok-rows.ensures
    ∙ ap (λ (l : List PlacedRow). each_at (join_row c.as_slice-beside.result.now column keys.most) [] (map placed_of l)) c.as_slice-placed.ensures in
    let alone = c.as_slice-unplaced.ensures ∙ c.in_ok-alone.ensures ∙ ap rows_in c.as_slice-placed.ensures in
    let further = c.in_ok-further.ensures ∙ ap (has_further keys.most (λ r. slice_index r 0)) alone in
    join_made c.args.sides.lefts.now rights (slots_shape c.args.sides.slots.now) c.args.left.now c.args.right.now c.in_ok-both.both c.as_slice-beside.result.now
    keys.column column keys.most (map placed_of c.in_ok-rows.rows) c.in_ok-further.further
    c.in_ok-keys.ensures.value.0 c.in_ok-keys.ensures.value.1 place beside both rows further
