use Rattle.std.proofs.Common.{◌≡◌, ◌||◌, ◌∙◌, List, ap, map, rules, slice_index}
use Rattle.gl_values.specs.Lists.{has_further}
use Rattle.gl_values.specs.Results.{Row}
use Rattle.gl_arrival.specs.Changes.{framed_by_key_at}
use Rattle.gl_query.specs.Shapes.{frame_item_shape}
use Rattle.gl_query.specs.Results.{reached_row}
use Rattle.gl_reference.specs.Rows.{reach_seen}
use Rattle.gl_reference.specs.Arrivals.{rows_in}
use Rattle.gl_reference.specs.Sources.{placed_of}
use Rattle.gl_reference.proofs.arrivals.parted_placed.Goals as goal

pub returns-clause-value : goal.returns-clause-value
returns-clause-value c =
    let from = c.args.from in
    let f : List Row → Row = reached_row (reach_seen c.args.seen) (map frame_item_shape c.args.items.now) in
    let most = c.in_ok-keys-in-Some.ensures.value.0 in
    let column = c.in_ok-keys-in-Some.ensures.value.1 in
    let alone : c.as_slice-unplaced.result.now ≡ rows_in from.rows = c.as_slice-unplaced.ensures ∙ c.in_ok-alone.ensures ∙ ap rows_in c.as_slice.ensures in
    let further : c.in_ok-further-in-Some.further ≡ has_further c.in_ok-keys-in-Some.keys.most (λ (r : Row). slice_index r c.in_ok-keys-in-Some.keys.column) (rows_in from.rows) =
    c.in_ok-further-in-Some.ensures ∙ ap (has_further c.in_ok-keys-in-Some.keys.most (λ (r : Row). slice_index r c.in_ok-keys-in-Some.keys.column)) alone in
    let either : c.if-from.result ≡ (from.spill || c.in_ok-further-in-Some.further) = search rules in
    rw c.in-Some.is (
      c.in_ok-made-in-Some.ensures.value ∙ (λ j. framed_by_key_at (most j) (λ (r : Row). slice_index r (column j)) f (map placed_of (c.as_slice-rows.ensures j))),
      either ∙ ap (λ b. from.spill || b) (further ∙ (λ j. has_further (most j) (λ (r : Row). slice_index r (column j)) (rows_in from.rows))),
    )
