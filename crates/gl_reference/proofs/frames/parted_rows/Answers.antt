use Rattle.std.proofs.Common.{◌∙◌, List, map, option_map, rules, slice_index, subst}
use Rattle.std.specs.Prelude.{Option}
use Rattle.gl_values.specs.Lists.{has_further}
use Rattle.gl_values.specs.Results.{Row}
use Rattle.gl_frames.specs.Frames.{framed_by_key}
use Rattle.gl_query.specs.declared.tree.Slots.{Slots}
use Rattle.gl_query.specs.Accepted.{IsParted}
use Rattle.gl_query.specs.Results.{reached_row}
use Rattle.gl_query.specs.Shapes.{frame_item_shape, slots_shape}
use Rattle.gl_reference.specs.Rows.{reach_seen}
use Rattle.gl_reference.proofs.frames.parted_rows.Goals as goal

pub returns-in_ok-further-in-Some-clause-value : goal.returns-in_ok-further-in-Some-clause-value
returns-in_ok-further-in-Some-clause-value c =
    let rows = c.args.rows.now in
    let f : List Row → Row = reached_row (reach_seen c.args.seen) (map frame_item_shape c.args.items.now) in
    let most = c.in_ok-keys-in-Some.ensures.value.0 in
    let column = c.in_ok-keys-in-Some.ensures.value.1 in
    rw c.in-Some.is (
      c.in_ok-out-in-Some.ensures.value ∙ (λ i. framed_by_key (most i) (λ (r : Row). slice_index r (column i)) f rows),
      c.in_ok-further-in-Some.ensures ∙ (λ i. has_further (most i) (λ (r : Row). slice_index r (column i)) rows),
    )

pub returns-in_err-keys-in-Some-clause-fits : goal.returns-in_err-keys-in-Some-clause-fits
returns-in_err-keys-in-Some-clause-fits c = λ h p r.
    let part = subst (λ (o : Option Slots). IsParted c.args.columns.now (option_map slots_shape o)) c.in-Some.is p in
    let known = c.in_err-keys-in-Some.ensures.fits part in
    search rules
