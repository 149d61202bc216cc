use Rattle.std.proofs.Common.{◌≡◌, ◌∙◌, ◌+◌, ◌++◌, ℕ, List, ap, map, rules, slice_index, sym, take}
use Rattle.std.specs.Prelude.{Option, Some, option_to_list}
use Rattle.gl_values.specs.Results.{Row}
use Rattle.gl_frames.specs.Frames.{framed_by_key, if_has_key}
use Rattle.gl_query.specs.Shapes.{frame_item_shape}
use Rattle.gl_query.specs.Results.{reached_row}
use Rattle.gl_reference.specs.Frames.{key_row}
use Rattle.gl_reference.specs.Rows.{reach_seen}
use Rattle.gl_reference.proofs.Framing.{keyed_next}
use Rattle.gl_reference.proofs.Seeing.{seen_take}
use Rattle.gl_reference.proofs.frames.keyed_rows.Goals as goal

pub loop-i-preserved : goal.loop-i-preserved
loop-i-preserved c =
    let rows = c.args.rows.now in
    let k = c.args.keys in
    let seen : List Row = take (c.loop-i.i + 1) rows in
    let row = c.index-rows-i.result in
    let key_of : Row → ℕ = λ r. slice_index r k.column in
    let f : List Row → Row = reached_row (reach_seen c.args.seen) (map frame_item_shape c.args.items.now) in
    let key : c.number_at-key.result ≡ key_of row = c.number_at-key.ensures ∙ ap key_of c.as_slice.ensures in
    let own : c.in_ok-own.own ≡ if_has_key k.most key_of f seen (Some row) =
    c.in_ok-own.ensures.value ∙ ap (key_row (reach_seen c.args.seen) (map frame_item_shape c.args.items.now) k.most k.column seen) key in
    c.in_ok-push_some.ensures
    ∙ ap (λ (l : List Row). l ++ option_to_list c.in_ok-own.own) c.loop-i.invariant
    ∙ ap (λ (o : Option Row). framed_by_key k.most key_of f (take c.loop-i.i rows) ++ option_to_list o) own
    ∙ sym (keyed_next k.most key_of f rows c.loop-i.i row c.loop-i-test.true c.index-rows-i.is)

pub returns-in_err-own-clause-fits : goal.returns-in_err-own-clause-fits
returns-in_err-own-clause-fits c = λ h r.
    let known = c.in_err-own.ensures.fits h (seen_take (reach_seen c.args.seen) (c.loop-i.i + 1) c.args.rows.now r) in
    search rules
