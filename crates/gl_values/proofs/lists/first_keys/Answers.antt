use Rattle.std.proofs.Common.{◌≡◌, slice_index, take, ap, sym, ◌∙◌, rules}
use Rattle.gl_values.specs.Lists.{keys_of}
use Rattle.gl_values.specs.Tables.{with_key}
use Rattle.gl_values.proofs.Grouping.{key_next}
use Rattle.gl_values.proofs.lists.first_keys.Goals as goal

pub loop-row-preserved : goal.loop-row-preserved
loop-row-preserved c =
    let kept = take c.args.most (keys_of (λ r. slice_index r c.args.column) (take c.loop-row.row-index c.args.rows.now)) in
    let key : c.number_at-key.result ≡ slice_index c.row-item.result c.args.column =
    c.number_at-key.ensures ∙ ap (λ r. slice_index r c.args.column) c.as_slice.ensures
    in
    c.in_ok-add_key.ensures
    ∙ ap (λ l. with_key c.args.most l c.number_at-key.result) c.loop-row.invariant
    ∙ ap (λ k. with_key c.args.most kept k) key
    ∙ sym (key_next c.args.most c.args.column c.args.rows.now c.loop-row.row-index c.row-item.result (search rules) c.row-item.is)
