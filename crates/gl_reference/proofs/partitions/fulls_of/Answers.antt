use Rattle.std.proofs.Common.{◌≡◌, ◌+◌, ◌++◌, ◌∙◌, List, take, ap, refl, slice_index}
use Rattle.gl_values.specs.Results.{Row}
use Rattle.gl_values.specs.declared.lists.Group.{Group}
use Rattle.gl_reference.specs.Partitions.{table_windows}
use Rattle.gl_reference.proofs.Partitioning.{fulls_more}
use Rattle.gl_reference.proofs.partitions.fulls_of.Goals as goal

pub loop-i-preserved : goal.loop-i-preserved
loop-i-preserved c =
    let rows = c.args.rows.now in
    let w = c.args.windows in
    let seen : List Row = take (c.loop-i.i + 1) rows in
    let key = c.number_at-key.result in
    let is : key ≡ slice_index c.index-rows-i.result w.column = c.number_at-key.ensures ∙ ap (λ (r : Row). slice_index r w.column) c.as_slice.ensures in
    c.in_ok-push_full.ensures
    ∙ ap (λ (l : List Group). l ++ table_windows w.most w.column w.size w.advance seen key) c.loop-i.invariant
    ∙ fulls_more w.most w.column w.size w.advance rows seen c.loop-i.i key c.index-rows-i.result c.loop-i-test.true c.index-rows-i.is refl is
