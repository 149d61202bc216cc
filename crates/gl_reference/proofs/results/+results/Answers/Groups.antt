-- Groups, and windows of each key: what the body makes of each, and that nothing but memory is wanted there.
use Rattle.std.proofs.Common.{◌≡◌, ◌∙◌, List, sym, ap, subst, slice_index}
use Rattle.gl_values.specs.Lists.{has_further}
use Rattle.gl_values.specs.Tables.{keyed_groups}
use Rattle.gl_schema.specs.declared.schema.Column.{Column}
use Rattle.gl_query.specs.declared.tree.Query.{Query}
use Rattle.gl_query.specs.Shapes.{query_shape}
use Rattle.gl_query.specs.Values.{column_number}
use Rattle.gl_values.specs.Results.{Row}
use Rattle.gl_query.specs.Results.{IsResultIn, columns_in}
use Rattle.gl_reference.specs.Sources.{env_view}
use Rattle.gl_reference.specs.Partitions.{table_parts}
use Rattle.gl_reference.proofs.Passing.{groups_pass, partitions_pass, passes}
use Rattle.gl_reference.proofs.Forms.{groups_made, partitions_made}
use Rattle.gl_reference.proofs.results.+results.Goals as goal
use Rattle.gl_reference.proofs.results.+results.Answers.Said.{Accepted, Gives}

pub result_of-returns-in_ok-further-in-PerGroup-clause-value : goal.result_of-returns-in_ok-further-in-PerGroup-clause-value
result_of-returns-in_ok-further-in-PerGroup-clause-value t c =
    let env = env_view c.args.sources.now in
    let from = c.in_ok-from-in-PerGroup.from in
    let most = c.in_ok-most-in-PerGroup.most in
    let column = c.column_number-column.result in
    let is = subst (Gives c.args.sources.now from) c.deref-in-PerGroup.ensures c.in_ok-from-in-PerGroup.ensures.value in
    let of_source = c.in_ok-columns-in-PerGroup.ensures ∙ ap (λ (q : Query). columns_in env (query_shape q)) c.deref-in-PerGroup-2.ensures in
    let columns : c.as_slice-in-PerGroup-5.result.now ≡ columns_in env (query_shape c.in-PerGroup.source.value) = c.as_slice-in-PerGroup-5.ensures ∙ of_source in
    let place : column ≡ column_number c.as_slice-in-PerGroup-5.result.now c.in-PerGroup.key.text =
    c.column_number-column.ensures.value ∙ ap (λ (k : List Column). column_number k c.as_slice-in-PerGroup-2.result.now) (c.as_slice-in-PerGroup.ensures ∙ sym c.as_slice-in-PerGroup-5.ensures)
    ∙ ap (column_number c.as_slice-in-PerGroup-5.result.now) c.as_slice-in-PerGroup-2.ensures in
    let parts : c.as_slice-in-PerGroup-6.result.now ≡ keyed_groups most column from.rows =
    c.as_slice-in-PerGroup-6.ensures ∙ c.in_ok-parts-in-PerGroup.ensures ∙ ap (keyed_groups most column) c.as_slice-in-PerGroup-3.ensures in
    let further : c.in_ok-further-in-PerGroup.further ≡ has_further most (λ (r : Row). slice_index r column) from.rows =
    c.in_ok-further-in-PerGroup.ensures ∙ ap (has_further most (λ (r : Row). slice_index r column)) c.as_slice-in-PerGroup-7.ensures in
    let made = groups_made env c.in-PerGroup.var.text (query_shape c.in-PerGroup.source.value) c.in-PerGroup.key.text c.in-PerGroup.groups.value (query_shape c.in-PerGroup.body.value) from.rows from.spill _ _ _ most column _ _ _ _ _ _ is (ap query_shape c.deref-in-PerGroup-3.ensures) c.as_slice-in-PerGroup-4.ensures columns c.in_ok-most-in-PerGroup.ensures.value place parts c.in_ok-inside-in-PerGroup.ensures.value further c.of_parts-in-PerGroup.ensures.rows c.of_parts-in-PerGroup.ensures.spill in
    subst (λ (q : Query). IsResultIn (query_shape q) env c.of_parts-in-PerGroup.result.rows c.of_parts-in-PerGroup.result.spill) (sym c.in-PerGroup.is) made

pub result_of-returns-in_err-inside-in-PerGroup-clause-fits : goal.result_of-returns-in_err-inside-in-PerGroup-clause-fits
result_of-returns-in_err-inside-in-PerGroup-clause-fits t c = λ timed s a.
    let env = env_view c.args.sources.now in
    let from = c.in_ok-from-in-PerGroup.from in
    let most = c.in_ok-most-in-PerGroup.most in
    let column = c.column_number-column.result in
    let whole = subst (Accepted c.args.sources.now timed) c.in-PerGroup.is a in
    let is = subst (Gives c.args.sources.now from) c.deref-in-PerGroup.ensures c.in_ok-from-in-PerGroup.ensures.value in
    let columns : c.as_slice-in-PerGroup-5.result.now ≡ columns_in env (query_shape c.in-PerGroup.source.value) =
    c.as_slice-in-PerGroup-5.ensures ∙ c.in_ok-columns-in-PerGroup.ensures ∙ ap (λ (q : Query). columns_in env (query_shape q)) c.deref-in-PerGroup-2.ensures in
    let parts : c.as_slice-in-PerGroup-6.result.now ≡ keyed_groups most column from.rows =
    c.as_slice-in-PerGroup-6.ensures ∙ c.in_ok-parts-in-PerGroup.ensures ∙ ap (keyed_groups most column) c.as_slice-in-PerGroup-3.ensures in
    let want = groups_pass c.results_fit.ensures env timed c.in-PerGroup.var.text (query_shape c.in-PerGroup.source.value) c.in-PerGroup.key.text c.in-PerGroup.groups.value (query_shape c.in-PerGroup.body.value) from.rows from.spill _ _ _ most column _ _ s whole is (ap query_shape c.deref-in-PerGroup-3.ensures) c.as_slice-in-PerGroup-4.ensures columns parts (c.in_err-inside-in-PerGroup.ensures.fits s) in
    passes _ c.from_residual-in_err-inside-in-PerGroup.ensures.1 (λ y e. e ∙ want)

pub result_of-returns-in_ok-further-in-Partition-clause-value : goal.result_of-returns-in_ok-further-in-Partition-clause-value
result_of-returns-in_ok-further-in-Partition-clause-value t c =
    let env = env_view c.args.sources.now in
    let from = c.in_ok-from-in-Partition.from in
    let most = c.in_ok-most-in-Partition.most in
    let column = c.column_number-column-in-Partition.result in
    let is = subst (Gives c.args.sources.now from) c.deref-in-Partition.ensures c.in_ok-from-in-Partition.ensures.value in
    let of_source = c.in_ok-columns-in-Partition.ensures ∙ ap (λ (q : Query). columns_in env (query_shape q)) c.deref-in-Partition-2.ensures in
    let columns : c.as_slice-in-Partition-5.result.now ≡ columns_in env (query_shape c.in-Partition.source.value) = c.as_slice-in-Partition-5.ensures ∙ of_source in
    let place : column ≡ column_number c.as_slice-in-Partition-5.result.now c.in-Partition.key.text =
    c.column_number-column-in-Partition.ensures.value ∙ ap (λ (k : List Column). column_number k c.as_slice-in-Partition-2.result.now) (c.as_slice-in-Partition.ensures ∙ sym c.as_slice-in-Partition-5.ensures)
    ∙ ap (column_number c.as_slice-in-Partition-5.result.now) c.as_slice-in-Partition-2.ensures in
    let parts : c.as_slice-in-Partition-6.result.now ≡ table_parts most column c.in-Partition.size.value c.in-Partition.advance.value from.rows =
    c.as_slice-in-Partition-6.ensures ∙ c.in_ok-parts-in-Partition.ensures.value ∙ ap (table_parts most column c.in-Partition.size.value c.in-Partition.advance.value) c.as_slice-in-Partition-3.ensures in
    let further : c.in_ok-further-in-Partition.further ≡ has_further most (λ (r : Row). slice_index r column) from.rows =
    c.in_ok-further-in-Partition.ensures ∙ ap (has_further most (λ (r : Row). slice_index r column)) c.as_slice-in-Partition-7.ensures in
    let made = partitions_made env c.in-Partition.var.text (query_shape c.in-Partition.source.value) c.in-Partition.key.text c.in-Partition.groups.value c.in-Partition.size.value c.in-Partition.advance.value (query_shape c.in-Partition.body.value) from.rows from.spill _ _ _ most column _ _ _ _ _ _ is (ap query_shape c.deref-in-Partition-3.ensures) c.as_slice-in-Partition-4.ensures columns c.in_ok-most-in-Partition.ensures.value place parts c.in_ok-inside-in-Partition.ensures.value further c.of_parts-in-Partition.ensures.rows c.of_parts-in-Partition.ensures.spill in
    subst (λ (q : Query). IsResultIn (query_shape q) env c.of_parts-in-Partition.result.rows c.of_parts-in-Partition.result.spill) (sym c.in-Partition.is) made

pub result_of-returns-in_err-inside-in-Partition-clause-fits : goal.result_of-returns-in_err-inside-in-Partition-clause-fits
result_of-returns-in_err-inside-in-Partition-clause-fits t c = λ timed s a.
    let env = env_view c.args.sources.now in
    let from = c.in_ok-from-in-Partition.from in
    let most = c.in_ok-most-in-Partition.most in
    let column = c.column_number-column-in-Partition.result in
    let whole = subst (Accepted c.args.sources.now timed) c.in-Partition.is a in
    let is = subst (Gives c.args.sources.now from) c.deref-in-Partition.ensures c.in_ok-from-in-Partition.ensures.value in
    let columns : c.as_slice-in-Partition-5.result.now ≡ columns_in env (query_shape c.in-Partition.source.value) =
    c.as_slice-in-Partition-5.ensures ∙ c.in_ok-columns-in-Partition.ensures ∙ ap (λ (q : Query). columns_in env (query_shape q)) c.deref-in-Partition-2.ensures in
    let parts : c.as_slice-in-Partition-6.result.now ≡ table_parts most column c.in-Partition.size.value c.in-Partition.advance.value from.rows =
    c.as_slice-in-Partition-6.ensures ∙ c.in_ok-parts-in-Partition.ensures.value ∙ ap (table_parts most column c.in-Partition.size.value c.in-Partition.advance.value) c.as_slice-in-Partition-3.ensures in
    let want = partitions_pass c.results_fit.ensures env timed c.in-Partition.var.text (query_shape c.in-Partition.source.value) c.in-Partition.key.text c.in-Partition.groups.value c.in-Partition.size.value c.in-Partition.advance.value (query_shape c.in-Partition.body.value) from.rows from.spill _ _ _ most column _ _ s whole is (ap query_shape c.deref-in-Partition-3.ensures) c.as_slice-in-Partition-4.ensures columns parts (c.in_err-inside-in-Partition.ensures.fits s) in
    passes _ c.from_residual-in_err-inside-in-Partition.ensures.1 (λ y e. e ∙ want)
