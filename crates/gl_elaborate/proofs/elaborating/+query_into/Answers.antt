use Rattle.std.proofs.Common.{◌∙◌, ap, sym}
use Rattle.gl_query.specs.declared.tree.Measure.TheVariants.{Tuples, Time}
use Rattle.gl_query.specs.Sources.{scope_of}
use Rattle.gl_query.specs.Values.{column_number}
use Rattle.gl_query.specs.Columns.{but_key}
use Rattle.gl_query.specs.Shapes.{query_shape, slots_shape}
use Rattle.gl_elaborate.specs.Sources.{read_of}
use Rattle.gl_elaborate.proofs.BodyLemmas.{each-root, each-fits, group-root, group-fits, partition-root, partition-fits}
use Rattle.gl_elaborate.proofs.SideLemmas.{concat-columns, concat-root, join-columns, join-root, keeps-then}
use Rattle.gl_elaborate.proofs.elaborating.+query_into.Goals as goal

pub put_window-requires-clause-fits : goal.put_window-requires-clause-fits
put_window-requires-clause-fits t c =
    each-fits (read_of c.args.sources) (scope_of c.args.sources).sources (query_shape c.args.query.now) (query_shape c.in-Each.source.value)
    (query_shape c.deref-in-Each.result.now) (query_shape c.in-Each.body.value) (query_shape c.deref-in-Each-2.result.now)
    c.args.plan.now c.query_into-in-Each.new.plan c.query_into-in-Each-2.new.plan c.in_ok-from-in-Each.from c.in_ok-into-in-Each.into
    c.in-Each.var.text _ _ _ (ap query_shape c.deref-in-Each.ensures) (ap query_shape c.deref-in-Each-2.ensures)
    c.in_ok-from-in-Each.ensures.root c.as_slice-in-Each.ensures (c.as_slice-in-Each-2.ensures ∙ c.in_ok-from-in-Each.ensures.columns)
    c.parameters_in-parameters.ensures
    c.in_ok-into-in-Each.ensures.root Tuples c.in-Each.size.value c.in-Each.advance.value (ap query_shape c.in-Each.is) c.requires.fit

pub returns-in_ok-root-in-Each-clause-root : goal.returns-in_ok-root-in-Each-clause-root
returns-in_ok-root-in-Each-clause-root t c =
    each-root (read_of c.args.sources) (scope_of c.args.sources).sources (query_shape c.args.query.now) (query_shape c.in-Each.source.value)
    (query_shape c.deref-in-Each.result.now) (query_shape c.in-Each.body.value) (query_shape c.deref-in-Each-2.result.now)
    c.args.plan.now c.query_into-in-Each.new.plan c.query_into-in-Each-2.new.plan c.in_ok-from-in-Each.from c.in_ok-into-in-Each.into
    c.in-Each.var.text _ _ _ (ap query_shape c.deref-in-Each.ensures) (ap query_shape c.deref-in-Each-2.ensures)
    c.in_ok-from-in-Each.ensures.root c.as_slice-in-Each.ensures (c.as_slice-in-Each-2.ensures ∙ c.in_ok-from-in-Each.ensures.columns)
    c.parameters_in-parameters.ensures
    c.in_ok-into-in-Each.ensures.root Tuples c.in-Each.size.value c.in-Each.advance.value c.in_ok-root-in-Each.root c.put_window.new.plan
    (ap query_shape c.in-Each.is) c.in_ok-root-in-Each.ensures.added

pub put_window-requires-in-EachTime-clause-fits : goal.put_window-requires-in-EachTime-clause-fits
put_window-requires-in-EachTime-clause-fits t c =
    each-fits (read_of c.args.sources) (scope_of c.args.sources).sources (query_shape c.args.query.now) (query_shape c.in-EachTime.source.value)
    (query_shape c.deref-in-EachTime.result.now) (query_shape c.in-EachTime.body.value) (query_shape c.deref-in-EachTime-2.result.now)
    c.args.plan.now c.query_into-in-EachTime.new.plan c.query_into-in-EachTime-2.new.plan c.in_ok-from-in-EachTime.from c.in_ok-into-in-EachTime.into
    c.in-EachTime.var.text _ _ _ (ap query_shape c.deref-in-EachTime.ensures) (ap query_shape c.deref-in-EachTime-2.ensures)
    c.in_ok-from-in-EachTime.ensures.root c.as_slice-in-EachTime.ensures (c.as_slice-in-EachTime-2.ensures ∙ c.in_ok-from-in-EachTime.ensures.columns)
    c.parameters_in-parameters-in-EachTime.ensures
    c.in_ok-into-in-EachTime.ensures.root Time c.in-EachTime.size.value c.in-EachTime.advance.value (ap query_shape c.in-EachTime.is) c.requires.fit

pub returns-in_ok-root-in-EachTime-clause-root : goal.returns-in_ok-root-in-EachTime-clause-root
returns-in_ok-root-in-EachTime-clause-root t c =
    each-root (read_of c.args.sources) (scope_of c.args.sources).sources (query_shape c.args.query.now) (query_shape c.in-EachTime.source.value)
    (query_shape c.deref-in-EachTime.result.now) (query_shape c.in-EachTime.body.value) (query_shape c.deref-in-EachTime-2.result.now)
    c.args.plan.now c.query_into-in-EachTime.new.plan c.query_into-in-EachTime-2.new.plan c.in_ok-from-in-EachTime.from c.in_ok-into-in-EachTime.into
    c.in-EachTime.var.text _ _ _ (ap query_shape c.deref-in-EachTime.ensures) (ap query_shape c.deref-in-EachTime-2.ensures)
    c.in_ok-from-in-EachTime.ensures.root c.as_slice-in-EachTime.ensures (c.as_slice-in-EachTime-2.ensures ∙ c.in_ok-from-in-EachTime.ensures.columns)
    c.parameters_in-parameters-in-EachTime.ensures
    c.in_ok-into-in-EachTime.ensures.root Time c.in-EachTime.size.value c.in-EachTime.advance.value c.in_ok-root-in-EachTime.root c.put_window-in-EachTime.new.plan
    (ap query_shape c.in-EachTime.is) c.in_ok-root-in-EachTime.ensures.added

pub put_group-requires-clause-fits : goal.put_group-requires-clause-fits
put_group-requires-clause-fits t c =
    group-fits (read_of c.args.sources) (scope_of c.args.sources).sources (query_shape c.args.query.now) (query_shape c.in-PerGroup.source.value)
    (query_shape c.deref-in-PerGroup.result.now) (query_shape c.in-PerGroup.body.value) (query_shape c.deref-in-PerGroup-2.result.now)
    c.args.plan.now c.query_into-in-PerGroup.new.plan c.query_into-in-PerGroup-2.new.plan c.in_ok-from-in-PerGroup.from c.in_ok-into-in-PerGroup.into
    c.in-PerGroup.var.text _ _ _ (ap query_shape c.deref-in-PerGroup.ensures) (ap query_shape c.deref-in-PerGroup-2.ensures)
    c.in_ok-from-in-PerGroup.ensures.root c.as_slice-in-PerGroup.ensures (c.as_slice-in-PerGroup-2.ensures ∙ c.in_ok-from-in-PerGroup.ensures.columns)
    c.parameters_in-parameters-in-PerGroup.ensures
    c.in_ok-into-in-PerGroup.ensures.root c.in-PerGroup.key.text c.in-PerGroup.groups.value c.column_number-number.result (ap query_shape c.in-PerGroup.is)
    (c.column_number-number.ensures.value ∙ (λ i. column_number (c.as_slice-in-PerGroup-3.ensures i) (c.as_slice-in-PerGroup-4.ensures i))
    ∙ (λ i. column_number (sym c.as_slice-in-PerGroup-2.ensures i) c.in-PerGroup.key.text)) c.requires.fit

pub returns-in_ok-all-in-PerGroup-clause-root : goal.returns-in_ok-all-in-PerGroup-clause-root
returns-in_ok-all-in-PerGroup-clause-root t c =
    group-root (read_of c.args.sources) (scope_of c.args.sources).sources (query_shape c.args.query.now) (query_shape c.in-PerGroup.source.value)
    (query_shape c.deref-in-PerGroup.result.now) (query_shape c.in-PerGroup.body.value) (query_shape c.deref-in-PerGroup-2.result.now)
    c.args.plan.now c.query_into-in-PerGroup.new.plan c.query_into-in-PerGroup-2.new.plan c.in_ok-from-in-PerGroup.from c.in_ok-into-in-PerGroup.into
    c.in-PerGroup.var.text _ _ _ (ap query_shape c.deref-in-PerGroup.ensures) (ap query_shape c.deref-in-PerGroup-2.ensures)
    c.in_ok-from-in-PerGroup.ensures.root c.as_slice-in-PerGroup.ensures (c.as_slice-in-PerGroup-2.ensures ∙ c.in_ok-from-in-PerGroup.ensures.columns)
    c.parameters_in-parameters-in-PerGroup.ensures
    c.in_ok-into-in-PerGroup.ensures.root c.in-PerGroup.key.text c.in-PerGroup.groups.value c.column_number-number.result c.in_ok-root-in-PerGroup.root
    c.put_group.new.plan (ap query_shape c.in-PerGroup.is)
    (c.column_number-number.ensures.value ∙ (λ i. column_number (c.as_slice-in-PerGroup-3.ensures i) (c.as_slice-in-PerGroup-4.ensures i))
    ∙ (λ i. column_number (sym c.as_slice-in-PerGroup-2.ensures i) c.in-PerGroup.key.text)) c.in_ok-root-in-PerGroup.ensures.added

pub put_partition-requires-clause-fits : goal.put_partition-requires-clause-fits
put_partition-requires-clause-fits t c =
    partition-fits (read_of c.args.sources) (scope_of c.args.sources).sources (query_shape c.args.query.now) (query_shape c.in-Partition.source.value)
    (query_shape c.deref-in-Partition.result.now) (query_shape c.in-Partition.body.value) (query_shape c.deref-in-Partition-2.result.now)
    c.args.plan.now c.query_into-in-Partition.new.plan c.query_into-in-Partition-2.new.plan c.in_ok-from-in-Partition.from c.in_ok-into-in-Partition.into
    c.in-Partition.var.text _ _ _ (ap query_shape c.deref-in-Partition.ensures) (ap query_shape c.deref-in-Partition-2.ensures)
    c.in_ok-from-in-Partition.ensures.root c.as_slice-in-Partition.ensures (c.as_slice-in-Partition-2.ensures ∙ c.in_ok-from-in-Partition.ensures.columns)
    c.parameters_in-parameters-in-Partition.ensures
    c.in_ok-into-in-Partition.ensures.root c.in-Partition.key.text c.in-Partition.groups.value c.in-Partition.size.value c.in-Partition.advance.value c.column_number-number-in-Partition.result (ap query_shape c.in-Partition.is)
    (c.column_number-number-in-Partition.ensures.value ∙ (λ i. column_number (c.as_slice-in-Partition-3.ensures i) (c.as_slice-in-Partition-4.ensures i))
    ∙ (λ i. column_number (sym c.as_slice-in-Partition-2.ensures i) c.in-Partition.key.text)) c.requires.fit

pub returns-in_ok-all-in-Partition-clause-root : goal.returns-in_ok-all-in-Partition-clause-root
returns-in_ok-all-in-Partition-clause-root t c =
    partition-root (read_of c.args.sources) (scope_of c.args.sources).sources (query_shape c.args.query.now) (query_shape c.in-Partition.source.value)
    (query_shape c.deref-in-Partition.result.now) (query_shape c.in-Partition.body.value) (query_shape c.deref-in-Partition-2.result.now)
    c.args.plan.now c.query_into-in-Partition.new.plan c.query_into-in-Partition-2.new.plan c.in_ok-from-in-Partition.from c.in_ok-into-in-Partition.into
    c.in-Partition.var.text _ _ _ (ap query_shape c.deref-in-Partition.ensures) (ap query_shape c.deref-in-Partition-2.ensures)
    c.in_ok-from-in-Partition.ensures.root c.as_slice-in-Partition.ensures (c.as_slice-in-Partition-2.ensures ∙ c.in_ok-from-in-Partition.ensures.columns)
    c.parameters_in-parameters-in-Partition.ensures
    c.in_ok-into-in-Partition.ensures.root c.in-Partition.key.text c.in-Partition.groups.value c.in-Partition.size.value c.in-Partition.advance.value c.column_number-number-in-Partition.result c.in_ok-root-in-Partition.root
    c.put_partition.new.plan (ap query_shape c.in-Partition.is)
    (c.column_number-number-in-Partition.ensures.value ∙ (λ i. column_number (c.as_slice-in-Partition-3.ensures i) (c.as_slice-in-Partition-4.ensures i))
    ∙ (λ i. column_number (sym c.as_slice-in-Partition-2.ensures i) c.in-Partition.key.text)) c.in_ok-root-in-Partition.ensures.added

pub returns-in_ok-joined_columns-in-AsOf-clause-root : goal.returns-in_ok-joined_columns-in-AsOf-clause-root
returns-in_ok-joined_columns-in-AsOf-clause-root t c =
    join-root (read_of c.args.sources) (scope_of c.args.sources).sources (query_shape c.args.query.now) (query_shape c.in-AsOf.left.value)
    (query_shape c.deref-in-AsOf.result.now) (query_shape c.in-AsOf.right.value) (query_shape c.deref-in-AsOf-2.result.now)
    c.args.plan.now c.query_into-in-AsOf.new.plan c.query_into-in-AsOf-2.new.plan c.in_ok-left-in-AsOf.left c.in_ok-right-in-AsOf.right
    c.as_slice-in-AsOf.result.now c.as_slice-in-AsOf-2.result.now (ap query_shape c.deref-in-AsOf.ensures) (ap query_shape c.deref-in-AsOf-2.ensures)
    c.in_ok-left-in-AsOf.ensures.root (c.as_slice-in-AsOf.ensures ∙ c.in_ok-left-in-AsOf.ensures.columns)
    c.in_ok-right-in-AsOf.ensures.root (c.as_slice-in-AsOf-2.ensures ∙ c.in_ok-right-in-AsOf.ensures.columns)
    (slots_shape c.in-AsOf.slots) c.in_ok-root-in-AsOf.root c.as_of_over.new.plan (ap query_shape c.in-AsOf.is) c.in_ok-root-in-AsOf.ensures.added

pub returns-in_ok-joined_columns-in-AsOf-clause-columns : goal.returns-in_ok-joined_columns-in-AsOf-clause-columns
returns-in_ok-joined_columns-in-AsOf-clause-columns t c =
    join-columns (read_of c.args.sources) (scope_of c.args.sources).sources (query_shape c.args.query.now) (query_shape c.in-AsOf.left.value)
    (query_shape c.deref-in-AsOf.result.now) (query_shape c.in-AsOf.right.value) (query_shape c.deref-in-AsOf-2.result.now)
    c.args.plan.now c.query_into-in-AsOf.new.plan c.query_into-in-AsOf-2.new.plan c.in_ok-left-in-AsOf.left c.in_ok-right-in-AsOf.right
    c.in_ok-left-in-AsOf.lefts c.in_ok-right-in-AsOf.rights (ap query_shape c.deref-in-AsOf.ensures) (ap query_shape c.deref-in-AsOf-2.ensures)
    c.in_ok-left-in-AsOf.ensures.root c.in_ok-left-in-AsOf.ensures.columns
    c.in_ok-right-in-AsOf.ensures.root c.in_ok-right-in-AsOf.ensures.columns
    (slots_shape c.in-AsOf.slots) c.in_ok-joined_columns-in-AsOf.field-0 c.but_key-others.result (ap query_shape c.in-AsOf.is)
    c.in_ok-joined_columns-in-AsOf.ensures
    (c.but_key-others.ensures ∙ (λ i. but_key (c.as_slice-in-AsOf-3.ensures i) c.in_ok-right-in-AsOf.rights))

pub returns-in_ok-joined_columns-in-AsOf-clause-keeps : goal.returns-in_ok-joined_columns-in-AsOf-clause-keeps
returns-in_ok-joined_columns-in-AsOf-clause-keeps t c =
    keeps-then c.args.plan.now c.query_into-in-AsOf.new.plan c.as_of_over.new.plan c.in_ok-left-in-AsOf.ensures.keeps
    (keeps-then c.query_into-in-AsOf.new.plan c.query_into-in-AsOf-2.new.plan c.as_of_over.new.plan c.in_ok-right-in-AsOf.ensures.keeps c.in_ok-root-in-AsOf.ensures.keeps)

pub returns-in_ok-joined_columns-in-Concat-clause-root : goal.returns-in_ok-joined_columns-in-Concat-clause-root
returns-in_ok-joined_columns-in-Concat-clause-root t c =
    concat-root (read_of c.args.sources) (scope_of c.args.sources).sources (query_shape c.args.query.now) (query_shape c.in-Concat.left.value)
    (query_shape c.deref-in-Concat.result.now) (query_shape c.in-Concat.right.value) (query_shape c.deref-in-Concat-2.result.now)
    c.args.plan.now c.query_into-in-Concat.new.plan c.query_into-in-Concat-2.new.plan c.in_ok-left-in-Concat.left c.in_ok-right-in-Concat.right
    c.in_ok-left-in-Concat.columns c.in_ok-right-in-Concat.more (ap query_shape c.deref-in-Concat.ensures) (ap query_shape c.deref-in-Concat-2.ensures)
    c.in_ok-left-in-Concat.ensures.root c.in_ok-left-in-Concat.ensures.columns
    c.in_ok-right-in-Concat.ensures.root c.in_ok-right-in-Concat.ensures.columns
    c.in_ok-root-in-Concat.root c.put-in-Concat.new.plan (ap query_shape c.in-Concat.is) c.in_ok-root-in-Concat.ensures.added

pub returns-in_ok-joined_columns-in-Concat-clause-columns : goal.returns-in_ok-joined_columns-in-Concat-clause-columns
returns-in_ok-joined_columns-in-Concat-clause-columns t c =
    concat-columns (read_of c.args.sources) (scope_of c.args.sources).sources (query_shape c.args.query.now) (query_shape c.in-Concat.left.value)
    (query_shape c.deref-in-Concat.result.now) (query_shape c.in-Concat.right.value) (query_shape c.deref-in-Concat-2.result.now)
    c.args.plan.now c.query_into-in-Concat.new.plan c.query_into-in-Concat-2.new.plan c.in_ok-left-in-Concat.left c.in_ok-right-in-Concat.right
    c.in_ok-left-in-Concat.columns c.in_ok-right-in-Concat.more (ap query_shape c.deref-in-Concat.ensures) (ap query_shape c.deref-in-Concat-2.ensures)
    c.in_ok-left-in-Concat.ensures.root c.in_ok-left-in-Concat.ensures.columns
    c.in_ok-right-in-Concat.ensures.root c.in_ok-right-in-Concat.ensures.columns
    c.in_ok-joined_columns-in-Concat.field-0 (ap query_shape c.in-Concat.is) c.in_ok-joined_columns-in-Concat.ensures

pub returns-in_ok-joined_columns-in-Concat-clause-keeps : goal.returns-in_ok-joined_columns-in-Concat-clause-keeps
returns-in_ok-joined_columns-in-Concat-clause-keeps t c =
    keeps-then c.args.plan.now c.query_into-in-Concat.new.plan c.put-in-Concat.new.plan c.in_ok-left-in-Concat.ensures.keeps
    (keeps-then c.query_into-in-Concat.new.plan c.query_into-in-Concat-2.new.plan c.put-in-Concat.new.plan c.in_ok-right-in-Concat.ensures.keeps c.in_ok-root-in-Concat.ensures.keeps)
