use Rattle.std.proofs.Common.{◌++◌, ap, ◌∙◌, List}
use Rattle.std.specs.Prelude.{flat_map}
use Rattle.gl_values.specs.declared.lists.Group.{Group}
use Rattle.gl_reference.specs.Partitions.{table_fulls, table_shorts_of}
use Rattle.gl_reference.proofs.Partitioning.{parts_are, shorts_are}
use Rattle.gl_reference.proofs.partitions.partitions_of.Goals as goal

pub returns-clause-value : goal.returns-clause-value
returns-clause-value c =
    let n = c.args.most in
    let rows = c.args.rows.now in
    c.in_ok-push_all_shorts.ensures
    ∙ (λ i. c.in_ok-out.ensures i ++ flat_map (table_shorts_of c.args.size c.args.advance) ((c.as_slice.ensures ∙ c.in_ok-groups.ensures) i))
    ∙ ap (λ (l : List Group). table_fulls n c.args.column c.args.size c.args.advance rows ++ l) (shorts_are n c.args.column c.args.size c.args.advance rows)
    ∙ parts_are n c.args.column c.args.size c.args.advance rows
