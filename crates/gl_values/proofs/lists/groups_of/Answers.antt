use Rattle.std.proofs.Common.{map, take_all, ap, sym, ◌∙◌}
use Rattle.gl_values.specs.Tables.{table_group}
use Rattle.gl_values.proofs.Grouping.{keyed_groups_are}
use Rattle.gl_values.proofs.lists.groups_of.Goals as goal

pub returns : goal.returns
returns c =
    let group = table_group c.args.column c.args.rows.now in
    let keys = c.deref-key-items.result.now in
    c.loop-key.invariant
    ∙ ap (map group) (take_all c.loop-key.key-index keys c.loop-key-test.false ∙ c.deref-key-items.ensures.value ∙ c.in_ok-keys.ensures)
    ∙ sym (keyed_groups_are c.args.most c.args.column c.args.rows.now)
