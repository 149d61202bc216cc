use Rattle.std.proofs.Common.{ap, ◌∙◌}
use Rattle.gl_reference.specs.Partitions.{is_key}
use Rattle.gl_reference.proofs.Partitioning.{any_key}
use Rattle.gl_reference.proofs.partitions.has_key.Goals as goal

pub returns : goal.returns
returns c =
    c.is_key.ensures ∙ ap (λ gs. is_key gs c.args.key) (c.as_slice.ensures ∙ c.in_ok-groups.ensures)
    ∙ any_key c.args.most c.args.column c.args.rows.now c.args.key
