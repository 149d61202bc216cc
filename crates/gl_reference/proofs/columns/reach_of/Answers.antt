use Rattle.std.proofs.Common.{◌≡◌, List, ◌++◌, IfOk, map, subst}
use Rattle.gl_schema.specs.declared.schema.Column.{Column}
use Rattle.gl_query.specs.Columns.{marked}
use Rattle.gl_reference.proofs.columns.reach_of.Goals as goal

pub returns : goal.returns
returns c =
    subst (λ (parameters : List Column). IfOk c.reach_of.result (λ v. v ≡ c.args.columns.now ++ map marked parameters)) c.parameters_of-parameters.ensures
    c.reach_of.ensures
