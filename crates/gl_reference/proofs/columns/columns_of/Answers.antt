use Rattle.std.proofs.Common.{◌≡◌, List, ◌∷◌, IfOk, ◌∙◌, subst}
use Rattle.gl_schema.specs.declared.schema.Column.{Column}
use Rattle.gl_query.specs.Columns.{columns_of, parameter_stream}
use Rattle.gl_query.specs.Results.{streams_of}
use Rattle.gl_query.specs.Shapes.{query_shape}
use Rattle.gl_reference.specs.Sources.{env_view}
use Rattle.gl_reference.proofs.Naming.{parameters_first}
use Rattle.gl_reference.proofs.columns.columns_of.Goals as goal

pub returns : goal.returns
returns c =
    let q = query_shape c.args.query.now in
    let streams = c.as_slice.ensures ∙ c.in_ok-streams.ensures in
    let same = (λ i. columns_of (parameter_stream (c.parameters_of-parameters.ensures i) ∷ streams i) q) ∙ parameters_first (streams_of (env_view c.args.sources.now)) q in
    subst (λ (l : List Column). IfOk c.columns_of.result (λ v. v ≡ l)) same c.columns_of.ensures
