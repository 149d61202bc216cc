use Rattle.std.proofs.Common.{Option, sym, ap, ◌∙◌}
use Rattle.std.specs.Prelude.{bytes_eq, find, option_map}
use Rattle.gl_query.specs.Columns.{colon}
use Rattle.gl_query.specs.Results.{Source}
use Rattle.gl_reference.specs.declared.columns.Source.{Source as Given}
use Rattle.gl_reference.specs.Sources.{env_view, source_of}
use Rattle.gl_reference.proofs.Naming.{columns_said, columns_told}
use Rattle.gl_reference.proofs.columns.parameters_of.Goals as goal

pub returns-in-Some : goal.returns-in-Some
returns-in-Some c =
    let env = env_view c.args.sources.now in
    ap (λ (o : Option Given). columns_told (option_map source_of o)) (sym c.in-Some.is) ∙ ap columns_told c.source_named.ensures
    ∙ (λ i. columns_told (find (λ (s : Source). bytes_eq (c.parameters_name.ensures i) s.stream.name) env))
    ∙ sym (columns_said colon env)

pub returns-in-None : goal.returns-in-None
returns-in-None c =
    let env = env_view c.args.sources.now in
    ap (λ (o : Option Given). columns_told (option_map source_of o)) (sym c.in-None.is) ∙ ap columns_told c.source_named.ensures
    ∙ (λ i. columns_told (find (λ (s : Source). bytes_eq (c.parameters_name.ensures i) s.stream.name) env))
    ∙ sym (columns_said colon env)
