use Rattle.std.proofs.Common.{[], Option, sym, ap, ◌∙◌}
use Rattle.std.specs.Prelude.{bytes_eq, find, option_map, unwrap_or}
use Rattle.gl_values.specs.Results.{Row}
use Rattle.gl_query.specs.Results.{Source, first_row}
use Rattle.gl_reference.specs.declared.columns.Source.{Source as Given}
use Rattle.gl_reference.specs.Sources.{env_view, source_of}
use Rattle.gl_reference.proofs.columns.words_of.Goals as goal

-- what a source with a name says of its first row
abbrev first_told : Option Source → Row
first_told o = first_row (unwrap_or (option_map (λ (s : Source). s.rows) o) [])

pub returns-in-Some : goal.returns-in-Some
returns-in-Some c =
    let env = env_view c.args.sources.now in
    c.first_row.ensures ∙ ap (λ (o : Option Given). first_told (option_map source_of o)) (sym c.in-Some.is) ∙ ap first_told c.source_named.ensures
    ∙ (λ i. first_told (find (λ (s : Source). bytes_eq (c.parameters_name.ensures i) s.stream.name) env))

pub returns-in-None : goal.returns-in-None
returns-in-None c =
    let env = env_view c.args.sources.now in
    ap (λ (o : Option Given). first_told (option_map source_of o)) (sym c.in-None.is) ∙ ap first_told c.source_named.ensures
    ∙ (λ i. first_told (find (λ (s : Source). bytes_eq (c.parameters_name.ensures i) s.stream.name) env))
