use Rattle.std.proofs.Common.{ℕ, List, [], Option, sym, ap, ◌∙◌}
use Rattle.std.specs.Prelude.{bytes_eq, find, option_map, unwrap_or}
use Rattle.gl_query.specs.declared.tree.Query.{Query}
use Rattle.gl_query.specs.Results.{Source, ticks_in, times_in}
use Rattle.gl_query.specs.Shapes.{query_shape}
use Rattle.gl_reference.specs.declared.columns.Source.{Source as Given}
use Rattle.gl_reference.specs.Sources.{env_view, source_of}
use Rattle.gl_reference.proofs.windows.clock_of.Goals as goal

-- what a source with a name says of its times and ticks
abbrev times_told : Option Source → List ℕ
times_told o = unwrap_or (option_map (λ (s : Source). s.times) o) []

abbrev ticks_told : Option Source → ℕ
ticks_told o = unwrap_or (option_map (λ (s : Source). s.ticks) o) 0

pub returns-in-Some-clause-times : goal.returns-in-Some-clause-times
returns-in-Some-clause-times c =
    let env = env_view c.args.sources.now in
    ap (λ (o : Option Given). times_told (option_map source_of o)) (sym c.in-Some.is) ∙ ap times_told c.source_named.ensures
    ∙ (λ i. times_told (find (λ (s : Source). bytes_eq (c.as_slice.ensures i) s.stream.name) env)) ∙ ap (λ (q : Query). times_in env (query_shape q)) (sym c.in-Read.is)

pub returns-in-Some-clause-ticks : goal.returns-in-Some-clause-ticks
returns-in-Some-clause-ticks c =
    let env = env_view c.args.sources.now in
    ap (λ (o : Option Given). ticks_told (option_map source_of o)) (sym c.in-Some.is) ∙ ap ticks_told c.source_named.ensures
    ∙ (λ i. ticks_told (find (λ (s : Source). bytes_eq (c.as_slice.ensures i) s.stream.name) env)) ∙ ap (λ (q : Query). ticks_in env (query_shape q)) (sym c.in-Read.is)

pub returns-in-None-clause-times : goal.returns-in-None-clause-times
returns-in-None-clause-times c =
    let env = env_view c.args.sources.now in
    ap (λ (o : Option Given). times_told (option_map source_of o)) (sym c.in-None.is) ∙ ap times_told c.source_named.ensures
    ∙ (λ i. times_told (find (λ (s : Source). bytes_eq (c.as_slice.ensures i) s.stream.name) env)) ∙ ap (λ (q : Query). times_in env (query_shape q)) (sym c.in-Read.is)

pub returns-in-None-clause-ticks : goal.returns-in-None-clause-ticks
returns-in-None-clause-ticks c =
    let env = env_view c.args.sources.now in
    ap (λ (o : Option Given). ticks_told (option_map source_of o)) (sym c.in-None.is) ∙ ap ticks_told c.source_named.ensures
    ∙ (λ i. ticks_told (find (λ (s : Source). bytes_eq (c.as_slice.ensures i) s.stream.name) env)) ∙ ap (λ (q : Query). ticks_in env (query_shape q)) (sym c.in-Read.is)
