use Rattle.std.proofs.Common.{◌≡◌, ◌∷◌, true, List, ap, ◌∙◌, subst, IfOk}
use Rattle.gl_schema.specs.declared.schema.Column.{Column}
use Rattle.gl_schema.specs.declared.schema.Stream.{Stream}
use Rattle.gl_query.specs.Results.{Env, IsResultIn, Source, env_of, first_row, numbered, parameter_source}
use Rattle.gl_query.specs.Shapes.{query_shape}
use Rattle.gl_reference.specs.Sources.{env_view, given_inputs, source_of}
use Rattle.gl_reference.proofs.Fitting.{statement_fits}
use Rattle.gl_reference.proofs.results.evaluate.Goals as goal

pub returns-clause-value : goal.returns-clause-value
returns-clause-value c =
    let schema = c.args.schema.now in
    let tables = c.args.brought.rows.now in
    let places = c.args.brought.places.now in
    let times = c.args.brought.times.now in
    let ticks = c.args.brought.ticks in
    let words = c.args.brought.words.now in
    let first : source_of c.parameters_as-first.result ≡ parameter_source schema.parameters words =
    c.parameters_as-first.ensures words (c.as_slice-rows.ensures ∙ c.in_ok-table.ensures)
    ∙ ap (λ (ps : List Column). parameter_source ps words) c.as_slice-parameters.ensures in
    let is : env_view c.as_slice-2.result.now ≡ env_of schema (given_inputs tables places times ticks words) =
    ap env_view c.as_slice-2.ensures.value ∙ c.in_ok-sources.ensures
    ∙ ap (λ (s : Source). s ∷ numbered 0 c.as_slice.result.now (given_inputs tables places times ticks (first_row s.rows))) first
    ∙ ap (λ (l : List Stream). parameter_source schema.parameters words ∷ numbered 0 l (given_inputs tables places times ticks words)) c.as_slice.ensures in
    subst (λ (env : Env). IfOk c.result_of.result (λ a. IsResultIn (query_shape c.args.statement.now.query) env a.rows a.spill)) is c.result_of.ensures.value

pub returns-clause-fits : goal.returns-clause-fits
returns-clause-fits c = λ fit.
    let schema = c.args.schema.now in
    let tables = c.args.brought.rows.now in
    let places = c.args.brought.places.now in
    let times = c.args.brought.times.now in
    let ticks = c.args.brought.ticks in
    let words = c.args.brought.words.now in
    let first : source_of c.parameters_as-first.result ≡ parameter_source schema.parameters words =
    c.parameters_as-first.ensures words (c.as_slice-rows.ensures ∙ c.in_ok-table.ensures)
    ∙ ap (λ (ps : List Column). parameter_source ps words) c.as_slice-parameters.ensures in
    let is : env_view c.as_slice-2.result.now ≡ env_of schema (given_inputs tables places times ticks words) =
    ap env_view c.as_slice-2.ensures.value ∙ c.in_ok-sources.ensures
    ∙ ap (λ (s : Source). s ∷ numbered 0 c.as_slice.result.now (given_inputs tables places times ticks (first_row s.rows))) first
    ∙ ap (λ (l : List Stream). parameter_source schema.parameters words ∷ numbered 0 l (given_inputs tables places times ticks words)) c.as_slice.ensures in
    let facts = statement_fits schema c.args.statement.now tables places times ticks words (env_view c.as_slice-2.result.now) fit is in
    c.result_of.ensures.fits true facts.0 facts.1
