-- What is compiled of a text of several queries.
use Rattle.std.proofs.Common.{◌≡◌, ℕ, List, map}
use Rattle.std.specs.List.{AllByRecursion}
use Rattle.gl_schema.specs.declared.schema.Schema.{Schema}
use Rattle.gl_schema.specs.Schemas.{IsSchema}
use Rattle.gl_query.specs.Laws.{TreesAreAlike}
use Rattle.gl_query_texts.specs.ListLaws.{StatementsAreListed}
use Rattle.gl_query_texts.specs.Lists.{HasStatements, IsCheckedOver, tree_of}
use Rattle.gl_plan.specs.Together.{ArePlanned, statements_of}
use Rattle.gl_many.specs.declared.compiling.Many.{Many}
use Rattle.gl_many.specs.Compiles.{AreCompiled}
use Rattle.gl_many.specs.Meets.{MeetTogether, shared_gaps}
use Rattle.gl_many.specs.Queries.{AreQueries}
use Rattle.gl_many.proofs.Reading.{can_stand, has_trees}
use Rattle.gl_many.proofs.Standing.{Laws, gap_is, latencies_are, short, ticks_are}

module _ (schema : Schema) (text : List ℕ) (m : Many) (fine : IsSchema schema) (same : m.schema ≡ schema) (has : HasStatements schema text (map tree_of m.statements))
    (over : AllByRecursion (IsCheckedOver schema) m.statements) (is : ArePlanned schema (statements_of m.statements) m.planned) where
  -- its statements are queries of the text
  pub are_queries : AreQueries schema text (statements_of m.statements)
  are_queries = record { has = has_trees schema m.statements over text fine has; within = is.limits }

  pub are_compiled : Laws → TreesAreAlike → StatementsAreListed → MeetTogether schema (statements_of m.statements) (shared_gaps schema (statements_of m.statements)) m.text.items → AreCompiled schema text m
  are_compiled laws alike listed meets =
      let ss = statements_of m.statements in
      let can = can_stand schema m.statements over text fine has alike listed in
      record {
        schema' = same;
        queries = are_queries;
        planned = is;
        latencies = latencies_are laws schema ss m.planned can is;
        gap = gap_is laws schema ss m.planned can is;
        ticks = ticks_are laws schema ss m.planned can is;
        short = short laws schema ss m.planned can is;
        meets = meets;
      }
