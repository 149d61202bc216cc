-- What compiling several queries gives.
use Rattle.std.specs.Prelude.{◌≡◌, ℕ, ◌≤◌, ◌^◌, List, map}
use Rattle.std.specs.List.{AllByRecursion}
use Rattle.gl_gaps.specs.declared.Gaps.{Gaps}
use Rattle.gl_gaps.specs.Keeps.{gaps_with}
use Rattle.gl_schema.specs.declared.schema.Schema.{Schema}
use Rattle.gl_query.specs.declared.tree.Statement.{Statement}
use Rattle.gl_plan.specs.Together.{ArePlanned, statements_of}
use Rattle.gl_many.specs.declared.compiling.Many.{Many}
use Rattle.gl_many.specs.Meets.{MeetTogether, own_latency, shared_gap, shared_gaps, shared_ticks}
use Rattle.gl_many.specs.Queries.{AreQueries}

-- the statements that were compiled
abbrev pub statements_in : Many → List Statement
statements_in m = statements_of m.statements

-- how far apart beats and ticks are to be, as is printed
abbrev pub planned_gaps : Many → Gaps
planned_gaps m = gaps_with m.planned.gap m.planned.ticks

-- what was compiled of a text over a schema: every run of the module is right for each statement, within the figures
-- that are printed
pub record AreCompiled (schema : Schema) (text : List ℕ) (m : Many) : Type 0 where
  pub schema' : m.schema ≡ schema
  pub queries : AreQueries schema text (statements_in m)
  pub planned : ArePlanned schema (statements_in m) m.planned
  pub latencies : m.planned.latencies.items ≡ map (own_latency schema) (statements_in m)
  pub gap : m.planned.gap ≡ shared_gap schema (statements_in m)
  pub ticks : m.planned.ticks ≡ shared_ticks schema (statements_in m)
  pub short : AllByRecursion (λ latency. latency ≤ 2 ^ 32) m.planned.latencies.items
  pub meets : MeetTogether schema (statements_in m) (shared_gaps schema (statements_in m)) m.text.items
