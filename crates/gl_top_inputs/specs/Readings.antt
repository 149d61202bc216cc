-- What a text of queries is read as, and what may be wrong with it.
use Rattle.std.specs.Prelude.{ℕ, List}
use Rattle.gl_schema.specs.declared.schema.Schema.{Schema}
use Rattle.gl_query.specs.declared.fault.QueryFault.{QueryFault}
use Rattle.gl_query_texts.specs.Judged.{IsQueryFault}
use Rattle.gl_query_texts.specs.Limits.{IsOverLimit}
use Rattle.gl_figures.specs.declared.Limit.{Limit}
use Rattle.gl_many.specs.Queries.{AreOverLimit, IsFaultOfAll}
use Rattle.gl_top_forms.specs.declared.command.Part.{Part}
use Rattle.gl_top_forms.specs.declared.command.Part.TheVariants as part

-- one query, or several on one module
pub data Reading : Type 0 where
  One : Reading
  Several : Reading

-- the part of the words that is read so
abbrev pub part_read : Reading → Part
part_read One = part.Query
part_read Several = part.Queries

-- a text of one query or of several is refused over the schema, and this is its first fault
abbrev pub IsFaultBy : Reading → Schema → List ℕ → QueryFault → Type 0
IsFaultBy One schema text fault = IsQueryFault schema text fault
IsFaultBy Several schema text fault = IsFaultOfAll schema text fault

-- all that it has is accepted over the schema, and its plan passes this limit
abbrev pub IsOverBy : Reading → Schema → List ℕ → Limit → Type 0
IsOverBy One schema text limit = IsOverLimit schema text limit
IsOverBy Several schema text limit = AreOverLimit schema text limit
