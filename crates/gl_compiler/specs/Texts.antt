-- What is compiled of the texts of a schema and of a query, and why others are not.
use Rattle.std.specs.Prelude.{ℕ, List, Result}
use Rattle.gl_schema.specs.declared.schema.Schema.{Schema}
use Rattle.gl_schema.specs.SchemaText.{IsSchemaText}
use Rattle.gl_schema.specs.SchemaFaults.{IsFirstFault}
use Rattle.gl_compiler.specs.declared.compiling.Compiled.{Compiled}
use Rattle.gl_compiler.specs.Compiles.{IsCompiled}
use Rattle.gl_compiler.specs.declared.fault.CompileFault.{CompileFault}
use Rattle.gl_compiler.specs.declared.fault.CompileFault.TheVariants as fault
use Rattle.gl_compiler.specs.Queries.{IfRefused, IsQuery, IsQueryRefused, IsTold}

-- what was compiled of the texts of a schema and of a query
pub record IsCompiledText (text query : List ℕ) (c : Compiled) : Type 0 where
  pub schema : IsSchemaText text c.schema
  pub query' : IsQuery c.schema query c.statement
  pub compiled : IsCompiled c.schema c.statement c

-- the text has a schema over which this is so
pub record OfSchema (text : List ℕ) (P : Schema → Type 0) : Type 0 where
  pub schema : Schema
  pub is : IsSchemaText text schema
  pub so : P schema

-- why texts are not compiled: the first fault of the schema's text, or why the query is refused over the schema; want
-- of memory is free
abbrev pub IsTextRefused : List ℕ → List ℕ → CompileFault → Type 0
IsTextRefused text query (fault.Schema f) = IsFirstFault text f
IsTextRefused text query (fault.Query f) = OfSchema text (λ schema. IsQueryRefused schema query (fault.Query f))
IsTextRefused text query (fault.Limit l) = OfSchema text (λ schema. IsQueryRefused schema query (fault.Limit l))
IsTextRefused text query fault.Memory = Unit {0}

-- each cause of a refusal is what was answered, unless memory ran out
abbrev pub TellsTextCauses : List ℕ → List ℕ → Result Compiled CompileFault → Type 0
TellsTextCauses text query r = (f : CompileFault) → IfRefused f (IsTextRefused text query f → IsTold r f)
