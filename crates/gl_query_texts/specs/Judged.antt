-- Which texts have an accepted statement over a schema, and what is wrong with one that has none.
use Rattle.std.specs.Prelude.{◌≡◌, ◌≢◌, ◌⊎◌, ℕ, ◌≤◌, List, length, Some}
use Rattle.gl_schema.specs.declared.schema.Schema.{Schema}
use Rattle.gl_schema.specs.Schemas.{IsSchema}
use Rattle.gl_query.specs.declared.tree.Statement.{Statement}
use Rattle.gl_query.specs.declared.fault.QueryFault.{QueryFault}
use Rattle.gl_query.specs.declared.fault.QueryFault.TheVariants as fault
use Rattle.gl_query.specs.Accepted.{AreResultColumns, IsAccepted}
use Rattle.gl_query.specs.Columns.{columns_of, sources_of}
use Rattle.gl_query.specs.Laws.{AreKinds}
use Rattle.gl_query.specs.Shapes.{query_shape}
use Rattle.gl_query.specs.Faults.{first_fault}
use Rattle.gl_query.specs.Trees.{StatementTree, statement_tree}
use Rattle.gl_query_reader.specs.Grammar.{HasStatement, IsFault}

-- the text has this statement, which is accepted over this schema
pub record IsAcceptedText (schema : Schema) (text : List ℕ) (statement : Statement) : Type 0 where
  pub has : HasStatement text (statement_tree statement)
  pub accepted : IsAccepted schema statement

-- the text has no statement, and this is what reading finds
pub record HasNoStatement (text : List ℕ) (f : QueryFault) : Type 0 where
  pub fault : IsFault text f
  pub none : (s : StatementTree) → HasStatement text s → ⊥

-- the text has a statement, and this is the first rule of acceptance that it breaks over the schema
pub record BreaksRule (schema : Schema) (text : List ℕ) (f : QueryFault) : Type 0 where
  pub statement : StatementTree
  pub has : HasStatement text statement
  pub first : first_fault schema statement ≡ Some f

-- what is wrong with the text of a query over a schema; want of memory is no fault of a text
pub record IsQueryFault (schema : Schema) (text : List ℕ) (f : QueryFault) : Type 0 where
  pub real : f ≢ fault.Memory
  pub found : HasNoStatement text f ⊎ BreaksRule schema text f

-- the text of a query has this fault, or memory ran out
abbrev pub IsFaultOrMemory : Schema → List ℕ → QueryFault → Type 0
IsFaultOrMemory schema text f = IsQueryFault schema text f ⊎ (f ≡ fault.Memory)

-- a text that has a fault over a schema has no other, and no statement that is accepted
pub record HasOneFault (schema : Schema) (text : List ℕ) (f : QueryFault) : Type 0 where
  pub only : (other : QueryFault) → IsQueryFault schema text other → other ≡ f
  pub refused : (statement : Statement) → IsAcceptedText schema text statement → ⊥

-- a text of a query that is wrong has one first fault
abbrev pub TextsHaveOneFault : Type 0
TextsHaveOneFault =
    (schema : Schema) (text : List ℕ) (f : QueryFault) → IsSchema schema → IsQueryFault schema text f
    → HasOneFault schema text f

-- 1 to 32 columns, no two of one name, of kinds that are kinds
pub record HasResultColumns (schema : Schema) (statement : Statement) : Type 0 where
  pub some' : 1 ≤ length (columns_of (sources_of schema) (query_shape statement.query))
  pub result : AreResultColumns (columns_of (sources_of schema) (query_shape statement.query))
  pub kinds : AreKinds (columns_of (sources_of schema) (query_shape statement.query))

-- the statement of an accepted text has columns that a result may have
abbrev pub AcceptedTextsHaveColumns : Type 0
AcceptedTextsHaveColumns =
    (schema : Schema) (text : List ℕ) (statement : Statement) → IsSchema schema → IsAcceptedText schema text statement
    → HasResultColumns schema statement
