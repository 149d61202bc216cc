-- What holds of all texts of several queries.
use Rattle.std.specs.Prelude.{◌≡◌, ◌≤◌, ℕ, List, length, bytes_eq, Result, Ok, Err}
use Rattle.std.specs.List.{AllByRecursion, IsDistinct}
use Rattle.gl_bits.specs.Limits.{most_statements}
use Rattle.gl_schema.specs.declared.schema.Schema.{Schema}
use Rattle.gl_query.specs.declared.fault.QueryFault.{QueryFault}
use Rattle.gl_query.specs.Alike.{statement_alike}
use Rattle.gl_query.specs.Trees.{StatementTree}
use Rattle.gl_query_reader.specs.Grammar.{IsRegular}
use Rattle.gl_query_texts.specs.Lists.{HasStatements, IsListFault, names_of}

-- what a text of several queries comes to: its statements, or what is wrong with it and where
abbrev pub Verdict : Type 0
Verdict = Result (List StatementTree) QueryFault

-- a verdict on a text of several queries is right: its statements, or its first fault
abbrev pub IsVerdict : Schema → List ℕ → Verdict → Type 0
IsVerdict schema text (Ok ss) = HasStatements schema text ss
IsVerdict schema text (Err f) = IsListFault schema text f

-- a text comes to one thing
pub record HasOneVerdict (schema : Schema) (text : List ℕ) : Type 0 where
  pub verdict : Verdict
  pub is : IsVerdict schema text verdict
  pub only : (other : Verdict) → IsVerdict schema text other → other ≡ verdict

-- over a schema each text has exactly one of a list of statements and a fault, at one place
abbrev pub TextsHaveOneVerdict : Type 0
TextsHaveOneVerdict = (schema : Schema) (text : List ℕ) → HasOneVerdict schema text

-- one to eight statements, no two of one name, each with names that are names
pub record AreListed (ss : List StatementTree) : Type 0 where
  pub some' : 1 ≤ length ss
  pub most : length ss ≤ most_statements
  pub distinct : IsDistinct bytes_eq (names_of ss)
  pub regular : AllByRecursion (λ (s : StatementTree). IsRegular (statement_alike s)) ss

-- the statements of every accepted text keep the rules of a list
abbrev pub StatementsAreListed : Type 0
StatementsAreListed =
    (schema : Schema) (text : List ℕ) (ss : List StatementTree) → HasStatements schema text ss → AreListed ss
