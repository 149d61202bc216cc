-- Which texts of queries are compiled, and why others are not.
use Rattle.std.specs.Prelude.{◌≡◌, ◌⊎◌, ℕ, List, Result, Err}
use Rattle.gl_schema.specs.declared.schema.Schema.{Schema}
use Rattle.gl_query.specs.declared.tree.Statement.{Statement}
use Rattle.gl_query.specs.Trees.{statement_tree}
use Rattle.gl_query_reader.specs.Grammar.{HasStatement}
use Rattle.gl_query_texts.specs.Judged.{IsQueryFault}
use Rattle.gl_query_texts.specs.Limits.{IsOverLimit}
use Rattle.gl_compiler.specs.declared.compiling.Compiled.{Compiled}
use Rattle.gl_compiler.specs.Built.{IsBuilt}
use Rattle.gl_compiler.specs.declared.fault.CompileFault.{CompileFault}
use Rattle.gl_compiler.specs.declared.fault.CompileFault.TheVariants as compile

-- the text has this statement, which is compiled over this schema
pub record IsQuery (schema : Schema) (text : List ℕ) (statement : Statement) : Type 0 where
  pub has : HasStatement text (statement_tree statement)
  pub built : IsBuilt schema statement

-- why a query was refused; want of memory is free
abbrev pub IsQueryRefused : Schema → List ℕ → CompileFault → Type 0
IsQueryRefused schema text (compile.Schema f) = ⊥
IsQueryRefused schema text (compile.Query f) = IsQueryFault schema text f
IsQueryRefused schema text (compile.Limit l) = IsOverLimit schema text l
IsQueryRefused schema text compile.Memory = Unit {0}

-- the fact holds where the query was refused, not for want of memory
abbrev pub IfRefused : CompileFault → Type 0 → Type 0
IfRefused compile.Memory P = Unit {0}
IfRefused f P = P

-- this fault was answered, or want of memory
abbrev pub IsTold : Result Compiled CompileFault → CompileFault → Type 0
IsTold r f = (r ≡ Err f) ⊎ (r ≡ Err compile.Memory)

-- each cause of a refusal is what was answered, unless memory ran out
abbrev pub TellsCauses : Schema → List ℕ → Result Compiled CompileFault → Type 0
TellsCauses schema text r = (f : CompileFault) → IfRefused f (IsQueryRefused schema text f → IsTold r f)
