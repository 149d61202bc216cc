-- Which texts of several queries are compiled, and why others are not.
use Rattle.std.specs.Prelude.{◌≡◌, ◌≢◌, ◌⊎◌, ℕ, List, [], map, Result, Err}
use Rattle.gl_schema.specs.declared.schema.Schema.{Schema}
use Rattle.gl_query.specs.declared.fault.QueryFault.{QueryFault}
use Rattle.gl_query.specs.declared.fault.QueryFault.TheVariants as fault
use Rattle.gl_query.specs.declared.tree.Statement.{Statement}
use Rattle.gl_query.specs.Trees.{StatementTree, statement_tree}
use Rattle.gl_figures.specs.declared.Limit.{Limit}
use Rattle.gl_elaborate.specs.Plans.{plans_of}
use Rattle.gl_plan.specs.Together.{AreWithinLimits, PassLimit}
use Rattle.gl_query_texts.specs.Lists.{HasStatements, IsListFault}
use Rattle.gl_compiler.specs.declared.fault.CompileFault.{CompileFault}
use Rattle.gl_compiler.specs.declared.fault.CompileFault.TheVariants as compile
use Rattle.gl_compiler.specs.Queries.{IfRefused}
use Rattle.gl_many.specs.declared.compiling.Many.{Many}

-- statements without their places in memory
abbrev pub trees_of : List Statement → List StatementTree
trees_of statements = map (λ (s : Statement). statement_tree s) statements

-- the text has these statements, whose joint plan is within the limits
pub record AreQueries (schema : Schema) (text : List ℕ) (statements : List Statement) : Type 0 where
  pub has : HasStatements schema text (trees_of statements)
  pub within : AreWithinLimits (plans_of [] schema statements)

-- the text has statements, whose joint plan passes this limit
pub record AreOverLimit (schema : Schema) (text : List ℕ) (limit : Limit) : Type 0 where
  pub statements : List Statement
  pub has : HasStatements schema text (trees_of statements)
  pub pass : PassLimit (plans_of [] schema statements) limit

-- this is what is wrong with the text; want of memory is no fault of a text
pub record IsFaultOfAll (schema : Schema) (text : List ℕ) (f : QueryFault) : Type 0 where
  pub real : f ≢ fault.Memory
  pub found : IsListFault schema text f

-- why queries were refused; want of memory is free
abbrev pub AreRefused : Schema → List ℕ → CompileFault → Type 0
AreRefused schema text (compile.Schema f) = ⊥
AreRefused schema text (compile.Query f) = IsFaultOfAll schema text f
AreRefused schema text (compile.Limit l) = AreOverLimit schema text l
AreRefused schema text compile.Memory = Unit {0}

-- this fault was answered, or want of memory
abbrev pub IsToldOfAll : Result Many CompileFault → CompileFault → Type 0
IsToldOfAll r f = (r ≡ Err f) ⊎ (r ≡ Err compile.Memory)

-- each cause of a refusal is what was answered, unless memory ran out
abbrev pub TellsCausesOfAll : Schema → List ℕ → Result Many CompileFault → Type 0
TellsCausesOfAll schema text r = (f : CompileFault) → IfRefused f (AreRefused schema text f → IsToldOfAll r f)
