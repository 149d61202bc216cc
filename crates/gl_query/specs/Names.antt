-- The names in a statement.
use Rattle.std.specs.Prelude.{◌≡◌, ◌⊎◌, ℕ, List, [], ◌∷◌}
use Rattle.gl_schema.specs.Names.{IsName}
use Rattle.gl_query.specs.Shapes.{ExprShape, QueryShape, StatementShape}
use Rattle.gl_query.specs.Shapes as shape
use Rattle.gl_query.specs.Parts.{InQuery}

-- a colon and a name, as an expression names a parameter
abbrev pub IsMarked : List ℕ → Type 0
IsMarked [] = ⊥
IsMarked (b ∷ name) = (b ≡ 58) × IsName name

-- what an expression names: a column, or a parameter
abbrev pub IsNamed : List ℕ → Type 0
IsNamed name = IsName name ⊎ IsMarked name

-- what an expression names has a name
abbrev pub HasNames : ExprShape → Type 0
HasNames (shape.Column name) = IsNamed name
HasNames (shape.Number n) = Unit {0}
HasNames (shape.Minus n) = Unit {0}
HasNames (shape.Letters text) = Unit {0}
HasNames (shape.Not e) = HasNames e
HasNames (shape.Flip e) = HasNames e
HasNames (shape.Cast kind e) = HasNames e
HasNames (shape.Binary op l r) = HasNames l × HasNames r

-- the names in a query are names
abbrev pub QueryHasNames : QueryShape → Type 0
QueryHasNames q = InQuery HasNames IsName q

-- all names of a statement, its result's too, are names
abbrev pub StatementHasNames : StatementShape → Type 0
StatementHasNames s = QueryHasNames s.query × IsName s.name
