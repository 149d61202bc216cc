-- Statements that can stand on one module, and their roots in the joint plan, under the names of their results.
-- A middle layer: no promise rests on it.
use Rattle.std.specs.Prelude.{ℕ, ◌≤◌, List, [], ◌∷◌, length, map, bytes_eq}
use Rattle.std.specs.List.{AllByRecursion, IsDistinct}
use Rattle.gl_bits.specs.Limits.{most_statements}
use Rattle.gl_schema.specs.declared.schema.Schema.{Schema}
use Rattle.gl_schema.specs.Schemas.{IsSchema, column_names}
use Rattle.gl_query.specs.declared.tree.Statement.{Statement}
use Rattle.gl_query.specs.Checked.{IsChecked}
use Rattle.gl_query.specs.Names.{StatementHasNames}
use Rattle.gl_query.specs.Shapes.{statement_shape}
use Rattle.gl_wiring.specs.declared.many.Root.{Root}
use Rattle.gl_compiler.specs.Meets.{result_columns}

-- the names behind INTO
abbrev pub names_of : List Statement → List (List ℕ)
names_of statements = map (λ (s : Statement). s.name.text) statements

-- the names in a statement are names
abbrev pub IsNamed : Statement → Type 0
IsNamed statement = StatementHasNames (statement_shape statement)

-- at most eight statements were checked over the schema, the names in them are names, and no two have one name
pub record CanStand (schema : Schema) (statements : List Statement) : Type 0 where
  pub of_schema : IsSchema schema
  pub few : length statements ≤ most_statements
  pub checked : AllByRecursion (IsChecked schema) statements
  pub named : AllByRecursion IsNamed statements
  pub distinct : IsDistinct bytes_eq (names_of statements)

-- the root of a statement: a node, and the names of its result
abbrev pub root_of : Schema → Statement → ℕ → Root
root_of schema statement id = record {
  id = id;
  names = record { into = statement.name.text; columns = column_names (result_columns schema statement) };
}

-- the roots of several statements, each at its node
abbrev pub roots_of : Schema → List Statement → List ℕ → List Root
roots_of schema [] ids = []
roots_of schema (s ∷ statements) [] = []
roots_of schema (s ∷ statements) (id ∷ ids) = root_of schema s id ∷ roots_of schema statements ids
