-- What is known of a statement that was checked.
use Rattle.gl_schema.specs.declared.schema.Schema.{Schema}
use Rattle.gl_schema.specs.Schemas.{IsSchema}
use Rattle.gl_query.specs.declared.tree.Statement.{Statement}
use Rattle.gl_query.specs.Shapes.{query_shape}
use Rattle.gl_query.specs.Accepted.{IsAccepted}
use Rattle.gl_query.specs.Sizes.{QueryIsSmall}

-- the schema is one, the statement is accepted over it, and its whole expressions are small
pub record IsChecked (schema : Schema) (statement : Statement) : Type 0 where
  pub of_schema : IsSchema schema
  pub accepted : IsAccepted schema statement
  pub small : QueryIsSmall (query_shape statement.query)
