-- The nodes of what a query may read, as code has it.
-- A middle layer, proved equal to `Plans`: no promise rests on it.
use Rattle.std.specs.Prelude.{ℕ, List}
use Rattle.gl_schema.specs.Schemas.{kinds_of}
use Rattle.gl_query.specs.declared.columns.Sources.{Sources}
use Rattle.gl_query.specs.declared.columns.Sources.TheVariants.{Schema, Variable}
use Rattle.gl_algebra.specs.declared.node.PlanNode.{PlanNode}
use Rattle.gl_algebra.specs.declared.node.PlanNode.TheVariants.{Body}
use Rattle.gl_elaborate.specs.Plans.{stream_node}

-- the leaf of a source by its name: a stream of the schema, or the body's input
abbrev pub read_of : Sources → List ℕ → PlanNode
read_of (Schema streams parameters) = stream_node streams.now
read_of (Variable name columns parameters) = λ n. Body (kinds_of columns.now)
