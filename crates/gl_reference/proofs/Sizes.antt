-- The number of forms in a query, which falls from a query to its parts.
use Rattle.std.proofs.Common.{ℕ, ◌+◌}
use Rattle.gl_query.specs.Shapes.{QueryShape}
use Rattle.gl_query.specs.Shapes as shape

abbrev pub size_of : QueryShape → ℕ
size_of (shape.Read name) = 1
size_of (shape.Rows pick filter source) = size_of source + 1
size_of (shape.Total aggs source) = size_of source + 1
size_of (shape.Frames items filter slots source) = size_of source + 1
size_of (shape.Each measure var source size advance body) = size_of source + size_of body + 1
size_of (shape.PerGroup var source key n body) = size_of source + size_of body + 1
size_of (shape.Partition var source key n size advance body) = size_of source + size_of body + 1
size_of (shape.Union l r) = size_of l + size_of r + 1
size_of (shape.ByArrival l r) = size_of l + size_of r + 1
size_of (shape.AsOf l r slots) = size_of l + size_of r + 1
size_of (shape.Concat l r) = size_of l + size_of r + 1
