use Rattle.std.proofs.Common.{◌+◌, ◌*◌}
use Rattle.gl_query.specs.Shapes.{query_shape}
use Rattle.gl_reference.proofs.Sizes.{size_of}
use Rattle.gl_reference.proofs.arrivals.+arrivals.Given as goal

abbrev pub decreases-arrival_of : goal.decreases-arrival_of
decreases-arrival_of l = 2 * size_of (query_shape l.query.now)

abbrev pub decreases-by_arrival : goal.decreases-by_arrival
decreases-by_arrival l = 2 * (size_of (query_shape l.left.now) + size_of (query_shape l.right.now)) + 1

abbrev pub decreases-as_of : goal.decreases-as_of
decreases-as_of l = 2 * (size_of (query_shape l.left.now) + size_of (query_shape l.right.now)) + 1
