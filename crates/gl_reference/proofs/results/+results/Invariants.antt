use Rattle.std.proofs.Common.{◌+◌, ◌*◌, take, map}
use Rattle.gl_query.specs.Shapes.{query_shape}
use Rattle.gl_reference.specs.Joins.{AreOverGroups, AreOverSlices}
use Rattle.gl_reference.specs.Sources.{env_view}
use Rattle.gl_reference.proofs.Sizes.{size_of}
use Rattle.gl_reference.proofs.results.+results.Given as goal

abbrev pub decreases-result_of : goal.decreases-result_of
decreases-result_of l = 2 * size_of (query_shape l.query.now)

abbrev pub decreases-over_slices : goal.decreases-over_slices
decreases-over_slices l = 2 * size_of (query_shape l.body.now) + 1

abbrev pub decreases-over_groups : goal.decreases-over_groups
decreases-over_groups l = 2 * size_of (query_shape l.body.now) + 1

abbrev pub invariant-over_slices-loop-slice : goal.invariant-over_slices-loop-slice
invariant-over_slices-loop-slice l = AreOverSlices (query_shape l.body) (env_view l.sources) l.var l.columns (map (λ s. s.now) (take l.slice-index l.slices)) l.rows l.spill

abbrev pub invariant-over_groups-loop-group : goal.invariant-over_groups-loop-group
invariant-over_groups-loop-group l = AreOverGroups (query_shape l.body) (env_view l.sources) l.var l.columns (take l.group-index l.groups) l.rows l.spill
