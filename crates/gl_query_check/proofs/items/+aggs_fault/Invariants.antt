use Rattle.std.proofs.Common.{◌-◌, length}
use Rattle.gl_query_check.proofs.items.+aggs_fault.Given as goal

abbrev pub decreases-aggs_fault : goal.decreases-aggs_fault
decreases-aggs_fault l = length l.aggs.now - l.number
