use Rattle.std.proofs.Common.{◌-◌, length}
use Rattle.gl_query_check.proofs.items.+items_fault.Given as goal

abbrev pub decreases-items_fault : goal.decreases-items_fault
decreases-items_fault l = length l.items.now - l.number
