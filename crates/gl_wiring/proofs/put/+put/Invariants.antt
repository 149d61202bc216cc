use Rattle.std.proofs.Common.{◌+◌, ◌-◌, ◌*◌, ◌≤◌}
use Rattle.gl_wiring.specs.Copies.{AreBodies}
use Rattle.gl_wiring.specs.Tables.{ArePutTo}
use Rattle.gl_wiring.proofs.put.+put.Given as goal

abbrev pub decreases-put_marked : goal.decreases-put_marked
decreases-put_marked l = 8 * l.limit

abbrev pub decreases-put_slot : goal.decreases-put_slot
decreases-put_slot l = 8 * l.number + 7

abbrev pub decreases-put_over : goal.decreases-put_over
decreases-put_over l = 8 * l.id + 6

abbrev pub decreases-put_window : goal.decreases-put_window
decreases-put_window l = 8 * l.window.id + 5

abbrev pub decreases-put_time_window : goal.decreases-put_time_window
decreases-put_time_window l = 8 * l.window.id + 5

abbrev pub decreases-put_group : goal.decreases-put_group
decreases-put_group l = 8 * l.group.id + 5

abbrev pub decreases-put_partition : goal.decreases-put_partition
decreases-put_partition l = 8 * l.partition.id + 5

abbrev pub decreases-put_over_copies : goal.decreases-put_over_copies
decreases-put_over_copies l = 8 * l.body + 11

abbrev pub decreases-put_copies : goal.decreases-put_copies
decreases-put_copies l = 8 * l.body + 10

abbrev pub decreases-put_root_of : goal.decreases-put_root_of
decreases-put_root_of l = 8 * l.id + 9

abbrev pub invariant-put_copies-loop-wire : goal.invariant-put_copies-loop-wire
invariant-put_copies-loop-wire l = AreBodies l.site.plan.now l.body l.initial.net l.net l.wires l.wire-index l.copies

abbrev pub invariant-put_marked-loop-number : goal.invariant-put_marked-loop-number
invariant-put_marked-loop-number l = record {
  within : l.number ≤ l.limit;
  put : ArePutTo l.site.plan.now l.marks l.number l.initial.net l.net l.site.tick l.site.leaves.now l.table.items;
}

abbrev pub decreases-put_marked-loop-number : goal.decreases-put_marked-loop-number
decreases-put_marked-loop-number l = l.limit - l.number
