-- The laws of groups: front, copies and back serve, whatever netlist they stand in; and the groups of a plan have their
-- numbers.
use Rattle.std.specs.Prelude.{◌≡◌, ℕ, ◌≤◌, Bool}
use Rattle.gl_algebra.specs.declared.figures.Figures.{Figures}
use Rattle.gl_algebra.specs.FigureTable.{AreSmall, IsSound, groups_over, stride_of}
use Rattle.gl_wire.specs.Shapes.{IsDelayed}
use Rattle.gl_wire.specs.Spills.{Lines}
use Rattle.gl_wire.specs.Wire.{Carried}
use Rattle.gl_wire.specs.Lift.{tuple_of_any}
use Rattle.gl_wire_registers.specs.Timers.{IsClose}
use Rattle.gl_groups.specs.declared.grouping.Grouping.{Grouping}
use Rattle.gl_slots.specs.Keys.{AreKeys, with_keys}
use Rattle.gl_groups.specs.Groupings.{AwaitsFlush, IsGrouping, ServesGroups, close_cycles, close_delay, key_of}
use Rattle.gl_slots.specs.Slots.{AreSlots, came_further}

-- wires behind the machine of slots, the keys of the slots that are used, the line of further keys, a line of ends that
-- comes late, and a wire one cycle behind all copies, with the key of its slot in front of what a copy gives
abbrev pub GroupingsServe : Type 0
GroupingsServe =
    (r : Grouping) (f : Figures) (a b : Carried) (keys : ℕ → ℕ → ℕ) (ins outs : ℕ → Carried)
    (close further : ℕ → Bool) (lines : ℕ → Lines)
    → IsGrouping r → IsSound f
    → AreSlots r.slots (key_of r) (stride_of r.body) a ins
    → AreKeys r.slots (key_of r) (stride_of r.body) 0 a keys
    → (AwaitsFlush r a → (c : ℕ) → further c ≡ came_further r.slots (key_of r) a c)
    → IsClose (close_cycles r) (close_delay r) a.ends close
    → IsDelayed 1 (record { tuple = tuple_of_any (with_keys keys outs) r.slots; ends = close }) b
    → ServesGroups r f a ins outs lines further b

-- the groups of a plan have such numbers, where the figures of the whole fit 32 bits
abbrev pub GroupsGroup : Type 0
GroupsGroup =
    (key groups : ℕ) (f body : Figures) → 1 ≤ groups → IsSound body → body.nt ≡ 0 → AreSmall (groups_over groups f body)
    → IsGrouping (record { key = key; slots = groups; body = body })
