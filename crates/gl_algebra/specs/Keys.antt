-- How a node of frames finds the slot of a row's key: the cycles that it takes, and what it keeps.
use Rattle.std.specs.Prelude.{ℕ, ◌+◌, ◌-◌, ◌*◌, ◌/◌, ◌^◌, nat_le, List, Option, Some, None, if◌then◌else◌}
use Rattle.gl_values.specs.Kinds.{width_of}
use Rattle.gl_values.specs.declared.kind.Kind.{Kind}
use Rattle.gl_algebra.specs.declared.node.PlanFrame.{PlanFrame}
use Rattle.gl_algebra.specs.declared.node.PlanKey.{PlanKey}
use Rattle.gl_algebra.specs.Columns.{kind_of_column}
use Rattle.gl_algebra.specs.Frames.{delay_of_frames}
use Rattle.gl_algebra.specs.Rings.{digits, ring}

-- the bits of a key
abbrev pub width_of_key : List Kind → PlanKey → ℕ
width_of_key kinds by = width_of (kind_of_column kinds by.key)

-- what a look-up counts, one of three: keys of at most 10 bits have a map of all keys, and other keys have all slots
-- looked at in one cycle. Of those with more than 64 groups a tree of keys is counted: their rows wait as long as it
-- would take
abbrev pub by_look_up : ℕ → ℕ → ℕ → ℕ → ℕ → ℕ
by_look_up width groups of_map of_slots of_tree =
    if nat_le width 10 then of_map else (if nat_le groups 64 then of_slots else of_tree)

-- the levels that a tree of keys of so many bits has, two bits each
abbrev pub levels_of : ℕ → ℕ
levels_of width = (width + 1) / 2

-- the cycles until a key's slot is known
abbrev pub cycles_of_look_up : ℕ → ℕ → ℕ
cycles_of_look_up width groups = by_look_up width groups 3 2 (levels_of width)

-- the cycles of the slowest item; by a key those of its look-up and one more come before
abbrev pub delay_by_key : List Kind → Option PlanKey → List PlanFrame → ℕ
delay_by_key kinds None items = delay_of_frames kinds items
delay_by_key kinds (Some by) items =
    delay_of_frames kinds items + cycles_of_look_up (width_of_key kinds by) by.groups + 1

-- the part of a look-up, its words aside: each slot may have its key in a register, whichever way it takes
abbrev pub weight_of_look_up : ℕ → ℕ → ℕ
weight_of_look_up width groups = 16 * groups + by_look_up width groups 160 96 (80 * levels_of width)

-- the words that are counted of a look-up: of a map one for each key and one for each slot, of a tree one for each slot
-- on each level
abbrev pub words_of_look_up : ℕ → ℕ → ℕ
words_of_look_up width groups = by_look_up width groups (2 ^ width + ring groups) 0 (levels_of width * ring groups)

-- the bits of a slot's number
abbrev pub slot_bits : ℕ → ℕ
slot_bits groups = digits (ring groups - 1)

-- the bits of these words: a map has the slot of each key and the key of each slot. A tree has four places of
-- the next level, each with a bit that tells whether it is there
abbrev pub store_of_look_up : ℕ → ℕ → ℕ
store_of_look_up width groups =
    by_look_up width groups (2 ^ width * slot_bits groups + ring groups * width) 0
    (levels_of width * ring groups * (4 * (slot_bits groups + 1)))
