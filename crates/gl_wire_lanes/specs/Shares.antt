-- One wire for many slots: what it carries for one of them.
use Rattle.std.specs.Prelude.{ℕ, None, ◌&&◌, if◌then◌else◌, nat_eq}
use Rattle.gl_values.specs.Results.{Row}
use Rattle.gl_net.specs.declared.node.Bus.{Bus}
use Rattle.gl_net.specs.declared.node.Bit.{Bit}
use Rattle.gl_net.specs.Net.{Run}
use Rattle.gl_wire.specs.declared.wire.Wire.{Wire}
use Rattle.gl_wire.specs.Wire.{Carried, line_at, row_at}
use Rattle.gl_wire_lanes.specs.Lanes.{Lane}

-- the share of a slot: what a wire carries in the cycles that are the slot's
abbrev pub share : (ℕ → ℕ) → ℕ → Carried → Carried
share slot k a =
    record { tuple = λ c. if nat_eq (slot c) k then a.tuple c else None; ends = λ c. nat_eq (slot c) k && a.ends c }

-- the slot of each cycle
abbrev pub slot_of : Run → Bus → ℕ → ℕ
slot_of run slot c = run.at c slot.node

-- a wire with a bus that tells whose slot a cycle is and a line that tells where streams begin, as a lane
abbrev pub lane_of : Run → Wire → Bus → Bit → Lane
lane_of run w slot first =
    record { valid = line_at run w.valid; ends = line_at run w.eos; slot = slot_of run slot; first = line_at run first }

-- the rows that it carries
abbrev pub rows_of : Run → Wire → ℕ → Row
rows_of run w c = row_at run c w.columns
