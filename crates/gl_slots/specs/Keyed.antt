-- A machine over copies of a body, one for each slot, with the keys of the slots in front of what they give.
use Rattle.std.specs.Prelude.{ℕ, List, Some, None}
use Rattle.gl_wire.specs.Costs.{Cost}
use Rattle.gl_wire.specs.Rotates.{lines_of_all}
use Rattle.gl_wire.specs.Spills.{both_lines}
use Rattle.gl_wire_registers.specs.Fronts.{Feeding, Giving, Machine}
use Rattle.gl_slots.specs.Costs.{cost_of_back}
use Rattle.gl_slots.specs.Keys.{line_of_further}

-- the machine of so many copies with the key in a column, with this cost and law of the front, and what the whole gives
abbrev pub keyed_machine : ℕ → ℕ → (List ℕ → Cost) → Feeding → Giving → Machine
keyed_machine count key front_cost feeds serves = record {
  count = count;
  key = Some key;
  tick = None;
  front_cost = front_cost;
  back_cost = cost_of_back count;
  feeds = feeds;
  lines = λ lines g. both_lines (lines_of_all lines count) (line_of_further g.further);
  serves = serves;
}
