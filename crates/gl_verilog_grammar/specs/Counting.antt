-- What the counter's values stand for, and the limits that it has not passed.
-- A middle layer, proved equal to the limits of gl_verilog_faults (`Counts`): no promise rests on it.
use Rattle.std.specs.Prelude.{ℕ, ◌≤◌}
use Rattle.gl_verilog_faults.specs.Counts as counts
use Rattle.gl_verilog_faults.specs.Marks as marks
use Rattle.gl_verilog_grammar.specs.declared.counting.Place.{Place}
use Rattle.gl_verilog_grammar.specs.declared.counting.Place.TheVariants as place_is
use Rattle.gl_verilog_grammar.specs.declared.counting.Turn.{Turn}
use Rattle.gl_verilog_grammar.specs.declared.counting.Turn.TheVariants as turn_is
use Rattle.gl_verilog_grammar.specs.declared.counting.Weight.{Weight}
use Rattle.gl_verilog_grammar.specs.declared.counting.Weight.TheVariants as weight_is
use Rattle.gl_verilog_grammar.specs.declared.counting.Counter.{Counter}

-- the place for counting that the code's value stands for
abbrev pub place_of : Place → marks.State
place_of place_is.Header = marks.Header
place_of place_is.Ground = marks.Ground
place_of place_is.Declares = marks.Declares
place_of place_is.Clocks = marks.Clocks
place_of place_is.Asks = marks.Asks
place_of place_is.Aims = marks.Aims
place_of (place_is.Index open') = marks.Index open'
place_of (place_is.Test open') = marks.Test open'
place_of place_is.Value = marks.Value

-- what a token does in an expression, from the code's value
abbrev pub turn_of : Turn → marks.Turn
turn_of turn_is.Opening = marks.Opening
turn_of turn_is.Closing = marks.Closing
turn_of turn_is.Operating = marks.Operating
turn_of turn_is.Ending = marks.Ending
turn_of turn_is.Going = marks.Going

-- what a token counts for, from the code's value
abbrev pub weight_of : Weight → counts.Role
weight_of weight_is.Opens = counts.Opens
weight_of weight_is.Closes = counts.Closes
weight_of weight_is.Operates = counts.Operates
weight_of weight_is.Starts = counts.Starts
weight_of weight_is.OpensWhole = counts.OpensWhole
weight_of weight_is.Tests = counts.Tests
weight_of weight_is.Begins = counts.Begins
weight_of weight_is.Plain = counts.Plain

-- how many brackets of its own the part of an expression has open
abbrev pub depth_of : marks.State → ℕ
depth_of (marks.Index open') = open'
depth_of (marks.Test open') = open'
depth_of place = 0

-- how many brackets are open inside the one that the place is in
abbrev pub depth_at : Place → ℕ
depth_at place = depth_of (place_of place)

-- the counts that the code's counter stands for
abbrev pub counts_of : Counter → counts.Counts
counts_of c = record { brackets = c.brackets; operators = c.operators; ifs = c.ifs }

-- no limit is passed, and what an expression has open is counted
pub record IsWithin (c : Counter) : Type 0 where
  pub depth : depth_at c.place ≤ c.brackets
  pub brackets : c.brackets ≤ 64
  pub operators : c.operators ≤ 1024
  pub ifs : c.ifs ≤ 1024
