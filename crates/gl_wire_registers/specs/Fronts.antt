-- Machines over copies of a body: what a front feeds to the copies, and what front and back promise. What differs from
-- machine to machine is one record.
use Rattle.std.specs.Prelude.{◌≡◌, ℕ, ◌<◌, List, [], ◌∷◌, ◌++◌, length, Option, Some, None, Bool, slice_get, slice_index}
use Rattle.gl_net.specs.declared.node.Bit.{Bit}
use Rattle.gl_net.specs.declared.node.Bus.{Bus}
use Rattle.gl_net.specs.Net.{Net, Run, IsRun, IsBit, IsBus, Keeps}
use Rattle.gl_wire.specs.declared.emitted.Emitted.{Emitted}
use Rattle.gl_wire.specs.declared.wire.Wire.{Wire}
use Rattle.gl_wire.specs.Costs.{Cost, CostsAtMost}
use Rattle.gl_wire.specs.Faults.{AreLines, IsLine, line_of, lines_of}
use Rattle.gl_wire.specs.Spills.{Lines, SameLines, both_lines}
use Rattle.gl_wire.specs.Wire.{Carried, IsWire, carried, line_at, widths}
use Rattle.gl_wire_registers.specs.declared.front.Front.{Front}
use Rattle.gl_wire.specs.Rotates.{lines_of_all}
use Rattle.gl_wire_registers.specs.Joins.{columns_of, cost_of_back, gives_of, told_of}
use Rattle.gl_wire_registers.specs.Lines.{carried_of, held_of}

-- what a front feeds in a run: each copy's input, each copy's key, the line of further keys, and the line of ends
pub record Fed : Type 0 where
  pub ins : ℕ → Carried
  pub keys : ℕ → ℕ → ℕ
  pub further : ℕ → Bool
  pub close : ℕ → Bool

abbrev pub feed_of : Run → Front → Fed
feed_of run f = record {
  ins = carried_of run f.wires;
  keys = held_of run f.keys;
  further = line_of run f.further;
  close = line_at run f.close;
}

-- the law of a front and of its line of ends: what it feeds for ticks and for what its source carries
abbrev pub Feeding : Type 1
Feeding = (ℕ → Bool) → Carried → Fed → Type 0

-- what a whole gives for ticks, for what its source carries, for what the front feeds, and for what copies give and tell
abbrev pub Giving : Type 1
Giving = (ℕ → Bool) → Carried → Fed → (ℕ → Carried) → (ℕ → Lines) → Carried → Type 0

-- what differs from machine to machine
pub record Machine : Type 1 where
  -- the copies
  pub count : ℕ
  -- the place of the source's column that has the keys of copies, and the line of ticks, where the machine has such
  pub key : Option ℕ
  pub tick : Option Bit
  -- what the front costs at most behind a source of these columns, and the back that gives these columns
  pub front_cost : List ℕ → Cost
  pub back_cost : List ℕ → Cost
  -- the law of the front
  pub feeds : Feeding
  -- the lines of all copies and the front's own
  pub lines : (ℕ → Lines) → Fed → Lines
  -- what the whole gives
  pub serves : Giving

-- the machine of so many copies without keys, with this line of ticks, cost and law of the front, and what the whole
-- gives
abbrev pub keyless : ℕ → Option Bit → (List ℕ → Cost) → Feeding → Giving → Machine
keyless count tick front_cost feeds serves = record {
  count = count;
  key = None;
  tick = tick;
  front_cost = front_cost;
  back_cost = cost_of_back count;
  feeds = feeds;
  lines = λ lines g. lines_of_all lines count;
  serves = serves;
}

-- a source of these columns has the one with the keys
abbrev pub HasColumn : Option ℕ → List ℕ → Type 0
HasColumn None source = Unit {0}
HasColumn (Some key) source = key < length source

-- the columns in front of those of copies: that of the keys
abbrev pub key_columns : Option ℕ → List ℕ → List ℕ
key_columns None source = []
key_columns (Some key) source = slice_index source key ∷ []

-- keys of so many copies, as wide as the source's column at this place
pub record HaveKeys (net : Net) (count key : ℕ) (source : List ℕ) (keys : List Bus) : Type 0 where
  pub as_many : length keys ≡ count
  pub each : (k : ℕ) (b : Bus) → slice_get keys k ≡ Some b → IsBus net b × (b.width ≡ slice_index source key)

-- they are the keys of copies, where copies have keys
abbrev pub KeysFit : Net → ℕ → Option ℕ → List ℕ → List Bus → Type 0
KeysFit net count None source keys = Unit {0}
KeysFit net count (Some key) source keys = HaveKeys net count key source keys

-- a front behind its source: for each copy a wire, the keys, the lines, and the machine's law. What it feeds is in the
-- words of the machine: glue for the back, and what the whole serves is said without it
pub record Fronts (net : Net) (m : Machine) (f : Front) : Type 0 where
  pub source : IsWire net f.source.wire
  pub lines : AreLines net f.source.faults
  pub column : HasColumn m.key (widths f.source.wire.columns)
  pub ticks : IsLine net m.tick
  pub as_many : length f.wires ≡ m.count
  pub wires : (k : ℕ) (w : Wire) → slice_get f.wires k ≡ Some w → IsWire net w
      × (widths w.columns ≡ widths f.source.wire.columns)
  pub keys : KeysFit net m.count m.key (widths f.source.wire.columns) f.keys
  pub further : IsLine net f.further
  pub close : IsBit net f.close
  pub feeds : (run : Run) → IsRun net run → m.feeds (line_of run m.tick) (carried run f.source.wire) (feed_of run f)

-- such a front more
pub record IsFronted (old new : Net) (m : Machine) (source : Emitted) (f : Front) : Type 0 where
  pub keeps : Keeps old new
  pub cost : CostsAtMost old new (m.front_cost (widths source.wire.columns))
  pub same : f.source ≡ source
  pub fronts : Fronts new m f

-- the columns of the whole: that of the keys, and those of the copies
abbrev pub columns_over : Machine → Front → List Emitted → List ℕ
columns_over m f copies = key_columns m.key (widths f.source.wire.columns) ++ columns_of copies

-- a back behind the copies of a front: what it costs, its lines, and what the whole serves
pub record IsBacked (old new : Net) (m : Machine) (f : Front) (copies : List Emitted) (e : Emitted) : Type 0 where
  pub keeps : Keeps old new
  pub cost : CostsAtMost old new (m.back_cost (columns_over m f copies))
  pub wire : IsWire new e.wire
  pub same_widths : widths e.wire.columns ≡ columns_over m f copies
  pub lines : AreLines new e.faults
  pub told : (run : Run) → IsRun new run → SameLines (lines_of run e.faults)
      (both_lines (lines_of run f.source.faults) (m.lines (told_of run copies) (feed_of run f)))
  pub serves : (run : Run) → IsRun new run → m.serves (line_of run m.tick) (carried run f.source.wire) (feed_of run f)
      (gives_of run copies) (told_of run copies) (carried run e.wire)
