-- What a wire carries in each cycle of a run: tuples, and the ends of streams.
-- A wire of this kind, a valid bit beside the columns, is that of Mueller, Teubner and Alonso, PVLDB 2(1), 2009.
use Rattle.std.specs.Prelude.{◌≡◌, ℕ, zero, suc, List, [], ◌++◌, map, Option, Some, None, Bool, false, if◌then◌else◌, nat_eq, option_to_list, slice_get}
use Rattle.gl_values.specs.Results.{Row}
use Rattle.gl_net.specs.declared.node.Bus.{Bus}
use Rattle.gl_net.specs.declared.node.Bit.{Bit}
use Rattle.gl_net.specs.Net.{Net, Run, IsBus, IsBit}
use Rattle.gl_wire.specs.declared.wire.Wire.{Wire}

-- in each cycle the tuple, where there is one, and whether a stream ends
pub record Carried : Type 0 where
  pub tuple : ℕ → Option Row
  pub ends : ℕ → Bool

-- the values of these columns in a cycle
unfoldable pub row_at : Run → ℕ → List Bus → Row
row_at run t columns = map (λ b. run.at t b.node) columns

-- whether a line is 1 in a cycle; in the reset cycle it counts as 0
unfoldable pub line_at : Run → Bit → ℕ → Bool
line_at run line zero = false
line_at run line (suc t) = nat_eq (run.at (suc t) line.node) 1

-- the tuple in a cycle; in the reset cycle there is none
unfoldable pub tuple_at : Run → Bit → List Bus → ℕ → Option Row
tuple_at run valid columns t = if line_at run valid t then Some (row_at run t columns) else None

-- what a wire carries in a run
abbrev pub carried : Run → Wire → Carried
carried run w = record { tuple = tuple_at run w.valid w.columns; ends = line_at run w.eos }

-- the wire of two lines and columns
abbrev pub wire_of : Bit → Bit → List Bus → Wire
wire_of v e bs = record { valid = v; eos = e; columns = bs }

-- the widths of columns
abbrev pub widths : List Bus → List ℕ
widths bs = map (λ b. b.width) bs

-- each of these is a bus of the netlist
pub record AreBuses (net : Net) (bs : List Bus) : Type 0 where
  pub each : (k : ℕ) (b : Bus) → slice_get bs k ≡ Some b → IsBus net b

-- the wire's lines and columns are in the netlist
pub record IsWire (net : Net) (w : Wire) : Type 0 where
  pub valid : IsBit net w.valid
  pub eos : IsBit net w.eos
  pub columns : AreBuses net w.columns

-- the tuples since the last end before this cycle
abbrev pub pending : Carried → ℕ → List Row
pending s zero = []
pending s (suc c) = if s.ends c then [] else pending s c ++ option_to_list (s.tuple c)

-- the rows since the end before this cycle, with the cycle's own: the stream, where this cycle has the end
abbrev pub stream : Carried → ℕ → List Row
stream s c = pending s c ++ option_to_list (s.tuple c)

-- the tuples of n cycles from this one on
abbrev pub rows : Carried → ℕ → ℕ → List Row
rows s c zero = []
rows s c (suc n) = option_to_list (s.tuple c) ++ rows s (suc c) n
