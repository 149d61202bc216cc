-- The lane of the first keys of a stream, in a netlist whose memories have the slot of each key and the key of each slot.
use Rattle.std.specs.Prelude.{◌≡◌, ℕ, suc, ◌+◌, ◌*◌, ◌%◌, ◌^◌, ◌<◌, length, Some, Bool, true, not, ◌&&◌, ◌||◌}
use Rattle.std.specs.Prelude.{if◌then◌else◌, nat_eq, nat_lt, slice_index}
use Rattle.std.specs.List.{sum}
use Rattle.gl_values.specs.Results.{Row}
use Rattle.gl_net.specs.declared.node.Bit.{Bit}
use Rattle.gl_net.specs.declared.node.Bus.{Bus}
use Rattle.gl_net.specs.Net.{Net, Run, IsRun, IsBit, IsBus, Keeps, stored_of}
use Rattle.gl_wire.specs.declared.wire.Wire.{Wire}
use Rattle.gl_wire.specs.Costs.{Cost, Costs, nodes_alone}
use Rattle.gl_wire.specs.Gates.{same_at}
use Rattle.gl_wire.specs.Shapes.{IsDelayed}
use Rattle.gl_wire.specs.Wire.{IsWire, carried, line_at, widths, wire_of}
use Rattle.gl_wire_registers.specs.Held.{held_at, with_registers}
use Rattle.gl_frames_lanes.specs.LaneNets.{HasKeyLane, IsLaneBehind, key_in}
use Rattle.gl_frames_lanes.specs.declared.lane.KeyLane.{KeyLane}
use Rattle.gl_frames_lanes.specs.declared.lane.Keys.{Keys}
use Rattle.gl_frames_map.specs.declared.passing.Asked.{Asked}
use Rattle.gl_frames_map.specs.declared.passing.Passing.{Passing}
use Rattle.gl_frames_map.specs.declared.telling.Decision.{Decision}
use Rattle.gl_frames_map.specs.declared.telling.PlaceRead.{PlaceRead}
use Rattle.gl_frames_map.specs.declared.telling.Recent.{Recent}
use Rattle.gl_frames_map.specs.declared.telling.Seen.{Seen}
use Rattle.gl_frames_map.specs.declared.telling.Told.{Told}

-- ---- lines and buses that are there

-- what asks for a slot, with keys of this width
pub record HasAsked (net : Net) (width : ℕ) (a : Asked) : Type 0 where
  pub valid : IsBit net a.valid
  pub ends : IsBit net a.ends
  pub here : IsBus net a.here
  pub here_width : a.here.width ≡ width
  pub last : IsBus net a.last
  pub last_width : a.last.width ≡ width
  pub near : IsBit net a.near
  pub far : IsBit net a.far

-- what the rows before did, with numbers of this width
pub record HasRecent (net : Net) (width : ℕ) (r : Recent) : Type 0 where
  pub one : IsBit net r.one
  pub two : IsBit net r.two
  pub before : IsBus net r.before
  pub before_width : r.before.width ≡ width
  pub earlier : IsBus net r.earlier
  pub earlier_width : r.earlier.width ≡ width

-- what is seen of a row's key
pub record HasSeen (net : Net) (width : ℕ) (s : Seen) : Type 0 where
  pub used : IsBus net s.used
  pub used_width : s.used.width ≡ width
  pub recent : HasRecent net width s.recent
  pub below : IsBit net s.read.below
  pub number : IsBus net s.read.number
  pub number_width : s.read.number.width ≡ width

-- what is told of a row, with slots of this width
pub record HasTold (net : Net) (width : ℕ) (r : Told) : Type 0 where
  pub row : IsBit net r.decision.row
  pub first : IsBit net r.decision.first
  pub further : IsBit net r.decision.further
  pub slot : IsBus net r.slot
  pub slot_width : r.slot.width ≡ width

-- ---- gates

-- a line that is 1 where two buses carry the same and another line is 0
pub record IsSameWithin (old new : Net) (left right : Bus) (ends out : Bit) : Type 0 where
  pub keeps : Keeps old new
  pub cost : Costs old new (nodes_alone 2)
  pub bit : IsBit new out
  pub line : (run : Run) → IsRun new run → (t : ℕ)
      → line_at run out t ≡ (same_at run left right t && not (line_at run ends t))

-- a line that is 1 where a bus carries less than another
pub record IsLess (old new : Net) (left right : Bus) (out : Bit) : Type 0 where
  pub keeps : Keeps old new
  pub cost : Costs old new (nodes_alone 1)
  pub bit : IsBit new out
  pub line : (run : Run) → IsRun new run → (t : ℕ)
      → line_at run out (suc t) ≡ nat_lt (run.at (suc t) left.node) (run.at (suc t) right.node)

-- the same number with one bit more
pub record IsWider (old new : Net) (source out : Bus) : Type 0 where
  pub keeps : Keeps old new
  pub cost : Costs old new (nodes_alone 2)
  pub bus : IsBus new out
  pub width : out.width ≡ source.width + 1
  pub value : (run : Run) → IsRun new run → (t : ℕ) → run.at t out.node ≡ run.at t source.node

-- ---- rows that wait for their slot

-- a line that tells one cycle later whether the next key is the last one, and no stream ends with it
pub record IsNearIn (old new : Net) (next last : Bus) (ends out : Bit) : Type 0 where
  pub keeps : Keeps old new
  pub cost : Costs old new (with_registers 3 1)
  pub bit : IsBit new out
  pub line : (run : Run) → IsRun new run → (t : ℕ)
      → line_at run out (suc t) ≡ (same_at run next last t && not (line_at run ends t))

-- a line that tells whether it is the key before that, and no stream ends since
pub record IsFarIn (old new : Net) (next last : Bus) (ends out : Bit) : Type 0 where
  pub keeps : Keeps old new
  pub cost : Costs old new (with_registers 6 (last.width + 2))
  pub bit : IsBit new out
  pub line : (run : Run) → IsRun new run → (t : ℕ) → line_at run out (suc (suc (suc t)))
      ≡ ((nat_eq (run.at (suc (suc t)) next.node) (run.at (suc t) last.node) && not (line_at run ends (suc (suc t))))
      && not (line_at run ends (suc t)))

-- what asks for a slot two cycles behind a wire: a row's key, whether a row comes and its stream ends; and whether the
-- key stood one cycle before, or two, with no end since
pub record IsPassing (run : Run) (source : Wire) (column : ℕ) (r : Passing) : Type 0 where
  pub delayed : IsDelayed 2 (carried run source) (carried run r.late)
  pub key : (t : ℕ) (row : Row) → (carried run r.late).tuple t ≡ Some row
      → held_at 0 run r.asked.last t ≡ key_in column row
  pub here : (t : ℕ) → line_at run r.asked.valid (suc (suc (suc t))) ≡ true
      → run.at (suc t) r.asked.here.node ≡ run.at (suc (suc (suc t))) r.asked.last.node
  pub near : (t : ℕ) → line_at run r.asked.valid (suc (suc (suc t))) ≡ true
      → line_at run r.asked.near (suc (suc (suc t)))
      ≡ (nat_eq (run.at (suc (suc (suc t))) r.asked.last.node) (run.at (suc (suc t)) r.asked.last.node)
      && not (line_at run r.asked.ends (suc (suc t))))
  pub far : (t : ℕ) → line_at run r.asked.valid (suc (suc (suc t))) ≡ true
      → line_at run r.asked.far (suc (suc (suc t)))
      ≡ ((nat_eq (run.at (suc (suc (suc t))) r.asked.last.node) (run.at (suc t) r.asked.last.node)
      && not (line_at run r.asked.ends (suc (suc t)))) && not (line_at run r.asked.ends (suc t)))

pub record IsPassingIn (old new : Net) (source : Wire) (column : ℕ) (r : Passing) : Type 0 where
  pub keeps : Keeps old new
  pub cost : Costs old new (with_registers (length (widths source.columns) * 2 + 13)
      (sum (widths source.columns) * 2 + slice_index (widths source.columns) column + 7))
  pub late : IsWire new r.late
  pub same_widths : widths r.late.columns ≡ widths source.columns
  pub same_valid : r.asked.valid ≡ r.late.valid
  pub same_ends : r.asked.ends ≡ r.late.eos
  pub asked : HasAsked new (slice_index (widths source.columns) column) r.asked
  pub law : (run : Run) → IsRun new run → IsPassing run source column r

-- ---- what is seen

-- how many keys there were one and two cycles before, and lines that tell of a key that was new then
pub record IsRecent (run : Run) (used : Bus) (near far : Bit) (r : Recent) : Type 0 where
  pub one : (t : ℕ) → line_at run r.one (suc (suc t))
      ≡ (line_at run near (suc (suc t)) && nat_lt (run.at (suc t) used.node) (run.at (suc (suc t)) used.node))
  pub two : (t : ℕ) → line_at run r.two (suc (suc (suc t)))
      ≡ (line_at run far (suc (suc (suc t))) && nat_lt (run.at (suc t) used.node) (run.at (suc (suc t)) used.node))
  pub before : (t : ℕ) → run.at (suc (suc t)) r.before.node ≡ run.at (suc t) used.node
  pub earlier : (t : ℕ) → run.at (suc (suc (suc t))) r.earlier.node ≡ run.at (suc t) used.node

pub record IsRecentIn (old new : Net) (used : Bus) (near far : Bit) (r : Recent) : Type 0 where
  pub keeps : Keeps old new
  pub cost : Costs old new (with_registers 6 (used.width * 2 + 1))
  pub has : HasRecent new used.width r
  pub law : (run : Run) → IsRun new run → IsRecent run used near far r

-- one cycle after a slot was read: its number, and whether a key of the stream has it
pub record IsPlaceRead (run : Run) (found used : Bus) (ends : Bit) (r : PlaceRead) : Type 0 where
  pub below : (t : ℕ) → line_at run r.below (suc (suc t))
      ≡ (nat_lt (run.at (suc t) found.node) (run.at (suc t) used.node) && not (line_at run ends (suc t)))
  pub number : (t : ℕ) → run.at (suc (suc t)) r.number.node ≡ run.at (suc t) found.node

pub record IsPlaceReadIn (old new : Net) (found used : Bus) (ends : Bit) (r : PlaceRead) : Type 0 where
  pub keeps : Keeps old new
  pub cost : Costs old new (with_registers 6 (found.width + 2))
  pub below : IsBit new r.below
  pub number : IsBus new r.number
  pub number_width : r.number.width ≡ found.width + 1
  pub law : (run : Run) → IsRun new run → IsPlaceRead run found used ends r

-- ---- what is told

-- a line that is 1 where another one is and two buses carry the same
pub record IsHitIn (old new : Net) (below : Bit) (last stored : Bus) (out : Bit) : Type 0 where
  pub keeps : Keeps old new
  pub cost : Costs old new (nodes_alone 2)
  pub bit : IsBit new out
  pub line : (run : Run) → IsRun new run → (t : ℕ)
      → line_at run out t ≡ (line_at run below t && same_at run last stored t)

-- a line that is 1 where one of three is
pub record IsKnownIn (old new : Net) (hit one two out : Bit) : Type 0 where
  pub keeps : Keeps old new
  pub cost : Costs old new (nodes_alone 2)
  pub bit : IsBit new out
  pub line : (run : Run) → IsRun new run → (t : ℕ)
      → line_at run out t ≡ ((line_at run hit t || line_at run one t) || line_at run two t)

-- the slot that was read, or that a row before took, or the next one
abbrev pub number_at : Run → Bool → Seen → ℕ → ℕ
number_at run hit s t =
    if hit then run.at t s.read.number.node
    else (if line_at run s.recent.one t then run.at t s.recent.before.node
    else (if line_at run s.recent.two t then run.at t s.recent.earlier.node else run.at t s.used.node))

pub record IsNumberIn (old new : Net) (hit : Bit) (s : Seen) (out : Bus) : Type 0 where
  pub keeps : Keeps old new
  pub cost : Costs old new (nodes_alone 3)
  pub bus : IsBus new out
  pub width : out.width ≡ s.read.number.width
  pub value : (run : Run) → IsRun new run → (t : ℕ)
      → run.at (suc t) out.node ≡ number_at run (line_at run hit (suc t)) s (suc t)

-- a row whose key is not known is the first of its key, where a slot is left, and else is left out
pub record IsDecision (run : Run) (valid : Bit) (known : ℕ → Bool) (used : Bus) (groups : ℕ) (r : Decision)
    : Type 0 where
  pub further : (t : ℕ) → line_at run r.further t
      ≡ ((line_at run valid t && not (known t)) && nat_eq (held_at 0 run used t) groups)
  pub first : (t : ℕ) → line_at run r.first t
      ≡ ((line_at run valid t && not (known t)) && not (line_at run r.further t))
  pub row : (t : ℕ) → line_at run r.row t ≡ (line_at run valid t && not (line_at run r.further t))

pub record IsDecisionIn (old new : Net) (valid known : Bit) (used : Bus) (groups : ℕ) (r : Decision) : Type 0 where
  pub keeps : Keeps old new
  pub cost : Costs old new (nodes_alone 6)
  pub row : IsBit new r.row
  pub first : IsBit new r.first
  pub further : IsBit new r.further
  pub law : (run : Run) → IsRun new run → IsDecision run valid (line_at run known) used groups r

-- whether the slot that was read has the row's key
abbrev pub hit_at : Run → Asked → Bus → Seen → ℕ → Bool
hit_at run a stored s t = line_at run s.read.below t && same_at run a.last stored t

-- whether a key of the stream is the row's
abbrev pub known_at : Run → Asked → Bus → Seen → ℕ → Bool
known_at run a stored s t =
    (hit_at run a stored s t || line_at run s.recent.one t) || line_at run s.recent.two t

pub record IsTold (run : Run) (keys : Keys) (a : Asked) (stored : Bus) (s : Seen) (r : Told) : Type 0 where
  pub decision : IsDecision run a.valid (known_at run a stored s) s.used keys.groups r.decision
  pub slot : (t : ℕ) → run.at (suc t) r.slot.node
      ≡ number_at run (hit_at run a stored s (suc t)) s (suc t) % 2 ^ keys.width

pub record IsToldIn (old new : Net) (keys : Keys) (a : Asked) (stored : Bus) (s : Seen) (r : Told) : Type 0 where
  pub keeps : Keeps old new
  pub cost : Costs old new (nodes_alone 14)
  pub has : HasTold new keys.width r
  pub law : (run : Run) → IsRun new run → IsTold run keys a stored s r

-- ---- memories

-- words that are written where a key takes a slot, and read one cycle before a register shows one
pub record IsRemembered (run : Run) (write : Bit) (place value at out : Bus) : Type 0 where
  pub word : ℕ → ℕ → ℕ
  pub reads : (t : ℕ) → run.at (suc (suc t)) out.node ≡ word (suc t) (run.at (suc t) at.node)
  pub writes : (t k : ℕ) → word (suc t) k
      ≡ stored_of (run.at t write.node) (run.at t place.node) (run.at t value.node) k (word t k)

-- what is told with the key of the slot that was found
pub record IsKeyFound (run : Run) (keys : Keys) (a : Asked) (found : Bus) (s : Seen) (r : Told) : Type 0 where
  pub stored : Bus
  pub words : IsRemembered run r.decision.first r.slot a.last found stored
  pub told : IsTold run keys a stored s r

pub record IsKeyFoundIn (old new : Net) (keys : Keys) (a : Asked) (found : Bus) (s : Seen) (r : Told) : Type 0 where
  pub keeps : Keeps old new
  pub cost : Costs old new (record { nodes = 17; registers = a.last.width; memories = 2 ^ keys.width * a.last.width })
  pub has : HasTold new keys.width r
  pub law : (run : Run) → IsRun new run → IsKeyFound run keys a found s r

-- what is told with the slot of the key that came
pub record IsPlaceFound (run : Run) (keys : Keys) (a : Asked) (used : Bus) (recent : Recent) (r : Told) : Type 0 where
  pub found : Bus
  pub words : IsRemembered run r.decision.first a.last r.slot a.here found
  pub read : PlaceRead
  pub is_read : IsPlaceRead run found used a.ends read
  pub key : IsKeyFound run keys a found (record { used = used; recent = recent; read = read }) r

pub record IsPlaceFoundIn (old new : Net) (keys : Keys) (a : Asked) (used : Bus) (recent : Recent) (r : Told)
    : Type 0 where
  pub keeps : Keeps old new
  pub cost : Costs old new (record {
    nodes = 26;
    registers = a.last.width + keys.width * 2 + 2;
    memories = 2 ^ a.last.width * keys.width + 2 ^ keys.width * a.last.width;
  })
  pub has : HasTold new keys.width r
  pub law : (run : Run) → IsRun new run → IsPlaceFound run keys a used recent r

-- how many keys there are one cycle later: none behind an end, and one more with a new key
pub record IsNextUsed (run : Run) (used : Bus) (first ends : Bit) (out : Bus) : Type 0 where
  pub value : (t : ℕ) → run.at (suc t) used.node + 1 < 2 ^ used.width
      → run.at (suc t) out.node ≡ (if line_at run ends (suc t) then 0
      else (if line_at run first (suc t) then run.at (suc t) used.node + 1 else run.at (suc t) used.node))

pub record IsNextUsedIn (old new : Net) (used : Bus) (first ends : Bit) (out : Bus) : Type 0 where
  pub keeps : Keeps old new
  pub cost : Costs old new (nodes_alone 5)
  pub bus : IsBus new out
  pub width : out.width ≡ used.width
  pub law : (run : Run) → IsRun new run → IsNextUsed run used first ends out

-- what is told, with how many keys there are
pub record IsCounted (run : Run) (keys : Keys) (a : Asked) (r : Told) : Type 0 where
  pub used : Bus
  pub recent : Recent
  pub is_recent : IsRecent run used a.near a.far recent
  pub place : IsPlaceFound run keys a used recent r
  pub start : run.at 1 used.node ≡ 0
  pub next : (t : ℕ) → run.at (suc t) used.node + 1 < 2 ^ (keys.width + 1)
      → run.at (suc (suc t)) used.node ≡ (if line_at run a.ends (suc t) then 0
      else (if line_at run r.decision.first (suc t) then run.at (suc t) used.node + 1 else run.at (suc t) used.node))

pub record IsCountedIn (old new : Net) (keys : Keys) (a : Asked) (r : Told) : Type 0 where
  pub keeps : Keeps old new
  pub cost : Costs old new (record {
    nodes = 38;
    registers = a.last.width + keys.width * 5 + 6;
    memories = 2 ^ a.last.width * keys.width + 2 ^ keys.width * a.last.width;
  })
  pub has : HasTold new keys.width r
  pub law : (run : Run) → IsRun new run → IsCounted run keys a r

-- ---- the lane

-- what is told, one cycle later
pub record IsToldLate (run : Run) (late : Wire) (told : Told) (r : KeyLane) : Type 0 where
  pub wire : IsDelayed 1 (carried run (wire_of told.decision.row late.eos late.columns)) (carried run r.wire)
  pub slot : (t : ℕ) → run.at (suc (suc t)) r.slot.node ≡ run.at (suc t) told.slot.node
  pub first : (t : ℕ) → line_at run r.first (suc t) ≡ line_at run told.decision.first t
  pub further : (t : ℕ) → line_at run r.further (suc t) ≡ line_at run told.decision.further t

pub record IsToldLateIn (old new : Net) (late : Wire) (told : Told) (r : KeyLane) : Type 0 where
  pub keeps : Keeps old new
  pub cost : Costs old new (with_registers (length (widths late.columns) + 5)
      (sum (widths late.columns) + told.slot.width + 4))
  pub has : HasKeyLane new late told.slot.width r
  pub law : (run : Run) → IsRun new run → IsToldLate run late told r

-- in a run, three cycles behind a wire, the lane of the first keys of each of its streams, and a line that is 1 where a
-- row of a further key would stand
abbrev pub IsMapLane : Run → Keys → Wire → KeyLane → Type 0
IsMapLane run keys source r = IsLaneBehind 3 run keys source r

-- what it costs for columns of these widths: a word for each key, and one for each slot
abbrev pub cost_of_map : Keys → (count bits key : ℕ) → Cost
cost_of_map keys count bits key = record {
  nodes = count * 3 + 56;
  registers = bits * 3 + key * 2 + keys.width * 6 + 17;
  memories = 2 ^ key * keys.width + 2 ^ keys.width * key;
}

-- in every run, from any contents
pub record IsMapLaneIn (old new : Net) (keys : Keys) (source : Wire) (r : KeyLane) : Type 0 where
  pub keeps : Keeps old new
  pub cost : Costs old new (cost_of_map keys (length (widths source.columns)) (sum (widths source.columns))
      (slice_index (widths source.columns) keys.column))
  pub has : HasKeyLane new source keys.width r
  pub law : (run : Run) → IsRun new run → IsMapLane run keys source r
