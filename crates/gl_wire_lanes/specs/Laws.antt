-- Laws of lanes. A clause cannot range over all types of states, so it names one; the lemmas behind these are public.
use Rattle.std.specs.Prelude.{◌≡◌, ℕ, suc, Bool, true, false, ◌||◌, fold}
use Rattle.gl_net.specs.declared.node.Bus.{Bus}
use Rattle.gl_net.specs.declared.node.Bit.{Bit}
use Rattle.gl_net.specs.Net.{Run}
use Rattle.gl_wire.specs.declared.wire.Wire.{Wire}
use Rattle.gl_wire.specs.Wire.{carried, line_at, stream}
use Rattle.gl_wire_lanes.specs.Keeping.{IsKept, IsKeptAhead, IsRegister, Stays, Steps}
use Rattle.gl_wire_lanes.specs.Lanes.{Lane, Begins, IsFresh, IsLaneBehind, IsSingle, rows_now, single}
use Rattle.gl_wire_lanes.specs.Shares.{lane_of, rows_of, share, slot_of}

-- what is kept and takes a step with each row is the fold of the slot's stream, whatever the words were at the start
abbrev pub TablesFold : Type 0 → Type 0 → Type 0
TablesFold A B =
    (step : A → B → A) (initial : A) (l : Lane) (row : ℕ → B) (before now : ℕ → A)
    → Begins l → IsKept initial l before now → Steps step l row before now
    → (c : ℕ) → IsFresh l (suc c) → now (suc c) ≡ fold step initial (rows_now l row (suc c))

-- two states that are kept for the same slots are one
abbrev pub BothAreKept : Type 0 → Type 0 → Type 0
BothAreKept A C =
    (a : A) (x : C) (l : Lane) (before now : ℕ → A) (second later : ℕ → C)
    → IsKept a l before now → IsKept x l second later
    → IsKept {A = A × C} (a, x) l (λ c. (before c, second c)) (λ c. (now c, later c))

-- reading a cycle ahead keeps states too
abbrev pub AheadIsKept : Type 0 → Type 0
AheadIsKept A =
    (initial : A) (l : Lane) (before now : ℕ → A)
    → IsKeptAhead initial l before now → IsKept initial l before now

-- a register keeps a state for streams one after another, where it stays while no row comes
abbrev pub RegisterIsKept : Type 0 → Type 0
RegisterIsKept A =
    (initial : A) (valid ends : ℕ → Bool) (before now : ℕ → A)
    → IsRegister initial ends before now → Stays valid before now → IsKept initial (single valid ends) before now

-- streams one after another tell where they begin
abbrev pub OneIsSingle : Type 0
OneIsSingle = (valid ends : ℕ → Bool) → valid 0 ≡ false → ends 0 ≡ false → IsSingle (single valid ends)

-- in a lane that tells where streams begin, each cycle with a row and each with an end is fresh
abbrev pub EventsAreFresh : Type 0
EventsAreFresh = (l : Lane) → Begins l → (c : ℕ) → (l.valid c || l.ends c) ≡ true → IsFresh l c

-- what is some cycles behind such a lane, rows dropped or not, is one
abbrev pub BeginsBehind : Type 0
BeginsBehind = (m : ℕ) (l d : Lane) → Begins l → IsLaneBehind m l d → Begins d

-- the rows of the slot whose cycle it is are the stream of its share
abbrev pub SharesAreStreams : Type 0
SharesAreStreams =
    (run : Run) (w : Wire) (slot : Bus) (first : Bit) (c : ℕ)
    → rows_now (lane_of run w slot first) (rows_of run w) c
    ≡ stream (share (slot_of run slot) (slot_of run slot c) (carried run w)) c

-- in a lane of streams one after another, the rows of a stream are those of the wire
abbrev pub SinglesAreStreams : Type 0
SinglesAreStreams =
    (run : Run) (w : Wire) (c : ℕ)
    → rows_now (single (line_at run w.valid) (line_at run w.eos)) (rows_of run w) c ≡ stream (carried run w) c
