-- The lane of frames with PARTITION: a slot for each of the first keys of a stream, and one end for all of them.
use Rattle.std.specs.Prelude.{◌≡◌, ℕ, suc, List, [], Option, Some, None, Bool, true, false, not, ◌&&◌, take, if◌then◌else◌, nat_eq, option_to_list}
use Rattle.gl_values.specs.Lists.{keys_of}
use Rattle.gl_values.specs.Partitions.{has_key}
use Rattle.gl_values.specs.Results.{Row}
use Rattle.gl_slots.specs.Slots.{is_further, of_slot}
use Rattle.gl_wire.specs.Wire.{Carried, pending, stream}
use Rattle.gl_wire_lanes.specs.Lanes.{Lane, row_in}

-- the first keys of a stream with what comes in a cycle
abbrev pub first_keys : ℕ → (Row → ℕ) → Carried → ℕ → List ℕ
first_keys groups key a c = take groups (keys_of key (stream a c))

-- whether a tuple's key is among them
abbrev pub is_kept : ℕ → (Row → ℕ) → Carried → ℕ → Option Row → Bool
is_kept groups key a c None = false
is_kept groups key a c (Some r) = has_key groups key (stream a c) (key r)

-- whether it is among them, and was not before this tuple
abbrev pub is_first : ℕ → (Row → ℕ) → Carried → ℕ → Option Row → Bool
is_first groups key a c None = false
is_first groups key a c (Some r) =
    has_key groups key (stream a c) (key r) && not (has_key groups key (pending a c) (key r))

-- whether a tuple comes that is left out: its key is not among the first ones
abbrev pub leaves_out : ℕ → (Row → ℕ) → Carried → ℕ → Bool
leaves_out groups key a c = is_further key (first_keys groups key a c) (a.tuple c)

-- a lane for the rows of the first keys: slot k takes those of the k-th one, each in its own cycle. It tells with each
-- whether its key is new to the stream, and the end of the stream ends the streams of all slots at once
pub record IsKeyedLane (groups : ℕ) (key : Row → ℕ) (a : Carried) (l : Lane) (row : ℕ → Row) : Type 0 where
  pub takes : (c k : ℕ) → (if nat_eq (l.slot c) k then row_in l row c else [])
      ≡ option_to_list (of_slot key (first_keys groups key a c) k (a.tuple c))
  pub valid : (c : ℕ) → l.valid c ≡ is_kept groups key a c (a.tuple c)
  pub first : (c : ℕ) → l.first c ≡ is_first groups key a c (a.tuple c)
  pub ends : (c : ℕ) → l.ends c ≡ a.ends c

-- a lane and its rows one cycle behind another; of the other's cycle 0 slot and row do not count
pub record IsLaneLate {B : Type 0} (l d : Lane) (row late : ℕ → B) : Type 0 where
  pub no_row : d.valid 0 ≡ false
  pub no_first : d.first 0 ≡ false
  pub no_end : d.ends 0 ≡ false
  pub rows : (c : ℕ) → d.valid (suc c) ≡ l.valid c
  pub firsts : (c : ℕ) → d.first (suc c) ≡ l.first c
  pub ends : (c : ℕ) → d.ends (suc c) ≡ l.ends c
  pub slots : (c : ℕ) → d.slot (suc (suc c)) ≡ l.slot (suc c)
  pub values : (c : ℕ) → l.valid (suc c) ≡ true → late (suc (suc c)) ≡ row (suc c)
