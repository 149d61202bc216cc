-- Beats: the cycles in which tuples come, ticks of the clock, and the end; and the words of the parameters.
use Rattle.std.specs.Prelude.{◌≡◌, ℕ, ◌+◌, ◌<◌, ◌≤◌, Bool, false, List, [], ◌∷◌, length, Option, None, IfSome, is_some, option_map, unwrap_or, slice_get, IsTrue, IsFalse, filter_map, find, ◌==◌}
use Rattle.std.specs.List.{AllByRecursion, cons_option, list_any}
use Rattle.std.specs.Option.{option_map_or}
use Rattle.gl_bits.specs.Words.{bit}
use Rattle.gl_schema.specs.declared.schema.Stream.{Stream}
use Rattle.gl_schema.specs.declared.schema.Schema.{Schema}
use Rattle.gl_schema.specs.Schemas.{IsRowOf}

-- a cycle with a row of some streams, one entry for each stream, with a tick, or with the end; the tick comes before the
-- rows of its cycle
pub record Beat : Type 0 where
  pub cycle : ℕ
  pub rows : List (Option (List ℕ))
  pub tick : Bool
  pub end : Bool

-- beats in order, and a word for each parameter of the schema, which holds in all cycles of the run
pub record Beats : Type 0 where
  pub list : List Beat
  pub sets : List ℕ

-- one entry for each stream, and what is there is a row of it
abbrev pub AreRowsOf : List Stream → List (Option (List ℕ)) → Type 0
AreRowsOf [] [] = Unit {0}
AreRowsOf [] (r ∷ rs) = ⊥
AreRowsOf (s ∷ ss) [] = ⊥
AreRowsOf (s ∷ ss) (r ∷ rs) = IfSome r (IsRowOf s.columns) × AreRowsOf ss rs

-- a beat of a schema: its rows fit, and there is a row, a tick or the end
pub record IsBeat (schema : Schema) (b : Beat) : Type 0 where
  pub rows : AreRowsOf schema.streams b.rows
  pub some' : IsFalse b.end → IsFalse b.tick → IsTrue (list_any is_some b.rows)

-- cycles rise, and the last beat alone has the end
abbrev pub AreInOrder : List Beat → Type 0
AreInOrder [] = ⊥
AreInOrder (b ∷ []) = IsTrue b.end
AreInOrder (b ∷ c ∷ bs) = IsFalse b.end × (b.cycle < c.cycle) × AreInOrder (c ∷ bs)

-- the beats of a schema, with a word for each of its parameters, as wide as the parameter
pub record AreBeats (schema : Schema) (beats : Beats) : Type 0 where
  pub each : AllByRecursion (IsBeat schema) beats.list
  pub order : AreInOrder beats.list
  pub held : IsRowOf schema.parameters beats.sets

-- the row of stream k in a beat
abbrev pub row_in : ℕ → Beat → Option (List ℕ)
row_in k b = unwrap_or (slice_get b.rows k) None

-- the input of stream k: its rows, in order of the beats
abbrev pub input_of : ℕ → List Beat → List (List ℕ)
input_of k beats = filter_map (row_in k) beats

-- how many ticks beats have
abbrev pub ticks_of : List Beat → ℕ
ticks_of [] = 0
ticks_of (b ∷ bs) = bit b.tick + ticks_of bs

-- behind so many ticks, the time of each row of stream k: the number of ticks up to its beat, that of the beat included
abbrev pub times_from : ℕ → ℕ → List Beat → List ℕ
times_from before k [] = []
times_from before k (b ∷ bs) =
    cons_option (option_map (λ row. before + bit b.tick) (row_in k b)) (times_from (before + bit b.tick) k bs)

-- the time of each row of a stream: the ticks up to its beat, that of the beat included
abbrev pub times_of : ℕ → List Beat → List ℕ
times_of k beats = times_from 0 k beats

-- the place of each row of a stream: the cycle of its beat
abbrev pub places_of : ℕ → List Beat → List ℕ
places_of k beats = filter_map (λ b. option_map (λ row. b.cycle) (row_in k b)) beats

-- what comes in to a query: the rows of each stream, by the streams' numbers, with their places and times, how many
-- ticks, and the words of the parameters
pub record Inputs : Type 0 where
  pub rows : ℕ → List (List ℕ)
  pub places : ℕ → List ℕ
  pub times : ℕ → List ℕ
  pub ticks : ℕ
  pub sets : List ℕ

-- the inputs that beats bring
abbrev pub inputs_of : Beats → Inputs
inputs_of beats =
    record {
      rows = λ k. input_of k beats.list;
      places = λ k. places_of k beats.list;
      times = λ k. times_of k beats.list;
      ticks = ticks_of beats.list;
      sets = beats.sets;
    }

-- no time, and no place, is above a later one
abbrev pub NeverFall : List ℕ → Type 0
NeverFall [] = Unit {0}
NeverFall (t ∷ ts) = AllByRecursion (λ s. t ≤ s) ts × NeverFall ts

-- each row of a stream has a time, in their order, and none is above the number of ticks
pub record HaveTimes (inputs : Inputs) : Type 0 where
  pub each : (k : ℕ) → length (inputs.times k) ≡ length (inputs.rows k)
  pub order : (k : ℕ) → NeverFall (inputs.times k)
  pub last : (k : ℕ) → AllByRecursion (λ t. t ≤ inputs.ticks) (inputs.times k)

-- each row of a stream has a place, in their order, and none is above a later one
pub record HavePlaces (inputs : Inputs) : Type 0 where
  pub each : (k : ℕ) → length (inputs.places k) ≡ length (inputs.rows k)
  pub order : (k : ℕ) → NeverFall (inputs.places k)

-- the cycle of the last beat of a list
abbrev pub last_in : List Beat → ℕ
last_in [] = 0
last_in (b ∷ []) = b.cycle
last_in (b ∷ c ∷ bs) = last_in (c ∷ bs)

-- the cycle of the last beat
abbrev pub last_cycle : Beats → ℕ
last_cycle beats = last_in beats.list

-- each beat of a list is at least gap cycles after the one before
abbrev pub AreSpaced : ℕ → List Beat → Type 0
AreSpaced gap [] = Unit {0}
AreSpaced gap (b ∷ []) = Unit {0}
AreSpaced gap (b ∷ c ∷ bs) = (b.cycle + gap ≤ c.cycle) × AreSpaced gap (c ∷ bs)

-- each beat is at least gap cycles after the one before
abbrev pub KeepsGap : ℕ → Beats → Type 0
KeepsGap gap beats = AreSpaced gap beats.list

-- the beat of a cycle
abbrev pub beat_at : List Beat → ℕ → Option Beat
beat_at beats n = find (λ b. b.cycle == n) beats

-- the rows of a cycle's beat, one entry for each stream, or none at all
abbrev pub rows_at : List Beat → ℕ → List (Option (List ℕ))
rows_at beats n = option_map_or (λ b. b.rows) (beat_at beats n) []

-- the end comes in this cycle
abbrev pub ends_at : List Beat → ℕ → Bool
ends_at beats n = option_map_or (λ b. b.end) (beat_at beats n) false

-- a tick comes in this cycle
abbrev pub ticks_at : List Beat → ℕ → Bool
ticks_at beats n = option_map_or (λ b. b.tick) (beat_at beats n) false
