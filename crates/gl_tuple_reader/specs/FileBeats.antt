-- The beats of a tuple file, told of its records without an order of work.
-- Proved equal to `Settings` and `Filing` (`one_reading`), on which what the program promises rests.
use Rattle.std.specs.Prelude.{◌≡◌, ℕ, ◌+◌, ◌≤◌, Bool, true, false, not, ◌&&◌, List, [], ◌∷◌, ◌++◌, length, drop, Option, Some, None, IfSome, IsTrue, IsFalse, option_map, unwrap_or, find, slice_get, codes, bytes_eq, ◌==◌, if◌then◌else◌}
use Rattle.std.specs.List.{AllByRecursion, list_any}
use Rattle.std.specs.Option.{option_map_or}
use Rattle.gl_bits.specs.Words.{Word}
use Rattle.gl_schema.specs.declared.schema.Schema.{Schema}
use Rattle.gl_tuples.specs.declared.beats.Beat.{Beat}
use Rattle.gl_tuples.specs.Values.{number_of}
use Rattle.gl_schema.specs.Beats.{IsBeat, AreInOrder, last_in}
use Rattle.gl_schema.specs.Schemas.{IsRowOf}
use Rattle.gl_tuple_reader.specs.Entries.{are_utf8, option_bind, words_of, columns_at, stream_named}
use Rattle.gl_tuple_reader.specs.Settings.{says_set, parameter_named, value_in}
use Rattle.gl_tuples.specs.Flat.{BeatList}
use Rattle.gl_tuples.specs.Gaps.{plain_list}

-- an optional number is this one
abbrev pub is_number : ℕ → Option ℕ → Bool
is_number n None = false
is_number n (Some m) = m == n

-- the cycle that a record's first field spells
abbrev pub cycle_said : List (List ℕ) → Option ℕ
cycle_said fields = option_bind (slice_get fields 0) number_of

-- a record is of this cycle
abbrev pub in_cycle : ℕ → List (List ℕ) → Bool
in_cycle cycle fields = is_number cycle (cycle_said fields)

-- a field names stream k
abbrev pub names : Schema → ℕ → List ℕ → Bool
names schema k name =
    not (bytes_eq name (codes "end")) && (not (bytes_eq name (codes "tick")) && is_number k (stream_named schema name))

-- the row of a record that names this stream, if it does
abbrev pub row_named : Schema → ℕ → List (List ℕ) → Option (List ℕ) → Option (List Word)
row_named schema k fields None = None
row_named schema k fields (Some name) =
    if names schema k name then words_of (columns_at schema.streams k) (drop 2 fields) else None

-- the row that a record brings to stream k, which its second field names
unfoldable pub row_for : Schema → ℕ → List (List ℕ) → Option (List Word)
row_for schema k fields = row_named schema k fields (slice_get fields 1)

-- one value, or else the other
abbrev pub either : {A : Type 0} → Option A → Option A → Option A
either None o = o
either (Some x) o = Some x

-- the row that comes to stream k in a cycle, of the first record that brings one
abbrev pub row_of_records : Schema → ℕ → ℕ → List (List (List ℕ)) → Option (List Word)
row_of_records schema cycle k [] = None
row_of_records schema cycle k (r ∷ rs) =
    either (if in_cycle cycle r then row_for schema k r else None) (row_of_records schema cycle k rs)

-- a record is not later than a cycle
abbrev pub IsBy : ℕ → List (List ℕ) → Type 0
IsBy cycle fields = IfSome (cycle_said fields) (λ c. c ≤ cycle)

-- a record's second field says the end
unfoldable pub says_end : List (List ℕ) → Bool
says_end fields = option_map_or (λ name. bytes_eq name (codes "end")) (slice_get fields 1) false

-- a record's second field says a tick
unfoldable pub says_tick : List (List ℕ) → Bool
says_tick fields = option_map_or (λ name. bytes_eq name (codes "tick")) (slice_get fields 1) false

-- a tick comes in a cycle: a record of it says so
abbrev pub tick_of_records : ℕ → List (List (List ℕ)) → Bool
tick_of_records cycle rs = list_any (λ r. in_cycle cycle r && says_tick r) rs

-- a record brings a tick: nothing stands behind, and no tick came before in its cycle
pub record BringsTick (before : List (List (List ℕ))) (cycle : ℕ) (fields : List (List ℕ)) : Type 0 where
  pub alone' : length fields ≡ 2
  pub new : IsFalse (tick_of_records cycle before)

-- a record brings a row: it names a stream, has a value for each of its columns and nothing behind them, and no row of
-- the stream came before in its cycle
pub record BringsRow (schema : Schema) (before : List (List (List ℕ))) (cycle : ℕ) (fields : List (List ℕ))
    : Type 0 where
  pub name : List ℕ
  pub second : slice_get fields 1 ≡ Some name
  pub stream : ℕ
  pub named : stream_named schema name ≡ Some stream
  pub row : List Word
  pub values : words_of (columns_at schema.streams stream) (drop 2 fields) ≡ Some row
  pub many : length fields ≡ 2 + length (columns_at schema.streams stream)
  pub new : row_of_records schema cycle stream before ≡ None

-- what a record brings, by whether it says the end and whether it says a tick: the end, with nothing behind, a tick, or a
-- row
abbrev pub Brings : Schema → List (List (List ℕ)) → ℕ → List (List ℕ) → Bool → Bool → Type 0
Brings schema before cycle fields true ticks = length fields ≡ 2
Brings schema before cycle fields false true = BringsTick before cycle fields
Brings schema before cycle fields false false = BringsRow schema before cycle fields

-- a record may stand behind these: it is text, its cycle is at most 10,000,000 and not below one before, and no end
-- came before
pub record MayFollow (schema : Schema) (before : List (List (List ℕ))) (fields : List (List ℕ)) : Type 0 where
  pub text : IsTrue (are_utf8 fields)
  pub cycle : ℕ
  pub said : cycle_said fields ≡ Some cycle
  pub early : cycle ≤ 10000000
  pub rises : AllByRecursion (IsBy cycle) before
  pub still : AllByRecursion (λ r. IsFalse (says_end r)) before
  pub brings : Brings schema before cycle fields (says_end fields) (says_tick fields)

-- the rules of a tuple file: each record may stand behind those before it
abbrev pub KeepRules : Schema → List (List (List ℕ)) → Type 0
KeepRules schema rs =
    (before : List (List (List ℕ))) (r : List (List ℕ)) (after : List (List (List ℕ))) → rs ≡ before ++ r ∷ after
    → MayFollow schema before r

-- the number of the first record of a cycle, where they are counted from n
abbrev pub number_from : ℕ → ℕ → List (List (List ℕ)) → Option ℕ
number_from n cycle [] = None
number_from n cycle (r ∷ rs) = if in_cycle cycle r then Some n else number_from (n + 1) cycle rs

-- without a record there is one beat, in cycle 0, with the number 0; else one for each cycle of a record, counted
-- behind so many others
abbrev pub number_of_records : ℕ → ℕ → List (List (List ℕ)) → Option ℕ
number_of_records count cycle [] = if 0 == cycle then Some 0 else None
number_of_records count cycle (r ∷ rs) = number_from (count + 1) cycle (r ∷ rs)

-- the number of the beat of a cycle, if there is one
abbrev pub number_at : List Beat → ℕ → Option ℕ
number_at beats cycle = option_map (λ b. b.number) (find (λ b. b.cycle == cycle) beats)

-- the row of a stream among those of a beat, if there is one
abbrev pub row_among : List (Option (List Word)) → ℕ → Option (List Word)
row_among rows k = unwrap_or (slice_get rows k) None

-- the row of a stream in a cycle, if one comes
abbrev pub row_at : List Beat → ℕ → ℕ → Option (List Word)
row_at beats cycle k = option_bind (find (λ b. b.cycle == cycle) beats) (λ b. row_among b.rows k)

-- a tick comes in a cycle
abbrev pub tick_at : List Beat → ℕ → Bool
tick_at beats cycle = option_map_or (λ b. b.tick) (find (λ b. b.cycle == cycle) beats) false

-- beats of the schema in order, the last in cycle 10,000,000 at most
pub record AreListBeats (schema : Schema) (beats : List Beat) : Type 0 where
  pub each : AllByRecursion (IsBeat schema) (plain_list beats)
  pub order : AreInOrder (plain_list beats)
  pub last : last_in (plain_list beats) ≤ 10000000

-- beats of the schema, one for each cycle of a record, with the records' rows and ticks; the last alone has the end; and
-- the records, which stand behind so many others, keep the rules
pub record AreListed (count : ℕ) (schema : Schema) (rs : List (List (List ℕ))) (beats : List Beat) : Type 0 where
  pub fine : AreListBeats schema beats
  pub numbers : (cycle : ℕ) → number_at beats cycle ≡ number_of_records count cycle rs
  pub rows : (cycle k : ℕ) → row_at beats cycle k ≡ row_of_records schema cycle k rs
  pub ticks : (cycle : ℕ) → tick_at beats cycle ≡ tick_of_records cycle rs
  pub rules : KeepRules schema rs

-- ---- the records in front

-- the records in front that set parameters
abbrev pub settings : List (List (List ℕ)) → List (List (List ℕ))
settings [] = []
settings (r ∷ rs) = if says_set r then r ∷ settings rs else []

-- the records behind them
abbrev pub others : List (List (List ℕ)) → List (List (List ℕ))
others [] = []
others (r ∷ rs) = if says_set r then others rs else r ∷ rs

-- the parameter that a record's second field names
abbrev pub parameter_said : Schema → List (List ℕ) → Option ℕ
parameter_said schema fields = option_bind (slice_get fields 1) (parameter_named schema)

-- the value that a record gives to parameter k, if it names it
unfoldable pub value_for : Schema → ℕ → List (List ℕ) → Option ℕ
value_for schema k fields = if is_number k (parameter_said schema fields) then value_in schema k fields else None

-- the value of parameter k, of the first record that gives one
abbrev pub value_of_records : Schema → ℕ → List (List (List ℕ)) → Option ℕ
value_of_records schema k [] = None
value_of_records schema k (r ∷ rs) = either (value_for schema k r) (value_of_records schema k rs)

-- a record may set a parameter behind these: it is text, its three fields name a parameter and a value of it, and none
-- before gave it one
pub record MaySet (schema : Schema) (before : List (List (List ℕ))) (fields : List (List ℕ)) : Type 0 where
  pub text : IsTrue (are_utf8 fields)
  pub many : length fields ≡ 3
  pub parameter : ℕ
  pub named : parameter_said schema fields ≡ Some parameter
  pub value : ℕ
  pub is : value_in schema parameter fields ≡ Some value
  pub new : value_of_records schema parameter before ≡ None

-- each of the records may set a parameter behind those before it
abbrev pub MayAllSet : Schema → List (List (List ℕ)) → Type 0
MayAllSet schema rs =
    (before : List (List (List ℕ))) (r : List (List ℕ)) (after : List (List (List ℕ))) → rs ≡ before ++ r ∷ after
    → MaySet schema before r

-- each parameter has the value that one of the records gives it
pub record AreSet (schema : Schema) (rs : List (List (List ℕ))) (sets : List ℕ) : Type 0 where
  pub held : IsRowOf schema.parameters sets
  pub values : (k : ℕ) → slice_get sets k ≡ value_of_records schema k rs
  pub rules : MayAllSet schema rs

-- the records in front set the parameters, and the others are the beats
pub record AreBeatsOf (schema : Schema) (rs : List (List (List ℕ))) (beats : BeatList) : Type 0 where
  pub set' : AreSet schema (settings rs) beats.sets
  pub listed : AreListed (length (settings rs)) schema (others rs) beats.list
