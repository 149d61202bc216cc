-- Records with a cycle, one after another, made into beats, or the first rule that one of them breaks.
-- What the program promises of a tuple file rests on this text.
use Rattle.std.specs.Prelude.{ℕ, ◌+◌, ◌<◌, Bool, true, false, List, [], ◌∷◌, ◌++◌, length, Option, Some, None, Result, Ok, Err, nat_lt, ◌==◌, slice_get, slice_set, replicate, is_some, IfSome, unwrap_or, if◌then◌else◌}
use Rattle.gl_bits.specs.Words.{Word}
use Rattle.gl_schema.specs.declared.schema.Schema.{Schema}
use Rattle.gl_tuples.specs.declared.fault.TupleFault.{TupleFault}
use Rattle.gl_tuples.specs.declared.fault.TupleFault.TheVariants.{CycleFalls, StreamTwice, TickTwice, AfterEnd}
use Rattle.gl_tuple_reader.specs.declared.entry.Entry.{Entry}
use Rattle.gl_tuple_reader.specs.declared.entry.Entry.TheVariants.{Tuple, Tick, End}
use Rattle.gl_tuples.specs.declared.beats.Beat.{Beat}
use Rattle.gl_tuples.specs.Growing.{Fit, Grown, no_beats}
use Rattle.gl_tuple_reader.specs.declared.filing.Filing.{Filing}
use Rattle.gl_tuple_reader.specs.Entries.{◌>>=◌, text_checked, cycle_of, entry_of}
use Rattle.csv.specs.Reading.{records, default_config, strip_bom}

-- the stream of an entry is one of these many
abbrev pub IsEntry : ℕ → Entry → Type 0
IsEntry streams (Tuple k row) = k < streams
IsEntry streams Tick = Unit {0}
IsEntry streams End = Unit {0}

-- the rows of the current beat have the columns of their streams
abbrev pub CurrentFit : List (List ℕ) → Option Beat → Type 0
CurrentFit columns current = IfSome current (λ b. Fit columns b.rows)

-- a beat without rows and without a tick
abbrev pub empty_beat : ℕ → ℕ → ℕ → Beat
empty_beat streams cycle number =
    record { cycle = cycle; number = number; rows = replicate streams None; tick = false; end = false }

-- no end came before
abbrev pub open_checked : ℕ → Option Beat → Result (Unit {0}) TupleFault
open_checked number None = Ok tt
open_checked number (Some beat) = if beat.end then Err (AfterEnd number) else Ok tt

-- the cycle is not below the one before
abbrev pub cycle_checked : ℕ → ℕ → Option Beat → Result (Unit {0}) TupleFault
cycle_checked number cycle None = Ok tt
cycle_checked number cycle (Some beat) = if nat_lt cycle beat.cycle then Err (CycleFalls number) else Ok tt

-- a stream has a row already
abbrev pub has_row : List (Option (List Word)) → ℕ → Bool
has_row rows k = is_some (unwrap_or (slice_get rows k) None)

-- a beat with what a record brings
abbrev pub beat_with : ℕ → Beat → Entry → Result Beat TupleFault
beat_with number beat End = Ok (record beat { end = true })
beat_with number beat Tick = if beat.tick then Err (TickTwice number) else Ok (record beat { tick = true })
beat_with number beat (Tuple k row) =
    if has_row beat.rows k then Err (StreamTwice number)
    else Ok (record beat { rows = slice_set beat.rows k (Some row) })

-- the beats that are whole before a cycle
abbrev pub whole_before : ℕ → List Beat → Option Beat → List Beat
whole_before cycle whole None = whole
whole_before cycle whole (Some beat) = if beat.cycle == cycle then whole else whole ++ beat ∷ []

-- beats that are whole before a cycle; the current one is among them where it has another cycle
abbrev pub grown_before : ℕ → Grown → Option Beat → Grown
grown_before cycle whole current =
    record { columns = whole.columns; beats = whole_before cycle whole.beats current }

-- the beat to which a record of a cycle belongs: the current one, or a new empty one
abbrev pub beat_of : ℕ → ℕ → ℕ → Option Beat → Beat
beat_of streams cycle number None = empty_beat streams cycle number
beat_of streams cycle number (Some beat) = if beat.cycle == cycle then beat else empty_beat streams cycle number

-- an entry of a cycle is added
abbrev pub added : ℕ → Filing → ℕ → ℕ → Entry → Result Filing TupleFault
added streams f number cycle entry = beat_with number (beat_of streams cycle number f.current) entry >>= λ beat.
    Ok (record { whole = grown_before cycle f.whole f.current; current = Some beat; records = number })

-- a record is added, or breaks a rule
unfoldable pub next_filing : Schema → Filing → List (List ℕ) → Result Filing TupleFault
next_filing schema f fields =
    text_checked (f.records + 1) fields >>= λ _. open_checked (f.records + 1) f.current >>= λ _. cycle_of
    (f.records + 1) fields
    >>= λ cycle. cycle_checked (f.records + 1) cycle f.current >>= λ _. entry_of (f.records + 1)
    schema fields >>= λ entry. added (length schema.streams) f (f.records + 1) cycle entry

-- records in order
abbrev pub filing_after : Schema → List (List (List ℕ)) → Filing → Result Filing TupleFault
filing_after schema [] f = Ok f
filing_after schema (r ∷ rs) f = next_filing schema f r >>= filing_after schema rs

-- before the first record with a cycle, behind so many others
abbrev pub behind : ℕ → Schema → Filing
behind count schema = record { whole = no_beats schema; current = None; records = count }

-- before the first record
abbrev pub no_records : Schema → Filing
no_records schema = behind 0 schema

-- the last beat has the end; without a record it is that of cycle 0
abbrev pub ended : ℕ → Filing → List Beat
ended streams f = f.whole.beats ++ record (unwrap_or f.current (empty_beat streams 0 0)) { end = true } ∷ []

-- the records of a text
unfoldable pub records_of : List ℕ → List (List (List ℕ))
records_of text = records default_config (strip_bom text)

-- the beats of records with a cycle, behind so many others, or the first rule that one of them breaks
unfoldable pub list_of : ℕ → Schema → List (List (List ℕ)) → Result (List Beat) TupleFault
list_of count schema rs = filing_after schema rs (behind count schema) >>= λ f. Ok (ended (length schema.streams) f)
