-- What a record of a tuple file says: its cycle, and a row of a stream, a tick or the end. The first broken rule comes in
-- this order.
use Rattle.std.specs.Prelude.{◌≡◌, ℕ, zero, suc, ◌+◌, Bool, not, List, [], ◌∷◌, length, drop, Option, Some, None, Result, Ok, Err, codes, bytes_eq, nat_lt, ◌==◌, slice_get, position, option_map, if◌then◌else◌}
use Rattle.std.specs.List.{list_all}
use Rattle.gl_bits.specs.Limits.{latest_cycle}
use Rattle.gl_bits.specs.Words.{Word}
use Rattle.gl_schema.specs.declared.schema.Column.{Column}
use Rattle.gl_schema.specs.declared.schema.Stream.{Stream}
use Rattle.gl_schema.specs.declared.schema.Schema.{Schema}
use Rattle.gl_tuples.specs.declared.fault.TupleFault.{TupleFault}
use Rattle.gl_tuples.specs.declared.fault.TupleFault.TheVariants.{NotUtf8, BadCycle, CycleFalls, CycleTooLarge, UnknownStream, FieldCount, BadValue, StreamTwice, TickTwice, AfterEnd, TooClose, UnknownParameter, SetTwice, NotSet, Memory}
use Rattle.gl_tuple_reader.specs.declared.entry.Entry.{Entry}
use Rattle.gl_tuple_reader.specs.declared.entry.Entry.TheVariants.{Tuple, Tick, End}
use Rattle.gl_tuples.specs.Values.{is_utf8, number_of, word_of}

-- a step that may break a rule, and what follows it
infixl 10 ◌>>=◌
abbrev pub ◌>>=◌ : {A B : Type 0} → Result A TupleFault → (A → Result B TupleFault) → Result B TupleFault
(Ok x) >>= f = f x
(Err e) >>= f = Err e

-- what a call answers is what reading gives, unless memory ran out
abbrev pub Fails : {A : Type 0} → TupleFault → Result A TupleFault → Type 0
Fails Memory read = Unit {0}
Fails (NotUtf8 n) read = read ≡ Err (NotUtf8 n)
Fails (BadCycle n) read = read ≡ Err (BadCycle n)
Fails (CycleFalls n) read = read ≡ Err (CycleFalls n)
Fails (CycleTooLarge n) read = read ≡ Err (CycleTooLarge n)
Fails (UnknownStream n) read = read ≡ Err (UnknownStream n)
Fails (FieldCount n) read = read ≡ Err (FieldCount n)
Fails (BadValue n) read = read ≡ Err (BadValue n)
Fails (StreamTwice n) read = read ≡ Err (StreamTwice n)
Fails (TickTwice n) read = read ≡ Err (TickTwice n)
Fails (AfterEnd n) read = read ≡ Err (AfterEnd n)
Fails (TooClose n) read = read ≡ Err (TooClose n)
Fails (UnknownParameter n) read = read ≡ Err (UnknownParameter n)
Fails (SetTwice n) read = read ≡ Err (SetTwice n)
Fails (NotSet n) read = read ≡ Err (NotSet n)

-- what code answers is what the fields say; want of memory may come with any record
abbrev pub Gives : {A : Type 0} → Result A TupleFault → Result A TupleFault → Type 0
Gives (Ok x) read = read ≡ Ok x
Gives (Err e) read = Fails e read

-- each field is UTF-8
unfoldable pub are_utf8 : List (List ℕ) → Bool
are_utf8 fields = list_all is_utf8 fields

-- a record of which some field is not UTF-8 breaks the first rule
unfoldable pub text_checked : ℕ → List (List ℕ) → Result (Unit {0}) TupleFault
text_checked number fields = if are_utf8 fields then Ok tt else Err (NotUtf8 number)

-- the cycle of a record, which its first field spells: at most `latest_cycle`
abbrev pub cycle_below : ℕ → Option ℕ → Result ℕ TupleFault
cycle_below number None = Err (BadCycle number)
cycle_below number (Some cycle) = if nat_lt latest_cycle cycle then Err (CycleTooLarge number) else Ok cycle

-- what a function makes of a value that is there; nothing where it is not
abbrev pub option_bind : {A B : Type 0} → Option A → (A → Option B) → Option B
option_bind None f = None
option_bind (Some x) f = f x

-- the cycle that a record's first field spells, or the rule that it breaks
unfoldable pub cycle_of : ℕ → List (List ℕ) → Result ℕ TupleFault
cycle_of number fields = cycle_below number (option_bind (slice_get fields 0) number_of)

-- the words of fields, one for each column
abbrev pub words_of : List Column → List (List ℕ) → Option (List Word)
words_of [] fields = Some []
words_of (c ∷ cs) [] = None
words_of (c ∷ cs) (f ∷ fs) = option_bind (word_of c.kind f) (λ w. option_map (λ ws. w ∷ ws) (words_of cs fs))

-- a row where all values are
abbrev pub row_found : ℕ → Option (List Word) → Result (List Word) TupleFault
row_found number None = Err (BadValue number)
row_found number (Some row) = Ok row

-- the row of the fields behind the stream's name, as many as its columns
unfoldable pub row_of : ℕ → List Column → List (List ℕ) → Result (List Word) TupleFault
row_of number columns fields =
    if not (length fields == 2 + length columns) then Err (FieldCount number)
    else row_found number (words_of columns (drop 2 fields))

-- the stream of a name
unfoldable pub stream_named : Schema → List ℕ → Option ℕ
stream_named schema name = position (λ s. bytes_eq s.name name) schema.streams

-- the columns of a stream, by its number
abbrev pub columns_at : List Stream → ℕ → List Column
columns_at [] k = []
columns_at (s ∷ ss) zero = s.columns
columns_at (s ∷ ss) (suc k) = columns_at ss k

-- a row of the stream that was looked up; an unknown stream breaks a rule
abbrev pub tuple_of : ℕ → Schema → List (List ℕ) → Option ℕ → Result Entry TupleFault
tuple_of number schema fields None = Err (UnknownStream number)
tuple_of number schema fields (Some k) = row_of number (columns_at schema.streams k) fields >>= λ row. Ok (Tuple k row)

-- an entry behind which nothing may stand
abbrev pub alone : ℕ → List (List ℕ) → Entry → Result Entry TupleFault
alone number fields entry = if length fields == 2 then Ok entry else Err (FieldCount number)

-- what a record brings behind its cycle: the end, a tick, or a row of the stream that is named
abbrev pub entry_named : ℕ → Schema → List (List ℕ) → Option (List ℕ) → Result Entry TupleFault
entry_named number schema fields None = Err (FieldCount number)
entry_named number schema fields (Some name) =
    if bytes_eq name (codes "end") then alone number fields End
    else if bytes_eq name (codes "tick") then alone number fields Tick
    else tuple_of number schema fields (stream_named schema name)

-- what the second field names and the others hold, or the first rule that they break
unfoldable pub entry_of : ℕ → Schema → List (List ℕ) → Result Entry TupleFault
entry_of number schema fields = entry_named number schema fields (slice_get fields 1)
