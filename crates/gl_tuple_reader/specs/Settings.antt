-- The records in front of a file, which set the parameters, and the file as a whole.
-- What the program promises of a tuple file rests on this text.
use Rattle.std.specs.Prelude.{◌≡◌, ℕ, ◌+◌, Bool, false, List, [], ◌∷◌, map, length, Option, Some, None, Result, Ok, Err, codes, bytes_eq, ◌==◌, option_map, slice_get, slice_set, position, replicate, is_some, unwrap_or, if◌then◌else◌}
use Rattle.std.specs.List.{list_all}
use Rattle.std.specs.Option.{option_map_or}
use Rattle.gl_schema.specs.declared.schema.Column.{Column}
use Rattle.gl_schema.specs.declared.schema.Schema.{Schema}
use Rattle.gl_tuples.specs.declared.fault.TupleFault.{TupleFault}
use Rattle.gl_tuples.specs.declared.fault.TupleFault.TheVariants.{FieldCount, BadValue, UnknownParameter, SetTwice, NotSet}
use Rattle.gl_tuples.specs.Flat.{BeatList}
use Rattle.gl_tuples.specs.Values.{word_of}
use Rattle.gl_tuple_reader.specs.declared.filing.Filing.{Filing}
use Rattle.gl_tuple_reader.specs.declared.setting.Setting.{Setting}
use Rattle.gl_tuple_reader.specs.declared.progress.Progress.{Progress}
use Rattle.gl_tuple_reader.specs.Entries.{◌>>=◌, text_checked, cycle_of, option_bind}
use Rattle.gl_tuple_reader.specs.Filing.{next_filing, no_records, ended}

-- a record's first field says that it sets a parameter
unfoldable pub says_set : List (List ℕ) → Bool
says_set fields = option_map_or (λ name. bytes_eq name (codes "set")) (slice_get fields 0) false

-- the parameter of a name, by its number
unfoldable pub parameter_named : Schema → List ℕ → Option ℕ
parameter_named schema name = position (λ p. bytes_eq p.name name) schema.parameters

-- the number of a record's third field in a parameter
abbrev pub value_at : List (List ℕ) → Column → Option ℕ
value_at fields p = option_map (λ w. w.bits) (option_bind (slice_get fields 2) (word_of p.kind))

-- the number of a record's third field in parameter k
abbrev pub value_in : Schema → ℕ → List (List ℕ) → Option ℕ
value_in schema k fields = option_bind (slice_get schema.parameters k) (value_at fields)

-- a setting of parameter k where its value is one
abbrev pub setting_found : ℕ → ℕ → Option ℕ → Result Setting TupleFault
setting_found number k None = Err (BadValue number)
setting_found number k (Some value) = Ok (record { parameter = k; value = value })

-- the setting of the parameter that was looked up; an unknown one breaks a rule
abbrev pub setting_at : ℕ → Schema → List (List ℕ) → Option ℕ → Result Setting TupleFault
setting_at number schema fields None = Err (UnknownParameter number)
setting_at number schema fields (Some k) = setting_found number k (value_in schema k fields)

-- the setting of the parameter that the second field names
abbrev pub setting_named : ℕ → Schema → List (List ℕ) → Option (List ℕ) → Result Setting TupleFault
setting_named number schema fields None = Err (FieldCount number)
setting_named number schema fields (Some name) = setting_at number schema fields (parameter_named schema name)

-- what a record of three fields sets, or the first rule that it breaks
unfoldable pub setting_of : ℕ → Schema → List (List ℕ) → Result Setting TupleFault
setting_of number schema fields =
    if length fields == 3 then setting_named number schema fields (slice_get fields 1) else Err (FieldCount number)

-- parameter k has a value already
abbrev pub has_value : List (Option ℕ) → ℕ → Bool
has_value sets k = is_some (unwrap_or (slice_get sets k) None)

-- the values with one more, of a parameter that has none
abbrev pub set_with : ℕ → List (Option ℕ) → Setting → Result (List (Option ℕ)) TupleFault
set_with number sets s =
    if has_value sets s.parameter then Err (SetTwice number) else Ok (slice_set sets s.parameter (Some s.value))

-- each parameter has a value
unfoldable pub all_set : List (Option ℕ) → Bool
all_set sets = list_all is_some sets

-- each parameter has a value, or a rule is broken
unfoldable pub sets_checked : ℕ → List (Option ℕ) → Result (Unit {0}) TupleFault
sets_checked number sets = if all_set sets then Ok tt else Err (NotSet number)

-- the values, 0 in place of one that is missing
abbrev pub values_in : List (Option ℕ) → List ℕ
values_in sets = map (λ s. unwrap_or s 0) sets

-- ---- the whole file

-- a record that sets a parameter is taken
abbrev pub set_added : Schema → Progress → List (List ℕ) → Result Progress TupleFault
set_added schema p fields =
    setting_of (p.filing.records + 1) schema fields >>= λ s. set_with (p.filing.records + 1) p.sets s >>= λ sets. Ok
    (record { sets = sets; filing = record p.filing { records = p.filing.records + 1 } })

-- the beats with a record's, the values as before
abbrev pub filed : Progress → Result Filing TupleFault → Result Progress TupleFault
filed p read = read >>= λ f. Ok (record { sets = p.sets; filing = f })

-- the first record with a cycle is taken where each parameter has a value
abbrev pub first_filed : Schema → Progress → List (List ℕ) → Result Progress TupleFault
first_filed schema p fields =
    cycle_of (p.filing.records + 1) fields >>= λ _. sets_checked (p.filing.records + 1) p.sets >>= λ _. filed p
    (next_filing schema p.filing fields)

-- a record is taken while none with a cycle came
abbrev pub front_added : Schema → Progress → List (List ℕ) → Result Progress TupleFault
front_added schema p fields =
    text_checked (p.filing.records + 1) fields >>= λ _. if says_set fields then set_added schema p fields
    else first_filed schema p fields

-- a record is taken, or breaks a rule
unfoldable pub next_progress : Schema → Progress → List (List ℕ) → Result Progress TupleFault
next_progress schema p fields =
    if is_some p.filing.current then filed p (next_filing schema p.filing fields) else front_added schema p fields

-- records in order
abbrev pub progress_after : Schema → List (List (List ℕ)) → Progress → Result Progress TupleFault
progress_after schema [] p = Ok p
progress_after schema (r ∷ rs) p = next_progress schema p r >>= progress_after schema rs

-- before the first record
abbrev pub no_progress : Schema → Progress
no_progress schema = record { sets = replicate (length schema.parameters) None; filing = no_records schema }

-- at the end of the file each parameter has a value
abbrev pub finished : Schema → Progress → Result BeatList TupleFault
finished schema p =
    sets_checked (p.filing.records + 1) p.sets >>= λ _. Ok
    (record { list = ended (length schema.streams) p.filing; sets = values_in p.sets })

-- the beats of records, with the values of the parameters, or the first rule that one of them breaks
unfoldable pub beats_of : Schema → List (List (List ℕ)) → Result BeatList TupleFault
beats_of schema rs = progress_after schema rs (no_progress schema) >>= finished schema

-- the first rule that is broken by records that have no beats
abbrev pub IsFirstFault : Schema → List (List (List ℕ)) → TupleFault → Type 0
IsFirstFault schema rs fault = beats_of schema rs ≡ Err fault
