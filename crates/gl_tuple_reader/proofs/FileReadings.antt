-- Each file has one reading: beats, or a first fault of its own.
use Rattle.std.proofs.Common.{◌≡◌, ◌↔◌, ◌⊎◌, inl, inr, ℕ, ◌+◌, Bool, true, false, cond, List, [], ◌∷◌, length, drop, Option, Some, None, Result, Ok, Err, refl, sym, ◌∙◌, subst}
use Rattle.std.specs.Prelude.{slice_get, nat_lt, ◌==◌, bytes_eq, codes, not, is_some}
use Rattle.gl_bits.specs.Words.{Word}
use Rattle.gl_schema.specs.declared.schema.Column.{Column}
use Rattle.gl_schema.specs.declared.schema.Schema.{Schema}
use Rattle.gl_tuples.specs.Flat.{BeatList}
use Rattle.gl_tuples.specs.declared.beats.Beat.{Beat}
use Rattle.gl_tuple_reader.specs.declared.entry.Entry.{Entry}
use Rattle.gl_tuple_reader.specs.declared.entry.Entry.TheVariants.{Tuple, Tick, End}
use Rattle.gl_tuple_reader.specs.declared.filing.Filing.{Filing}
use Rattle.gl_tuple_reader.specs.declared.progress.Progress.{Progress}
use Rattle.gl_tuple_reader.specs.declared.setting.Setting.{Setting}
use Rattle.gl_tuples.specs.declared.fault.TupleFault.{TupleFault}
use Rattle.gl_tuples.specs.declared.fault.TupleFault.TheVariants.{NotUtf8, BadCycle, CycleFalls, CycleTooLarge, UnknownStream, FieldCount, BadValue, StreamTwice, TickTwice, AfterEnd, TooClose, UnknownParameter, SetTwice, NotSet, Memory}
use Rattle.gl_tuples.specs.Values.{number_of}
use Rattle.gl_tuple_reader.specs.Entries.{◌>>=◌, are_utf8, text_checked, words_of, row_of, row_found, columns_at, entry_of, entry_named, tuple_of, stream_named, cycle_of, cycle_below, option_bind}
use Rattle.gl_tuple_reader.specs.Filing.{next_filing, beat_with, beat_of, has_row, open_checked, cycle_checked}
use Rattle.gl_tuple_reader.specs.Settings.{says_set, parameter_named, value_in, setting_found, setting_at, setting_named, setting_of, has_value, set_with, all_set, sets_checked, filed, set_added, first_filed, front_added, next_progress, progress_after, no_progress, finished, beats_of, IsFirstFault}
use Rattle.gl_tuple_reader.specs.FileBeats.{AreBeatsOf}
use Rattle.gl_tuple_reader.proofs.WholeFiles.{beats_are, beats_again}

-- ---- beats or a fault

same_ok : (a b : BeatList) → ◌≡◌ {A = Result BeatList TupleFault} (Ok a) (Ok b) → a ≡ b
same_ok a b e = cc

pub one_beats : (schema : Schema) (rs : List (List (List ℕ))) (a b : BeatList) → AreBeatsOf schema rs a → AreBeatsOf schema rs b → a ≡ b
one_beats schema rs a b x y = same_ok a b (sym (beats_again schema rs a x) ∙ beats_again schema rs b y)

pub beats_are_read : (schema : Schema) (rs : List (List (List ℕ))) (beats : BeatList) → (beats_of schema rs ≡ Ok beats) ↔ AreBeatsOf schema rs beats
beats_are_read schema rs beats = (beats_are schema rs beats, beats_again schema rs beats)

either_in : (schema : Schema) (rs : List (List (List ℕ))) (r : Result BeatList TupleFault) → beats_of schema rs ≡ r → ((beats : BeatList) × AreBeatsOf schema rs beats) ⊎ ((e : TupleFault) × IsFirstFault schema rs e)
either_in schema rs (Ok beats) h = inl (beats, beats_are schema rs beats h)
either_in schema rs (Err e) h = inr (e, h)

pub beats_or_fault : (schema : Schema) (rs : List (List (List ℕ))) → ((beats : BeatList) × AreBeatsOf schema rs beats) ⊎ ((e : TupleFault) × IsFirstFault schema rs e)
beats_or_fault schema rs = either_in schema rs (beats_of schema rs) refl

pub not_both : (schema : Schema) (rs : List (List (List ℕ))) (beats : BeatList) (e : TupleFault) → AreBeatsOf schema rs beats → IsFirstFault schema rs e → ⊥
not_both schema rs beats e are fault = let z : ◌≡◌ {A = Result BeatList TupleFault} (Ok beats) (Err e) = sym (beats_again schema rs beats are) ∙ fault in absurd cc

-- ---- a fault of the records is neither want of memory nor a gap

abbrev IsOfFile : {A : Type 0} → Result A TupleFault → Type 0
IsOfFile (Ok x) = Unit {0}
IsOfFile (Err Memory) = ⊥
IsOfFile (Err (TooClose n)) = ⊥
IsOfFile (Err (NotUtf8 n)) = Unit {0}
IsOfFile (Err (BadCycle n)) = Unit {0}
IsOfFile (Err (CycleFalls n)) = Unit {0}
IsOfFile (Err (CycleTooLarge n)) = Unit {0}
IsOfFile (Err (UnknownStream n)) = Unit {0}
IsOfFile (Err (FieldCount n)) = Unit {0}
IsOfFile (Err (BadValue n)) = Unit {0}
IsOfFile (Err (StreamTwice n)) = Unit {0}
IsOfFile (Err (TickTwice n)) = Unit {0}
IsOfFile (Err (AfterEnd n)) = Unit {0}
IsOfFile (Err (UnknownParameter n)) = Unit {0}
IsOfFile (Err (SetTwice n)) = Unit {0}
IsOfFile (Err (NotSet n)) = Unit {0}

file_if : {A : Type 0} (b : Bool) (x y : Result A TupleFault) → IsOfFile x → IsOfFile y → IsOfFile (cond b x y)
file_if true x y h k = h
file_if false x y h k = k

file_then : {A B : Type 0} (x : Result A TupleFault) (f : A → Result B TupleFault) → IsOfFile x → ((y : A) → IsOfFile (f y)) → IsOfFile (x >>= f)
file_then (Ok x) f h k = k x
file_then (Err Memory) f h k = absurd h
file_then (Err (TooClose n)) f h k = absurd h
file_then (Err (NotUtf8 n)) f h k = tt
file_then (Err (BadCycle n)) f h k = tt
file_then (Err (CycleFalls n)) f h k = tt
file_then (Err (CycleTooLarge n)) f h k = tt
file_then (Err (UnknownStream n)) f h k = tt
file_then (Err (FieldCount n)) f h k = tt
file_then (Err (BadValue n)) f h k = tt
file_then (Err (StreamTwice n)) f h k = tt
file_then (Err (TickTwice n)) f h k = tt
file_then (Err (AfterEnd n)) f h k = tt
file_then (Err (UnknownParameter n)) f h k = tt
file_then (Err (SetTwice n)) f h k = tt
file_then (Err (NotSet n)) f h k = tt

text_of_file : (number : ℕ) (r : List (List ℕ)) → IsOfFile (text_checked number r)
unfolding text_checked
text_of_file number r = file_if (are_utf8 r) _ _ tt tt

open_of_file : (number : ℕ) (current : Option Beat) → IsOfFile (open_checked number current)
open_of_file number None = tt
open_of_file number (Some b) = file_if b.end _ _ tt tt

below_of_file : (number : ℕ) (o : Option ℕ) → IsOfFile (cycle_below number o)
below_of_file number None = tt
below_of_file number (Some c) = file_if (nat_lt 10000000 c) _ _ tt tt

cycle_of_file : (number : ℕ) (r : List (List ℕ)) → IsOfFile (cycle_of number r)
unfolding cycle_of
cycle_of_file number r = below_of_file number (option_bind (slice_get r 0) number_of)

rises_of_file : (number cycle : ℕ) (current : Option Beat) → IsOfFile (cycle_checked number cycle current)
rises_of_file number cycle None = tt
rises_of_file number cycle (Some b) = file_if (nat_lt cycle b.cycle) _ _ tt tt

found_of_file : (number : ℕ) (o : Option (List Word)) → IsOfFile (row_found number o)
found_of_file number None = tt
found_of_file number (Some row) = tt

row_of_file : (number : ℕ) (cs : List Column) (r : List (List ℕ)) → IsOfFile (row_of number cs r)
unfolding row_of
row_of_file number cs r = file_if (not (length r == 2 + length cs)) _ _ tt (found_of_file number (words_of cs (drop 2 r)))

tuple_of_file : (number : ℕ) (schema : Schema) (r : List (List ℕ)) (o : Option ℕ) → IsOfFile (tuple_of number schema r o)
tuple_of_file number schema r None = tt
tuple_of_file number schema r (Some k) = file_then (row_of number (columns_at schema.streams k) r) _ (row_of_file number (columns_at schema.streams k) r) (λ row. tt)

named_of_file : (number : ℕ) (schema : Schema) (r : List (List ℕ)) (o : Option (List ℕ)) → IsOfFile (entry_named number schema r o)
named_of_file number schema r None = tt
named_of_file number schema r (Some name) = file_if (bytes_eq name (codes "end")) _ _ (file_if (length r == 2) _ _ tt tt)
    (file_if (bytes_eq name (codes "tick")) _ _ (file_if (length r == 2) _ _ tt tt) (tuple_of_file number schema r (stream_named schema name)))

entry_of_file : (number : ℕ) (schema : Schema) (r : List (List ℕ)) → IsOfFile (entry_of number schema r)
unfolding entry_of
entry_of_file number schema r = named_of_file number schema r (slice_get r 1)

beat_of_file : (number : ℕ) (b : Beat) (entry : Entry) → IsOfFile (beat_with number b entry)
beat_of_file number b End = tt
beat_of_file number b Tick = file_if b.tick _ _ tt tt
beat_of_file number b (Tuple k row) = file_if (has_row b.rows k) _ _ tt tt

next_of_file : (schema : Schema) (f : Filing) (r : List (List ℕ)) → IsOfFile (next_filing schema f r)
unfolding next_filing
next_of_file schema f r =
    file_then (text_checked (f.records + 1) r) _ (text_of_file (f.records + 1) r)
    (λ _. file_then (open_checked (f.records + 1) f.current) _ (open_of_file (f.records + 1) f.current)
    (λ _. file_then (cycle_of (f.records + 1) r) _ (cycle_of_file (f.records + 1) r)
    (λ cycle. file_then (cycle_checked (f.records + 1) cycle f.current) _ (rises_of_file (f.records + 1) cycle f.current)
    (λ _. file_then (entry_of (f.records + 1) schema r) _ (entry_of_file (f.records + 1) schema r)
    (λ entry. file_then (beat_with (f.records + 1) (beat_of (length schema.streams) cycle (f.records + 1) f.current) entry) _ (beat_of_file (f.records + 1) (beat_of (length schema.streams) cycle (f.records + 1) f.current) entry)
    (λ beat. tt))))))

found_setting : (number k : ℕ) (o : Option ℕ) → IsOfFile (setting_found number k o)
found_setting number k None = tt
found_setting number k (Some value) = tt

setting_at_file : (number : ℕ) (schema : Schema) (r : List (List ℕ)) (o : Option ℕ) → IsOfFile (setting_at number schema r o)
setting_at_file number schema r None = tt
setting_at_file number schema r (Some k) = found_setting number k (value_in schema k r)

setting_named_file : (number : ℕ) (schema : Schema) (r : List (List ℕ)) (o : Option (List ℕ)) → IsOfFile (setting_named number schema r o)
setting_named_file number schema r None = tt
setting_named_file number schema r (Some name) = setting_at_file number schema r (parameter_named schema name)

setting_of_file : (number : ℕ) (schema : Schema) (r : List (List ℕ)) → IsOfFile (setting_of number schema r)
unfolding setting_of
setting_of_file number schema r = file_if (length r == 3) _ _ (setting_named_file number schema r (slice_get r 1)) tt

set_of_file : (number : ℕ) (sets : List (Option ℕ)) (s : Setting) → IsOfFile (set_with number sets s)
set_of_file number sets s = file_if (has_value sets s.parameter) _ _ tt tt

checked_of_file : (number : ℕ) (sets : List (Option ℕ)) → IsOfFile (sets_checked number sets)
unfolding sets_checked
checked_of_file number sets = file_if (all_set sets) _ _ tt tt

filed_of_file : (schema : Schema) (p : Progress) (r : List (List ℕ)) → IsOfFile (filed p (next_filing schema p.filing r))
filed_of_file schema p r = file_then (next_filing schema p.filing r) _ (next_of_file schema p.filing r) (λ f. tt)

added_of_file : (schema : Schema) (p : Progress) (r : List (List ℕ)) → IsOfFile (set_added schema p r)
added_of_file schema p r =
    file_then (setting_of (p.filing.records + 1) schema r) _ (setting_of_file (p.filing.records + 1) schema r)
    (λ s. file_then (set_with (p.filing.records + 1) p.sets s) _ (set_of_file (p.filing.records + 1) p.sets s) (λ sets. tt))

first_of_file : (schema : Schema) (p : Progress) (r : List (List ℕ)) → IsOfFile (first_filed schema p r)
first_of_file schema p r =
    file_then (cycle_of (p.filing.records + 1) r) _ (cycle_of_file (p.filing.records + 1) r)
    (λ _. file_then (sets_checked (p.filing.records + 1) p.sets) _ (checked_of_file (p.filing.records + 1) p.sets) (λ _. filed_of_file schema p r))

front_of_file : (schema : Schema) (p : Progress) (r : List (List ℕ)) → IsOfFile (front_added schema p r)
front_of_file schema p r =
    file_then (text_checked (p.filing.records + 1) r) _ (text_of_file (p.filing.records + 1) r)
    (λ _. file_if (says_set r) _ _ (added_of_file schema p r) (first_of_file schema p r))

progress_of_file : (schema : Schema) (p : Progress) (r : List (List ℕ)) → IsOfFile (next_progress schema p r)
unfolding next_progress
progress_of_file schema p r = file_if (is_some p.filing.current) _ _ (filed_of_file schema p r) (front_of_file schema p r)

all_of_file : (schema : Schema) (rs : List (List (List ℕ))) (p : Progress) → IsOfFile (progress_after schema rs p)
all_of_file schema [] p = tt
all_of_file schema (r ∷ rs) p = file_then (next_progress schema p r) _ (progress_of_file schema p r) (all_of_file schema rs)

end_of_file : (schema : Schema) (p : Progress) → IsOfFile (finished schema p)
end_of_file schema p = file_then (sets_checked (p.filing.records + 1) p.sets) _ (checked_of_file (p.filing.records + 1) p.sets) (λ _. tt)

beats_of_file : (schema : Schema) (rs : List (List (List ℕ))) → IsOfFile (beats_of schema rs)
unfolding beats_of
beats_of_file schema rs = file_then (progress_after schema rs (no_progress schema)) (finished schema) (all_of_file schema rs (no_progress schema)) (end_of_file schema)

pub no_memory : (schema : Schema) (rs : List (List (List ℕ))) → IsFirstFault schema rs Memory → ⊥
no_memory schema rs h = subst IsOfFile h (beats_of_file schema rs)

pub no_gap : (schema : Schema) (rs : List (List (List ℕ))) (number : ℕ) → IsFirstFault schema rs (TooClose number) → ⊥
no_gap schema rs number h = subst IsOfFile h (beats_of_file schema rs)
