-- The rows of records have the columns of their streams.
use Rattle.std.proofs.Common.{◌≡◌, ℕ, zero, suc, ◌+◌, ◌<◌, Bool, true, false, cond, List, [], ◌∷◌, map, length, drop, Option, Some, None, Ok, Err, refl, sym, ap, ◌∙◌, subst, inl, inr, arith}
use Rattle.std.specs.Prelude.{pos, IsFalse, option_map, slice_get, slice_set, replicate, unwrap_or, nat_le, ◌&&◌, ◌==◌, bytes_eq, codes}
use Rattle.std.proofs.lemmas.Bool.{cases_Bool}
use Rattle.std.proofs.lemmas.List.{length-map}
use Rattle.gl_values.specs.declared.kind.Kind.{Kind}
use Rattle.gl_values.specs.Kinds.{bytes_in, has_negative, in_range, is_number, negative_word, width_of}
use Rattle.gl_values.specs.Kinds as kinds
use Rattle.gl_bits.specs.Words.{Word, widths_of}
use Rattle.gl_schema.specs.declared.schema.Column.{Column}
use Rattle.gl_schema.specs.declared.schema.Stream.{Stream}
use Rattle.gl_schema.specs.declared.schema.Schema.{Schema}
use Rattle.gl_schema.specs.Schemas.{text_word}
use Rattle.gl_tuples.specs.declared.beats.Beat.{Beat}
use Rattle.gl_tuples.specs.declared.fault.TupleFault.TheVariants.{FieldCount, StreamTwice, TickTwice}
use Rattle.gl_tuples.specs.Growing.{Fit, columns_of, shape_of}
use Rattle.gl_tuples.specs.Values.{word_of, fitting, fitting_negative, has_minus, integer_word, is_plain, short_enough}
use Rattle.gl_tuples.specs.Values as values
use Rattle.gl_tuple_reader.specs.declared.entry.Entry.{Entry}
use Rattle.gl_tuple_reader.specs.declared.entry.Entry.TheVariants.{Tuple, Tick, End}
use Rattle.gl_tuple_reader.specs.declared.filing.Filing.{Filing}
use Rattle.gl_tuple_reader.specs.Entries.{words_of, row_of, columns_at, entry_of, entry_named, tuple_of, stream_named}
use Rattle.gl_tuple_reader.specs.Filing.{CurrentFit, IsEntry, beat_of, beat_with, empty_beat, filing_after, has_row, next_filing}
use Rattle.gl_tuple_reader.proofs.Filings.{Next, next_tells, bind_ok, ok_is, guard_ok}
use Rattle.gl_tuple_reader.proofs.Beatings.{bind_some, map_some, found_row, stream_below, test_some}

-- ---- a word has the width of its column

fitting_wide : (kind : Kind) (o : Option ℕ) (w : Word) → fitting kind o ≡ Some w → w.width ≡ width_of kind
fitting_wide kind None w h = absurd cc
fitting_wide kind (Some n) w h =
    let p = test_some (in_range kind (pos n)) (record { bits = kinds.word_of (width_of kind) (pos n); width = width_of kind }) w h in
    ap (λ (w : Word). w.width) (sym p.1)

negative_wide : (kind : Kind) (o : Option ℕ) (w : Word) → fitting_negative kind o ≡ Some w → w.width ≡ width_of kind
negative_wide kind None w h = absurd cc
negative_wide kind (Some n) w h =
    let p = test_some (has_negative kind n) (record { bits = negative_word kind n; width = width_of kind }) w h in
    ap (λ (w : Word). w.width) (sym p.1)

integer_wide : (kind : Kind) (field : List ℕ) (w : Word) → integer_word kind field ≡ Some w → w.width ≡ width_of kind
integer_wide kind field w h = elim (cases_Bool (has_minus field)) [
  | inl minus ↦ negative_wide kind (values.number_of (drop 1 field)) w (rw minus at h)
  | inr none ↦ fitting_wide kind (values.number_of field) w (rw none at h)
]

short_wide : (kind : Kind) (field : List ℕ) (w : Word) → short_enough kind field ≡ Some w → w.width ≡ width_of kind
short_wide kind field w h =
    let p = test_some (nat_le (length field) (bytes_in kind) && is_plain field) (record { bits = text_word (bytes_in kind) field; width = width_of kind }) w h in
    ap (λ (w : Word). w.width) (sym p.1)

pub word_wide : (kind : Kind) (field : List ℕ) (w : Word) → word_of kind field ≡ Some w → w.width ≡ width_of kind
unfolding word_of
word_wide kind field w h = elim (cases_Bool (is_number kind)) [
  | inl t ↦ integer_wide kind field w (rw t at h)
  | inr f ↦ short_wide kind field w (rw f at h)
]

-- ---- a row has the columns of its stream

-- the row of an entry has them
abbrev EntryFit : List (List ℕ) → Entry → Type 0
EntryFit columns (Tuple k row) = slice_get columns k ≡ Some (widths_of row)
EntryFit columns Tick = Unit {0}
EntryFit columns End = Unit {0}

row_wide : (cs : List Column) (fs : List (List ℕ)) (row : List Word) → words_of cs fs ≡ Some row → widths_of row ≡ map (λ c. width_of c.kind) cs
row_wide [] fs row h = subst (λ (r : List Word). widths_of r ≡ []) (let same : [] ≡ row = cc in same) refl
row_wide (c ∷ cs) [] row h = absurd cc
row_wide (c ∷ cs) (f ∷ fs) row h =
    let a = bind_some (word_of c.kind f) (λ w. option_map (λ ws. w ∷ ws) (words_of cs fs)) row h in
    let b = map_some (words_of cs fs) (λ ws. a.0 ∷ ws) row a.2 in
    let one = word_wide c.kind f a.0 a.1 in
    let others = row_wide cs fs b.0 b.1 in
    ap widths_of (sym b.2) ∙ ap (λ (x : ℕ). x ∷ widths_of b.0) one ∙ ap (λ (xs : List ℕ). width_of c.kind ∷ xs) others

row_of_wide : (number : ℕ) (cs : List Column) (fs : List (List ℕ)) (row : List Word) → row_of number cs fs ≡ Ok row → widths_of row ≡ map (λ c. width_of c.kind) cs
unfolding row_of
row_of_wide number cs fs row h = elim (cases_Bool (length fs == 2 + length cs)) [
  | inl t ↦ row_wide cs (drop 2 fs) row (found_row number (words_of cs (drop 2 fs)) row (rw t at h))
  | inr f ↦ absurd (cc (rw f at h))
]

shape_at : (ss : List Stream) (k : ℕ) → k < length ss → slice_get (map columns_of ss) k ≡ Some (map (λ c. width_of c.kind) (columns_at ss k))
shape_at [] k lt = absurd (omega arith)
shape_at (s ∷ ss) zero lt = refl
shape_at (s ∷ ss) (suc k) lt = shape_at ss k (omega arith)

tuple_wide : (number : ℕ) (schema : Schema) (fs : List (List ℕ)) (name : List ℕ) (o : Option ℕ) (entry : Entry) → stream_named schema name ≡ o → tuple_of number schema fs o ≡ Ok entry → EntryFit (shape_of schema) entry
tuple_wide number schema fs name None entry e h = absurd cc
tuple_wide number schema fs name (Some k) entry e h =
    let a = bind_ok (row_of number (columns_at schema.streams k) fs) (λ row. Ok (Tuple k row)) entry h in
    let wide = row_of_wide number (columns_at schema.streams k) fs a.0 a.1 in
    subst (EntryFit (shape_of schema)) (ok_is (Tuple k a.0) entry a.2) (shape_at schema.streams k (stream_below schema name k e) ∙ ap Some (sym wide))

alone_wide : (number : ℕ) (schema : Schema) (given entry : Entry) (b : Bool) → EntryFit (shape_of schema) given → cond b (Ok given) (Err (FieldCount number)) ≡ Ok entry → EntryFit (shape_of schema) entry
alone_wide number schema given entry true fits h = subst (EntryFit (shape_of schema)) (ok_is given entry h) fits
alone_wide number schema given entry false fits h = absurd cc

unended_wide : (number : ℕ) (schema : Schema) (fs : List (List ℕ)) (name : List ℕ) (entry : Entry) → IsFalse (bytes_eq name (codes "end")) → entry_named number schema fs (Some name) ≡ Ok entry → EntryFit (shape_of schema) entry
unended_wide number schema fs name entry f h = elim (cases_Bool (bytes_eq name (codes "tick"))) [
  | inl t ↦ alone_wide number schema Tick entry (length fs == 2) tt (rw (f, t) at h)
  | inr g ↦ tuple_wide number schema fs name (stream_named schema name) entry refl (rw (f, g) at h)
]

named_wide : (number : ℕ) (schema : Schema) (fs : List (List ℕ)) (o : Option (List ℕ)) (entry : Entry) → entry_named number schema fs o ≡ Ok entry → EntryFit (shape_of schema) entry
named_wide number schema fs None entry h = absurd cc
named_wide number schema fs (Some name) entry h = elim (cases_Bool (bytes_eq name (codes "end"))) [
  | inl t ↦ alone_wide number schema End entry (length fs == 2) tt (rw t at h)
  | inr f ↦ unended_wide number schema fs name entry f h
]

pub entry_wide : (number : ℕ) (schema : Schema) (fs : List (List ℕ)) (entry : Entry) → entry_of number schema fs ≡ Ok entry → EntryFit (shape_of schema) entry
unfolding entry_of
entry_wide number schema fs entry h = named_wide number schema fs (slice_get fs 1) entry h

-- ---- the beats so far have rows of the columns

fit_long : (columns : List (List ℕ)) (rows : List (Option (List Word))) → Fit columns rows → length rows ≡ length columns
fit_long [] [] h = refl
fit_long [] (r ∷ rs) h = absurd h
fit_long (s ∷ ss) [] h = absurd h
fit_long (s ∷ ss) (r ∷ rs) h = ap suc (fit_long ss rs h.1)

none_fit : (columns : List (List ℕ)) → Fit columns (replicate (length columns) None)
none_fit [] = tt
none_fit (s ∷ ss) = (tt, none_fit ss)

set_fit : (columns : List (List ℕ)) (rows : List (Option (List Word))) (k : ℕ) (row : List Word) → Fit columns rows → slice_get columns k ≡ Some (widths_of row) → Fit columns (slice_set rows k (Some row))
set_fit [] [] k row h e = h
set_fit [] (r ∷ rs) k row h e = absurd h
set_fit (s ∷ ss) [] k row h e = absurd h
set_fit (s ∷ ss) (r ∷ rs) zero row h e = (let same : s ≡ widths_of row = cc in sym same, h.1)
set_fit (s ∷ ss) (r ∷ rs) (suc k) row h e = (h.0, set_fit ss rs k row h.1 e)

-- an empty beat, for as many streams as there are
pub empty_fit : (columns : List (List ℕ)) (streams cycle number : ℕ) → streams ≡ length columns → Fit columns (empty_beat streams cycle number).rows
empty_fit columns streams cycle number e = subst (λ (n : ℕ). Fit columns (replicate n None)) (sym e) (none_fit columns)

beat_if : (columns : List (List ℕ)) (streams cycle number : ℕ) (beat : Beat) (b : Bool) → streams ≡ length columns → Fit columns beat.rows → Fit columns (cond b beat (empty_beat streams cycle number)).rows
beat_if columns streams cycle number beat true e h = h
beat_if columns streams cycle number beat false e h = empty_fit columns streams cycle number e

pub beat_fit : (columns : List (List ℕ)) (streams cycle number : ℕ) (current : Option Beat) → streams ≡ length columns → CurrentFit columns current → Fit columns (beat_of streams cycle number current).rows
beat_fit columns streams cycle number None e h = empty_fit columns streams cycle number e
beat_fit columns streams cycle number (Some beat) e h = beat_if columns streams cycle number beat (beat.cycle == cycle) e h

pub last_fit : (columns : List (List ℕ)) (streams : ℕ) (current : Option Beat) → streams ≡ length columns → CurrentFit columns current → Fit columns (unwrap_or current (empty_beat streams 0 0)).rows
last_fit columns streams None e h = empty_fit columns streams 0 0 e
last_fit columns streams (Some beat) e h = h

full_fit : (columns : List (List ℕ)) (number : ℕ) (beat : Beat) (entry : Entry) (full : Beat) → Fit columns beat.rows → EntryFit columns entry → beat_with number beat entry ≡ Ok full → Fit columns full.rows
full_fit columns number beat End full h fits e = subst (λ (b : Beat). Fit columns b.rows) (ok_is _ full e) h
full_fit columns number beat Tick full h fits e =
    let p = guard_ok beat.tick (TickTwice number) _ full e in
    subst (λ (b : Beat). Fit columns b.rows) p.1 h
full_fit columns number beat (Tuple k row) full h fits e =
    let p = guard_ok (has_row beat.rows k) (StreamTwice number) _ full e in
    subst (λ (b : Beat). Fit columns b.rows) p.1 (set_fit columns beat.rows k row h fits)

-- as many streams as the schema has
pub shape_long : (schema : Schema) → length schema.streams ≡ length (shape_of schema)
shape_long schema = sym (length-map schema.streams columns_of)

pub next_fit : (schema : Schema) (f : Filing) (fields : List (List ℕ)) (g : Filing) → CurrentFit (shape_of schema) f.current → Next schema f fields g → CurrentFit (shape_of schema) g.current
next_fit schema f fields g h n = subst (λ (g : Filing). CurrentFit (shape_of schema) g.current) n.is
    (full_fit (shape_of schema) (f.records + 1) (beat_of (length schema.streams) n.cycle (f.records + 1) f.current) n.entry n.beat
    (beat_fit (shape_of schema) (length schema.streams) n.cycle (f.records + 1) f.current (shape_long schema) h)
    (entry_wide (f.records + 1) schema fields n.entry n.entered) n.filled)

-- after records the rows of the current beat have their columns, and the columns are the schema's
pub filing_fit : (schema : Schema) (rs : List (List (List ℕ))) (f g : Filing) → CurrentFit (shape_of schema) f.current → filing_after schema rs f ≡ Ok g → CurrentFit (shape_of schema) g.current
filing_fit schema [] f g h e = subst (λ (g : Filing). CurrentFit (shape_of schema) g.current) (ok_is f g e) h
filing_fit schema (r ∷ rs) f g h e = let b = bind_ok (next_filing schema f r) (filing_after schema rs) g e in
    filing_fit schema rs b.0 g (next_fit schema f r b.0 h (next_tells schema f r b.0 b.1)) b.2

pub filing_columns : (schema : Schema) (rs : List (List (List ℕ))) (f g : Filing) → filing_after schema rs f ≡ Ok g → g.whole.columns ≡ f.whole.columns
filing_columns schema [] f g e = ap (λ (g : Filing). g.whole.columns) (sym (ok_is f g e))
filing_columns schema (r ∷ rs) f g e = let b = bind_ok (next_filing schema f r) (filing_after schema rs) g e in
    filing_columns schema rs b.0 g b.2 ∙ ap (λ (g : Filing). g.whole.columns) (sym (next_tells schema f r b.0 b.1).is)

-- an entry's stream is among those of the beat that it is added to
pub entry_there : (columns : List (List ℕ)) (streams cycle number : ℕ) (current : Option Beat) (entry : Entry) (beat : Beat) → streams ≡ length columns → CurrentFit columns current → IsEntry streams entry
    → beat_of streams cycle number current ≡ beat → IsEntry (length beat.rows) entry
entry_there columns streams cycle number current entry beat e h is same =
    let long : length beat.rows ≡ streams = fit_long columns beat.rows (subst (λ (b : Beat). Fit columns b.rows) same (beat_fit columns streams cycle number current e h)) ∙ sym e in
    subst (λ (n : ℕ). IsEntry n entry) (sym long) is
