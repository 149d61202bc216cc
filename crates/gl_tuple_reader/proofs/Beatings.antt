-- What records add up to are beats of the schema.
use Rattle.std.proofs.Common.{◌≡◌, ℕ, zero, suc, ◌+◌, ◌-◌, ◌*◌, ◌^◌, ◌<◌, ◌≤◌, Bool, true, false, cond, ◌&&◌, List, [], ◌∷◌, ◌++◌, length, drop, Option, Some, None, Result, Ok, Err, refl, sym, ap, subst, arith, inl, inr}
use Rattle.std.specs.Prelude.{pos, neg_ℤ, map, option_map, slice_get, slice_set, replicate, is_some, IsTrue, IsFalse, nat_lt, nat_le, ◌==◌, bytes_eq, codes, unwrap_or}
use Rattle.std.specs.List.{AllByRecursion, list_any, list_all}
use Rattle.std.proofs.lemmas.Bool.{cases_Bool, ltb-false, leb-true, and_parts, or_right, eqb-false, false≢true}
use Rattle.std.proofs.lemmas.List.Quantifiers.{position-Some}
use Rattle.gl_bits.proofs.Options.{some_same}
use Rattle.gl_values.specs.declared.kind.Kind.{Kind}
use Rattle.gl_values.specs.declared.kind.Kind.TheVariants.{Unsigned, Signed, Text}
use Rattle.gl_values.specs.Kinds.{bytes_in, has_negative, in_range, negative_word, width_of}
use Rattle.gl_values.specs.Kinds as kinds
use Rattle.gl_values.proofs.KindLemmas.{text_width}
use Rattle.gl_values.proofs.Signs.{word_fits}
use Rattle.gl_bits.specs.Words.{Word, bits_of}
use Rattle.gl_schema.specs.declared.schema.Column.{Column}
use Rattle.gl_schema.specs.declared.schema.Stream.{Stream}
use Rattle.gl_schema.specs.declared.schema.Schema.{Schema}
use Rattle.gl_schema.specs.Schemas.{IsRowOf, number_of, text_word, padded}
use Rattle.gl_schema.specs.Beats.{AreRowsOf, IsBeat, AreInOrder, last_in}
use Rattle.gl_tuples.specs.declared.beats.Beat.{Beat}
use Rattle.gl_tuple_reader.specs.declared.entry.Entry.{Entry}
use Rattle.gl_tuple_reader.specs.declared.entry.Entry.TheVariants.{Tuple, Tick, End}
use Rattle.gl_tuple_reader.specs.declared.filing.Filing.{Filing}
use Rattle.gl_tuples.specs.declared.fault.TupleFault.{TupleFault}
use Rattle.gl_tuples.specs.declared.fault.TupleFault.TheVariants.{FieldCount, StreamTwice, TickTwice, AfterEnd, CycleFalls, CycleTooLarge}
use Rattle.gl_tuples.specs.Values.{word_of, fitting, fitting_negative, has_minus, integer_word, is_plain, is_printable, short_enough}
use Rattle.gl_tuples.specs.Values as values
use Rattle.gl_tuple_reader.specs.Entries.{words_of, row_of, row_found, columns_at, entry_of, entry_named, tuple_of, stream_named, cycle_of, cycle_below, option_bind}
use Rattle.gl_tuple_reader.specs.Filing.{filing_after, next_filing, behind, ended, list_of, beat_with, beat_of, whole_before, empty_beat, open_checked, cycle_checked, has_row}
use Rattle.gl_tuples.specs.Gaps.{plain_beat, plain_list}
use Rattle.gl_tuple_reader.specs.FileBeats.{AreListBeats}
use Rattle.gl_schema.proofs.TextNumbers.{length-padded, bytes_below, zeros_small}
use Rattle.gl_tuple_reader.proofs.Filings.{Next, next_tells, bind_ok, ok_is, guard_ok}

plain_small : (text : List ℕ) (n : ℕ) → list_all is_printable text ≡ true → AllByRecursion (λ b. b < 256) (text ++ replicate n 0)
plain_small [] n h = zeros_small n
plain_small (b ∷ bs) n h =
    let p = and_parts (is_printable b) (list_all is_printable bs) h in
    let q = leb-true b 126 (and_parts (nat_le 32 b) (nat_le b 126) p.0).1 in
    (omega arith, plain_small bs n p.1)

text_below : (n : ℕ) (text : List ℕ) → length text ≤ n → is_plain text ≡ true → text_word n text < 2 ^ (8 * n)
unfolding is_plain text_word
text_below n text le h =
    subst (λ (k : ℕ). number_of (padded n text) < 2 ^ (8 * k)) (let e : 0 + length (padded n text) ≡ n = omega (arith, length-padded n text le) in e)
    (bytes_below (padded n text) 0 0 (plain_small text (n - length text) h) (omega arith))

-- a test that lets a value through
pub test_some : {A : Type 0} (b : Bool) (x y : A) → cond b (Some x) None ≡ Some y → (b ≡ true) × (x ≡ y)
test_some true x y h = (refl, some_same x y h)
test_some false x y h = absurd cc

-- a word that stands for a number
fitting_small : (kind : Kind) (o : Option ℕ) (w : Word) → fitting kind o ≡ Some w → w.bits < 2 ^ width_of kind
fitting_small kind None w h = absurd cc
fitting_small kind (Some n) w h =
    let p = test_some (in_range kind (pos n)) (record { bits = kinds.word_of (width_of kind) (pos n); width = width_of kind }) w h in
    subst (λ (w : Word). w.bits < 2 ^ width_of kind) p.1 (word_fits (width_of kind) (pos n))

-- or for one behind a minus sign
negative_small : (kind : Kind) (o : Option ℕ) (w : Word) → fitting_negative kind o ≡ Some w → w.bits < 2 ^ width_of kind
negative_small kind None w h = absurd cc
negative_small kind (Some n) w h =
    let p = test_some (has_negative kind n) (record { bits = negative_word kind n; width = width_of kind }) w h in
    subst (λ (w : Word). w.bits < 2 ^ width_of kind) p.1 (word_fits (width_of kind) (neg_ℤ (pos n)))

integer_small : (kind : Kind) (field : List ℕ) (w : Word) → integer_word kind field ≡ Some w → w.bits < 2 ^ width_of kind
integer_small kind field w h = elim (cases_Bool (has_minus field)) [
  | inl minus ↦ negative_small kind (values.number_of (drop 1 field)) w (rw minus at h)
  | inr none ↦ fitting_small kind (values.number_of field) w (rw none at h)
]

short_small : (kind : Kind) (field : List ℕ) (w : Word) → IsTrue (kinds.is_text kind) → short_enough kind field ≡ Some w → w.bits < 2 ^ width_of kind
short_small kind field w text h =
    let bytes = bytes_in kind in
    let p = test_some (nat_le (length field) bytes && is_plain field) (record { bits = text_word bytes field; width = width_of kind }) w h in
    let q = and_parts (nat_le (length field) bytes) (is_plain field) p.0 in
    subst (λ (w : Word). w.bits < 2 ^ width_of kind) p.1
    (subst (λ (width : ℕ). text_word bytes field < 2 ^ width) (text_width kind text) (text_below bytes field (leb-true (length field) bytes q.0) q.1))

-- a word fits its column
pub word_small : (kind : Kind) (field : List ℕ) (w : Word) → word_of kind field ≡ Some w → w.bits < 2 ^ width_of kind
unfolding word_of
word_small (Unsigned width) field w h = integer_small (Unsigned width) field w h
word_small (Signed width) field w h = integer_small (Signed width) field w h
word_small (Text n) field w h = short_small (Text n) field w refl h

pub bind_some : {A B : Type 0} (o : Option A) (f : A → Option B) (y : B) → option_bind o f ≡ Some y → (x : A) × (o ≡ Some x) × (f x ≡ Some y)
bind_some None f y h = absurd cc
bind_some (Some x) f y h = (x, refl, h)

pub map_some : {A B : Type 0} (o : Option A) (f : A → B) (y : B) → option_map f o ≡ Some y → (x : A) × (o ≡ Some x) × (f x ≡ y)
map_some None f y h = absurd cc
map_some (Some x) f y h = (x, refl, some_same (f x) y h)

-- words that are found are a row of the columns
row_fits : (cs : List Column) (fs : List (List ℕ)) (row : List Word) → words_of cs fs ≡ Some row → IsRowOf cs (bits_of row)
row_fits [] fs row h = subst (λ (r : List Word). IsRowOf [] (bits_of r)) (some_same [] row h) tt
row_fits (c ∷ cs) [] row h = absurd cc
row_fits (c ∷ cs) (f ∷ fs) row h =
    let a = bind_some (word_of c.kind f) (λ w. option_map (λ ws. w ∷ ws) (words_of cs fs)) row h in
    let b = map_some (words_of cs fs) (λ ws. a.0 ∷ ws) row a.2 in
    subst (λ (r : List Word). IsRowOf (c ∷ cs) (bits_of r)) b.2 (word_small c.kind f a.0 a.1, row_fits cs fs b.0 b.1)

pub found_row : (number : ℕ) (o : Option (List Word)) (row : List Word) → row_found number o ≡ Ok row → o ≡ Some row
found_row number None row h = absurd cc
found_row number (Some r) row h = ap Some (ok_is r row h)

row_of_fits : (number : ℕ) (cs : List Column) (fs : List (List ℕ)) (row : List Word) → row_of number cs fs ≡ Ok row → IsRowOf cs (bits_of row)
unfolding row_of
row_of_fits number cs fs row h = elim (cases_Bool (length fs == 2 + length cs)) [
  | inl t ↦ row_fits cs (drop 2 fs) row (found_row number (words_of cs (drop 2 fs)) row (rw t at h))
  | inr f ↦ absurd (cc (rw f at h))
]

-- what an entry brings fits the schema
abbrev pub EntryFits : Schema → Entry → Type 0
EntryFits schema Tick = Unit {0}
EntryFits schema End = Unit {0}
EntryFits schema (Tuple k row) = (k < length schema.streams) × IsRowOf (columns_at schema.streams k) (bits_of row)

pub stream_below : (schema : Schema) (name : List ℕ) (k : ℕ) → stream_named schema name ≡ Some k → k < length schema.streams
unfolding stream_named
stream_below schema name k h = (position-Some (λ s. bytes_eq s.name name) schema.streams k (record { name = []; columns = [] }) h).0

tuple_fits : (number : ℕ) (schema : Schema) (fs : List (List ℕ)) (name : List ℕ) (o : Option ℕ) (entry : Entry) → stream_named schema name ≡ o → tuple_of number schema fs o ≡ Ok entry → EntryFits schema entry
tuple_fits number schema fs name None entry e h = absurd cc
tuple_fits number schema fs name (Some k) entry e h =
    let a = bind_ok (row_of number (columns_at schema.streams k) fs) (λ row. Ok (Tuple k row)) entry h in
    subst (EntryFits schema) (ok_is (Tuple k a.0) entry a.2) (stream_below schema name k e, row_of_fits number (columns_at schema.streams k) fs a.0 a.1)

alone_fits : (number : ℕ) (schema : Schema) (b : Bool) (said entry : Entry) → EntryFits schema said → cond b (Ok said) (Err (FieldCount number)) ≡ Ok entry → EntryFits schema entry
alone_fits number schema true said entry fits h = subst (EntryFits schema) (ok_is said entry h) fits
alone_fits number schema false said entry fits h = absurd cc

named_fits : (number : ℕ) (schema : Schema) (fs : List (List ℕ)) (o : Option (List ℕ)) (entry : Entry) → entry_named number schema fs o ≡ Ok entry → EntryFits schema entry
named_fits number schema fs None entry h = absurd cc
named_fits number schema fs (Some name) entry h = elim (cases_Bool (bytes_eq name (codes "end"))) [
  | inl t ↦ alone_fits number schema (length fs == 2) End entry tt (rw t at h)
  | inr f ↦ elim (cases_Bool (bytes_eq name (codes "tick"))) [
    | inl t ↦ alone_fits number schema (length fs == 2) Tick entry tt (rw (f, t) at h)
    | inr g ↦ tuple_fits number schema fs name (stream_named schema name) entry refl (rw (f, g) at h)
  ]
]

pub entry_fits : (number : ℕ) (schema : Schema) (fs : List (List ℕ)) (entry : Entry) → entry_of number schema fs ≡ Ok entry → EntryFits schema entry
unfolding entry_of
entry_fits number schema fs entry h = named_fits number schema fs (slice_get fs 1) entry h

cycle_small : (number : ℕ) (o : Option ℕ) (cycle : ℕ) → cycle_below number o ≡ Ok cycle → cycle ≤ 10000000
cycle_small number None cycle h = absurd cc
cycle_small number (Some c) cycle h = let p = guard_ok (nat_lt 10000000 c) (CycleTooLarge number) c cycle h in
    subst (λ (c : ℕ). c ≤ 10000000) p.1 (ltb-false 10000000 c p.0)

cycle_in_range : (number : ℕ) (fs : List (List ℕ)) (cycle : ℕ) → cycle_of number fs ≡ Ok cycle → cycle ≤ 10000000
unfolding cycle_of
cycle_in_range number fs cycle h = cycle_small number (option_bind (slice_get fs 0) values.number_of) cycle h

-- rows of a beat, as plain numbers
abbrev plain_rows : List (Option (List Word)) → List (Option (List ℕ))
plain_rows rows = map (λ r. option_map bits_of r) rows

no_rows_fit : (ss : List Stream) → AreRowsOf ss (plain_rows (replicate (length ss) None))
no_rows_fit [] = tt
no_rows_fit (s ∷ ss) = (tt, no_rows_fit ss)

set_fits : (ss : List Stream) (rows : List (Option (List Word))) (k : ℕ) (row : List Word) → AreRowsOf ss (plain_rows rows) → IsRowOf (columns_at ss k) (bits_of row) → AreRowsOf ss (plain_rows (slice_set rows k (Some row)))
set_fits [] [] k row h fits = h
set_fits [] (r ∷ rows) k row h fits = absurd h
set_fits (s ∷ ss) [] k row h fits = absurd h
set_fits (s ∷ ss) (r ∷ rows) zero row h fits = (fits, h.1)
set_fits (s ∷ ss) (r ∷ rows) (suc k) row h fits = (h.0, set_fits ss rows k row h.1 fits)

set_some : (ss : List Stream) (rows : List (Option (List Word))) (k : ℕ) (row : List Word) → AreRowsOf ss (plain_rows rows) → k < length ss → list_any is_some (plain_rows (slice_set rows k (Some row))) ≡ true
set_some [] rows k row h lt = absurd (omega arith)
set_some (s ∷ ss) [] k row h lt = absurd h
set_some (s ∷ ss) (r ∷ rows) zero row h lt = refl
set_some (s ∷ ss) (r ∷ rows) (suc k) row h lt = or_right (is_some (option_map bits_of r)) _ (set_some ss rows k row h.1 (omega arith))

-- beats whose cycles rise, and rise on to a cycle, none with the end
abbrev pub RisesTo : List Beat → ℕ → Type 0
RisesTo [] c = Unit {0}
RisesTo (b ∷ []) c = IsFalse b.end × (b.cycle < c)
RisesTo (b ∷ d ∷ bs) c = IsFalse b.end × (b.cycle < d.cycle) × RisesTo (d ∷ bs) c

pub rises_push : (bs : List Beat) (b : Beat) (c : ℕ) → RisesTo bs b.cycle → IsFalse b.end → b.cycle < c → RisesTo (bs ++ b ∷ []) c
rises_push [] b c h e lt = (e, lt)
rises_push (d ∷ []) b c h e lt = (h.0, h.1, (e, lt))
rises_push (d ∷ f ∷ bs) b c h e lt = (h.0, h.1, rises_push (f ∷ bs) b c h.2 e lt)

in_order : (bs : List Beat) (b : Beat) → RisesTo bs b.cycle → IsTrue b.end → AreInOrder (plain_list (bs ++ b ∷ []))
in_order [] b h e = e
in_order (d ∷ []) b h e = (h.0, h.1, e)
in_order (d ∷ f ∷ bs) b h e = (h.0, h.1, in_order (f ∷ bs) b h.2 e)

last_is : (bs : List Beat) (b : Beat) → last_in (plain_list (bs ++ b ∷ [])) ≡ b.cycle
last_is [] b = refl
last_is (d ∷ []) b = refl
last_is (d ∷ f ∷ bs) b = last_is (f ∷ bs) b

abbrev pub AreSound : Schema → List Beat → Type 0
AreSound schema bs = AllByRecursion (λ b. IsBeat schema (plain_beat b)) bs

sound_push : (schema : Schema) (bs : List Beat) (b : Beat) → AreSound schema bs → IsBeat schema (plain_beat b) → AreSound schema (bs ++ b ∷ [])
sound_push schema [] b h i = (i, tt)
sound_push schema (d ∷ bs) b h i = (h.0, sound_push schema bs b h.1 i)

sound_plain : (schema : Schema) (bs : List Beat) → AreSound schema bs → AllByRecursion (IsBeat schema) (plain_list bs)
sound_plain schema [] h = tt
sound_plain schema (b ∷ bs) h = (h.0, sound_plain schema bs h.1)

-- the beats while records are added
pub record IsOpen (schema : Schema) (whole : List Beat) (b : Beat) : Type 0 where
  pub rises : RisesTo whole b.cycle
  pub is : IsBeat schema (plain_beat b)
  pub early : b.cycle ≤ 10000000

abbrev pub CurrentFits : Schema → List Beat → Option Beat → Type 0
CurrentFits schema whole None = whole ≡ []
CurrentFits schema whole (Some b) = IsOpen schema whole b

pub record IsFiled (schema : Schema) (f : Filing) : Type 0 where
  pub whole : AreSound schema f.whole.beats
  pub current : CurrentFits schema f.whole.beats f.current

-- a beat that an entry is added to: it may be empty yet
record IsReady (schema : Schema) (whole : List Beat) (b : Beat) : Type 0 where
  rises : RisesTo whole b.cycle
  rows : AreRowsOf schema.streams (plain_rows b.rows)
  early : b.cycle ≤ 10000000

filled : (schema : Schema) (number : ℕ) (whole : List Beat) (b : Beat) (entry : Entry) (full : Beat) → IsReady schema whole b → EntryFits schema entry → beat_with number b entry ≡ Ok full → IsOpen schema whole full
filled schema number whole b End full r fits h = subst (IsOpen schema whole) (ok_is _ full h) (record { rises = r.rises; is = record { rows = r.rows; some' = λ e t. absurd (false≢true (sym e)) }; early = r.early })
filled schema number whole b Tick full r fits h =
    let p = guard_ok b.tick (TickTwice number) _ full h in
    subst (IsOpen schema whole) p.1 (record { rises = r.rises; is = record { rows = r.rows; some' = λ e t. absurd (false≢true (sym t)) }; early = r.early })
filled schema number whole b (Tuple k row) full r fits h =
    let p = guard_ok (has_row b.rows k) (StreamTwice number) _ full h in
    subst (IsOpen schema whole) p.1 (record { rises = r.rises; is = record { rows = set_fits schema.streams b.rows k row r.rows fits.1; some' = λ e t. set_some schema.streams b.rows k row r.rows fits.0 }; early = r.early })

empty_ready : (schema : Schema) (whole : List Beat) (cycle number : ℕ) → RisesTo whole cycle → cycle ≤ 10000000 → IsReady schema whole (empty_beat (length schema.streams) cycle number)
empty_ready schema whole cycle number rises early = record { rises = rises; rows = no_rows_fit schema.streams; early = early }

-- the beats in front of a cycle, and the beat of the cycle
record Turned (schema : Schema) (whole : List Beat) (b : Beat) : Type 0 where
  sound : AreSound schema whole
  ready : IsReady schema whole b

turned_if : (schema : Schema) (whole : List Beat) (b : Beat) (cycle number : ℕ) → AreSound schema whole → IsOpen schema whole b → cycle ≤ 10000000 → IsFalse b.end → b.cycle ≤ cycle
    → Turned schema (whole_before cycle whole (Some b)) (beat_of (length schema.streams) cycle number (Some b))
turned_if schema whole b cycle number sound o early open' le = elim (cases_Bool (b.cycle == cycle)) [
  | inl t ↦ rw t (record { sound = sound; ready = record { rises = o.rises; rows = o.is.rows; early = o.early } })
  | inr f ↦ rw f (record { sound = sound_push schema whole b sound o.is; ready = empty_ready schema (whole ++ b ∷ []) cycle number (rises_push whole b cycle o.rises open' (less b.cycle cycle le (eqb-false b.cycle cycle f))) early })
]
  where
    less : (a b : ℕ) → a ≤ b → (a ≡ b → ⊥) → a < b
    less a b le no' = omega (arith, no')

pub ok_true : (b : Bool) (e : TupleFault) → ◌≡◌ {A = Result (Unit {0}) TupleFault} (cond b (Err e) (Ok tt)) (Ok tt) → b ≡ false
ok_true true e h = absurd cc
ok_true false e h = refl

turned : (schema : Schema) (whole : List Beat) (current : Option Beat) (cycle number : ℕ) → AreSound schema whole → CurrentFits schema whole current → cycle ≤ 10000000 → open_checked number current ≡ Ok tt → cycle_checked number cycle current ≡ Ok tt
    → Turned schema (whole_before cycle whole current) (beat_of (length schema.streams) cycle number current)
turned schema whole None cycle number sound c early a b = record { sound = sound; ready = empty_ready schema whole cycle number (subst (λ (w : List Beat). RisesTo w cycle) (sym c) tt) early }
turned schema whole (Some d) cycle number sound c early a b =
    turned_if schema whole d cycle number sound c early (ok_true d.end (AfterEnd number) a) (ltb-false cycle d.cycle (ok_true (nat_lt cycle d.cycle) (CycleFalls number) b))

pub filed_next : (schema : Schema) (f : Filing) (fields : List (List ℕ)) (g : Filing) → IsFiled schema f → Next schema f fields g → IsFiled schema g
filed_next schema f fields g h n =
    let t = turned schema f.whole.beats f.current n.cycle (f.records + 1) h.whole h.current (cycle_in_range (f.records + 1) fields n.cycle n.cycled) n.opened n.rises in
    subst (IsFiled schema) n.is (record { whole = t.sound; current = filled schema (f.records + 1) (whole_before n.cycle f.whole.beats f.current) (beat_of (length schema.streams) n.cycle (f.records + 1) f.current) n.entry n.beat t.ready (entry_fits (f.records + 1) schema fields n.entry n.entered) n.filled })

filed_after : (schema : Schema) (rs : List (List (List ℕ))) (f g : Filing) → IsFiled schema f → filing_after schema rs f ≡ Ok g → IsFiled schema g
filed_after schema [] f g h e = subst (IsFiled schema) (ok_is f g e) h
filed_after schema (r ∷ rs) f g h e = let b = bind_ok (next_filing schema f r) (filing_after schema rs) g e in
    filed_after schema rs b.0 g (filed_next schema f r b.0 h (next_tells schema f r b.0 b.1)) b.2

ended_sound : (schema : Schema) (whole : List Beat) (b : Beat) → AreSound schema whole → IsReady schema whole b → AreListBeats schema (whole ++ record b { end = true } ∷ [])
ended_sound schema whole b sound r =
    let last = record b { end = true } in
    record {
      each = sound_plain schema (whole ++ last ∷ []) (sound_push schema whole last sound (record { rows = r.rows; some' = λ e t. absurd (false≢true (sym e)) }));
      order = in_order whole last r.rises refl;
      last = omega (arith, last_is whole last, r.early);
    }

filed_ended : (schema : Schema) (whole : List Beat) (current : Option Beat) → AreSound schema whole → CurrentFits schema whole current → AreListBeats schema (whole ++ record (unwrap_or current (empty_beat (length schema.streams) 0 0)) { end = true } ∷ [])
filed_ended schema whole None sound c = ended_sound schema whole (empty_beat (length schema.streams) 0 0) sound (empty_ready schema whole 0 0 (subst (λ (w : List Beat). RisesTo w 0) (sym c) tt) (omega arith))
filed_ended schema whole (Some b) sound c = ended_sound schema whole b sound (record { rises = c.rises; rows = c.is.rows; early = c.early })

pub list_sound : (skipped : ℕ) (schema : Schema) (rs : List (List (List ℕ))) (beats : List Beat) → list_of skipped schema rs ≡ Ok beats → AreListBeats schema beats
unfolding list_of
list_sound skipped schema rs beats h =
    let b = bind_ok (filing_after schema rs (behind skipped schema)) (λ f. Ok (ended (length schema.streams) f)) beats h in
    let f = filed_after schema rs (behind skipped schema) b.0 (record { whole = tt; current = refl }) b.1 in
    subst (AreListBeats schema) (ok_is _ beats b.2) (filed_ended schema b.0.whole.beats b.0.current f.whole f.current)
