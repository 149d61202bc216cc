-- What the entry of a record brings to its cycle: a row of a stream, and a tick.
use Rattle.std.proofs.Common.{◌≡◌, ℕ, ◌+◌, Bool, true, false, cond, List, length, drop, Option, Some, None, Ok, Err, refl, sym, ap, ◌∙◌, inl, inr}
use Rattle.std.specs.Prelude.{slice_get, nat_lt, ◌==◌, bytes_eq, codes}
use Rattle.std.specs.Option.{option_map_or}
use Rattle.std.proofs.lemmas.Bool.{cases_Bool, eqb-true}
use Rattle.gl_bits.proofs.Bools.{bytes_same}
use Rattle.gl_bits.specs.Words.{Word}
use Rattle.gl_schema.specs.declared.schema.Schema.{Schema}
use Rattle.gl_tuple_reader.specs.declared.entry.Entry.{Entry}
use Rattle.gl_tuple_reader.specs.declared.entry.Entry.TheVariants.{Tuple, Tick, End}
use Rattle.gl_tuples.specs.declared.fault.TupleFault.TheVariants.{FieldCount, CycleTooLarge}
use Rattle.gl_tuples.specs.Values.{number_of}
use Rattle.gl_tuple_reader.specs.Entries.{words_of, row_of, columns_at, entry_of, entry_named, tuple_of, stream_named, cycle_of, cycle_below, option_bind}
use Rattle.gl_tuple_reader.specs.FileBeats.{is_number, in_cycle, row_named, row_for, says_tick}
use Rattle.gl_tuple_reader.proofs.Filings.{bind_ok, ok_is, guard_ok}
use Rattle.gl_tuple_reader.proofs.Beatings.{found_row}

-- the cycle of a record, both ways
cycle_said : (number : ℕ) (o : Option ℕ) (cycle c : ℕ) → cycle_below number o ≡ Ok cycle → is_number c o ≡ (cycle == c)
cycle_said number None cycle c h = absurd cc
cycle_said number (Some n) cycle c h = let p = guard_ok (nat_lt 10000000 n) (CycleTooLarge number) n cycle h in ap (λ (x : ℕ). x == c) p.1

pub in_cycle_is : (number : ℕ) (fs : List (List ℕ)) (cycle c : ℕ) → cycle_of number fs ≡ Ok cycle → in_cycle c fs ≡ (cycle == c)
unfolding cycle_of
in_cycle_is number fs cycle c h = cycle_said number (option_bind (slice_get fs 0) number_of) cycle c h

-- the row that an entry brings to stream k
abbrev pub brought : Entry → ℕ → Option (List Word)
brought End k = None
brought Tick k = None
brought (Tuple j row) k = cond (j == k) (Some row) None

row_found_is : (number : ℕ) (schema : Schema) (j : ℕ) (fs : List (List ℕ)) (row : List Word) → row_of number (columns_at schema.streams j) fs ≡ Ok row → words_of (columns_at schema.streams j) (drop 2 fs) ≡ Some row
unfolding row_of
row_found_is number schema j fs row h = elim (cases_Bool (length fs == 2 + length (columns_at schema.streams j))) [
  | inl t ↦ found_row number (words_of (columns_at schema.streams j) (drop 2 fs)) row (rw t at h)
  | inr f ↦ absurd (cc (rw f at h))
]

tuple_row : (schema : Schema) (j k : ℕ) (fs : List (List ℕ)) (row : List Word) → words_of (columns_at schema.streams j) (drop 2 fs) ≡ Some row
    → cond (j == k) (words_of (columns_at schema.streams k) (drop 2 fs)) None ≡ cond (j == k) (Some row) None
tuple_row schema j k fs row h = elim (cases_Bool (j == k)) [
  | inl t ↦ rw t (ap (λ (x : ℕ). words_of (columns_at schema.streams x) (drop 2 fs)) (sym (eqb-true j k t)) ∙ h)
  | inr f ↦ rw f refl
]

tuple_brings : (number : ℕ) (schema : Schema) (k : ℕ) (fs : List (List ℕ)) (o : Option ℕ) (entry : Entry) → tuple_of number schema fs o ≡ Ok entry
    → cond (is_number k o) (words_of (columns_at schema.streams k) (drop 2 fs)) None ≡ brought entry k
tuple_brings number schema k fs None entry h = absurd cc
tuple_brings number schema k fs (Some j) entry h =
    let a = bind_ok (row_of number (columns_at schema.streams j) fs) (λ row. Ok (Tuple j row)) entry h in
    tuple_row schema j k fs a.0 (row_found_is number schema j fs a.0 a.1) ∙ ap (λ (e : Entry). brought e k) (ok_is (Tuple j a.0) entry a.2)

-- a record that says the end or a tick brings no row
alone_brings : (number : ℕ) (b : Bool) (k : ℕ) (said entry : Entry) → None ≡ brought said k → cond b (Ok said) (Err (FieldCount number)) ≡ Ok entry → None ≡ brought entry k
alone_brings number true k said entry none h = none ∙ ap (λ (e : Entry). brought e k) (ok_is said entry h)
alone_brings number false k said entry none h = absurd cc

named_brings : (number : ℕ) (schema : Schema) (k : ℕ) (fs : List (List ℕ)) (o : Option (List ℕ)) (entry : Entry) → entry_named number schema fs o ≡ Ok entry → row_named schema k fs o ≡ brought entry k
named_brings number schema k fs None entry h = absurd cc
named_brings number schema k fs (Some name) entry h = elim (cases_Bool (bytes_eq name (codes "end"))) [
  | inl t ↦ rw t (alone_brings number (length fs == 2) k End entry refl (rw t at h))
  | inr f ↦ elim (cases_Bool (bytes_eq name (codes "tick"))) [
    | inl t ↦ rw (f, t) (alone_brings number (length fs == 2) k Tick entry refl (rw (f, t) at h))
    | inr g ↦ rw (f, g) (tuple_brings number schema k fs (stream_named schema name) entry (rw (f, g) at h))
  ]
]

pub entry_brings : (number : ℕ) (schema : Schema) (k : ℕ) (fs : List (List ℕ)) (entry : Entry) → entry_of number schema fs ≡ Ok entry → row_for schema k fs ≡ brought entry k
unfolding entry_of row_for
entry_brings number schema k fs entry h = named_brings number schema k fs (slice_get fs 1) entry h

-- whether an entry is a tick
abbrev pub ticked : Entry → Bool
ticked End = false
ticked Tick = true
ticked (Tuple j row) = false

alone_ticks : (number : ℕ) (b : Bool) (said entry : Entry) → cond b (Ok said) (Err (FieldCount number)) ≡ Ok entry → ticked said ≡ ticked entry
alone_ticks number true said entry h = ap ticked (ok_is said entry h)
alone_ticks number false said entry h = absurd cc

tuple_ticks : (number : ℕ) (schema : Schema) (fs : List (List ℕ)) (o : Option ℕ) (entry : Entry) → tuple_of number schema fs o ≡ Ok entry → false ≡ ticked entry
tuple_ticks number schema fs None entry h = absurd cc
tuple_ticks number schema fs (Some j) entry h =
    let a = bind_ok (row_of number (columns_at schema.streams j) fs) (λ row. Ok (Tuple j row)) entry h in
    ap ticked (ok_is (Tuple j a.0) entry a.2)

named_ticks : (number : ℕ) (schema : Schema) (fs : List (List ℕ)) (o : Option (List ℕ)) (entry : Entry) → entry_named number schema fs o ≡ Ok entry → option_map_or (λ name. bytes_eq name (codes "tick")) o false ≡ ticked entry
named_ticks number schema fs None entry h = absurd cc
named_ticks number schema fs (Some name) entry h = elim (cases_Bool (bytes_eq name (codes "end"))) [
  | inl t ↦ ap (λ (n : List ℕ). bytes_eq n (codes "tick")) (bytes_same name (codes "end") t) ∙ alone_ticks number (length fs == 2) End entry (rw t at h)
  | inr f ↦ elim (cases_Bool (bytes_eq name (codes "tick"))) [
    | inl t ↦ t ∙ alone_ticks number (length fs == 2) Tick entry (rw (f, t) at h)
    | inr g ↦ g ∙ tuple_ticks number schema fs (stream_named schema name) entry (rw (f, g) at h)
  ]
]

-- a record says a tick where its entry is one
pub entry_ticks : (number : ℕ) (schema : Schema) (fs : List (List ℕ)) (entry : Entry) → entry_of number schema fs ≡ Ok entry → says_tick fs ≡ ticked entry
unfolding entry_of says_tick
entry_ticks number schema fs entry h = named_ticks number schema fs (slice_get fs 1) entry h
