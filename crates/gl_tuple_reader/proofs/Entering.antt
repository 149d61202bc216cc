-- What a record says behind its cycle: the end, a tick or a row, both ways.
use Rattle.std.proofs.Common.{◌≡◌, ℕ, ◌+◌, Bool, true, false, cond, List, length, drop, Option, Some, None, Result, Ok, Err, refl, ap, ◌∙◌, subst, inl, inr}
use Rattle.std.specs.Prelude.{slice_get, IsTrue, IsFalse, ◌==◌, bytes_eq, codes}
use Rattle.std.specs.Option.{option_map_or}
use Rattle.std.proofs.lemmas.Bool.{cases_Bool, eqb-true, eq-eqb, false≢true}
use Rattle.gl_bits.specs.Words.{Word}
use Rattle.gl_schema.specs.declared.schema.Schema.{Schema}
use Rattle.gl_tuple_reader.specs.declared.entry.Entry.{Entry}
use Rattle.gl_tuple_reader.specs.declared.entry.Entry.TheVariants.{Tuple, Tick, End}
use Rattle.gl_tuples.specs.declared.fault.TupleFault.{TupleFault}
use Rattle.gl_tuples.specs.declared.fault.TupleFault.TheVariants.{FieldCount}
use Rattle.gl_tuple_reader.specs.Entries.{◌>>=◌, words_of, row_of, row_found, columns_at, entry_of, entry_named, tuple_of, stream_named}
use Rattle.gl_tuple_reader.specs.FileBeats.{says_end, says_tick}
use Rattle.gl_tuple_reader.proofs.Filings.{bind_ok, ok_is}
use Rattle.gl_tuple_reader.proofs.Beatings.{found_row}

-- what a second field says, where there is one
abbrev pub second_is : List ℕ → Option (List ℕ) → Bool
second_is word o = option_map_or (λ name. bytes_eq name word) o false

-- what a record brings, behind these beats
abbrev pub Enters : Schema → List (List ℕ) → Entry → Type 0
Enters schema r End = IsTrue (says_end r) × (length r ≡ 2)
Enters schema r Tick = IsFalse (says_end r) × IsTrue (says_tick r) × (length r ≡ 2)
Enters schema r (Tuple k row) =
    IsFalse (says_end r) × IsFalse (says_tick r) × (name : List ℕ) × (slice_get r 1 ≡ Some name) × (stream_named schema name ≡ Some k) × (words_of (columns_at schema.streams k) (drop 2 r) ≡ Some row) × (length r ≡ 2 + length (columns_at schema.streams k))

row_enters : (number : ℕ) (schema : Schema) (k : ℕ) (r : List (List ℕ)) (row : List Word) → row_of number (columns_at schema.streams k) r ≡ Ok row → (words_of (columns_at schema.streams k) (drop 2 r) ≡ Some row) × (length r ≡ 2 + length (columns_at schema.streams k))
unfolding row_of
row_enters number schema k r row h = elim (cases_Bool (length r == 2 + length (columns_at schema.streams k))) [
  | inl t ↦ (found_row number (words_of (columns_at schema.streams k) (drop 2 r)) row (rw t at h), eqb-true (length r) (2 + length (columns_at schema.streams k)) t)
  | inr f ↦ absurd (cc (rw f at h))
]

tuple_enters : (number : ℕ) (schema : Schema) (r : List (List ℕ)) (name : List ℕ) (o : Option ℕ) (entry : Entry) → slice_get r 1 ≡ Some name → IsFalse (says_end r) → IsFalse (says_tick r) → stream_named schema name ≡ o → tuple_of number schema r o ≡ Ok entry → Enters schema r entry
tuple_enters number schema r name None entry s f g e h = absurd cc
tuple_enters number schema r name (Some k) entry s f g e h =
    let a = bind_ok (row_of number (columns_at schema.streams k) r) (λ row. Ok (Tuple k row)) entry h in
    let p = row_enters number schema k r a.0 a.1 in
    subst (Enters schema r) (ok_is (Tuple k a.0) entry a.2) (f, g, name, s, e, p.0, p.1)

-- the end or a tick
alone_enters : (number : ℕ) (schema : Schema) (r : List (List ℕ)) (b : Bool) (said entry : Entry) → (length r == 2) ≡ b → (length r ≡ 2 → Enters schema r said) → cond b (Ok said) (Err (FieldCount number)) ≡ Ok entry → Enters schema r entry
alone_enters number schema r true said entry e has h = subst (Enters schema r) (ok_is said entry h) (has (eqb-true (length r) 2 e))
alone_enters number schema r false said entry e has h = absurd cc

named_enters : (number : ℕ) (schema : Schema) (r : List (List ℕ)) (o : Option (List ℕ)) (entry : Entry) → slice_get r 1 ≡ o → entry_named number schema r o ≡ Ok entry → Enters schema r entry
unfolding says_end says_tick
named_enters number schema r None entry s h = absurd cc
named_enters number schema r (Some name) entry s h =
    let ends : second_is (codes "end") (slice_get r 1) ≡ bytes_eq name (codes "end") = ap (second_is (codes "end")) s in
    let ticks : second_is (codes "tick") (slice_get r 1) ≡ bytes_eq name (codes "tick") = ap (second_is (codes "tick")) s in
    elim (cases_Bool (bytes_eq name (codes "end"))) [
      | inl t ↦ alone_enters number schema r (length r == 2) End entry refl (λ long. (ends ∙ t, long)) (rw t at h)
      | inr f ↦ elim (cases_Bool (bytes_eq name (codes "tick"))) [
        | inl t ↦ alone_enters number schema r (length r == 2) Tick entry refl (λ long. (ends ∙ f, ticks ∙ t, long)) (rw (f, t) at h)
        | inr g ↦ tuple_enters number schema r name (stream_named schema name) entry s (ends ∙ f) (ticks ∙ g) refl (rw (f, g) at h)
      ]
    ]

pub enters : (number : ℕ) (schema : Schema) (r : List (List ℕ)) (entry : Entry) → entry_of number schema r ≡ Ok entry → Enters schema r entry
unfolding entry_of
enters number schema r entry h = named_enters number schema r (slice_get r 1) entry refl h

end_given : (number : ℕ) (schema : Schema) (r : List (List ℕ)) (o : Option (List ℕ)) → second_is (codes "end") o ≡ true → length r ≡ 2 → entry_named number schema r o ≡ Ok End
end_given number schema r None t e = absurd (false≢true t)
end_given number schema r (Some name) t e = rw (t, eq-eqb (length r) 2 e) refl

pub end_entered : (number : ℕ) (schema : Schema) (r : List (List ℕ)) → IsTrue (says_end r) → length r ≡ 2 → entry_of number schema r ≡ Ok End
unfolding entry_of says_end
end_entered number schema r t e = end_given number schema r (slice_get r 1) t e

tick_given : (number : ℕ) (schema : Schema) (r : List (List ℕ)) (o : Option (List ℕ)) → second_is (codes "end") o ≡ false → second_is (codes "tick") o ≡ true → length r ≡ 2 → entry_named number schema r o ≡ Ok Tick
tick_given number schema r None f t e = absurd (false≢true t)
tick_given number schema r (Some name) f t e = rw (f, t, eq-eqb (length r) 2 e) refl

pub tick_entered : (number : ℕ) (schema : Schema) (r : List (List ℕ)) → IsFalse (says_end r) → IsTrue (says_tick r) → length r ≡ 2 → entry_of number schema r ≡ Ok Tick
unfolding entry_of says_end says_tick
tick_entered number schema r f t e = tick_given number schema r (slice_get r 1) f t e

pub row_given : (number : ℕ) (schema : Schema) (k : ℕ) (r : List (List ℕ)) (row : List Word) → words_of (columns_at schema.streams k) (drop 2 r) ≡ Some row → length r ≡ 2 + length (columns_at schema.streams k) → row_of number (columns_at schema.streams k) r ≡ Ok row
unfolding row_of
row_given number schema k r row w e = rw (eq-eqb (length r) (2 + length (columns_at schema.streams k)) e) (ap (row_found number) w)

tuple_given : (number : ℕ) (schema : Schema) (r : List (List ℕ)) (k : ℕ) (row : List Word) (o : Option (List ℕ)) (name : List ℕ) → o ≡ Some name → second_is (codes "end") o ≡ false → second_is (codes "tick") o ≡ false → stream_named schema name ≡ Some k
    → row_of number (columns_at schema.streams k) r ≡ Ok row → entry_named number schema r o ≡ Ok (Tuple k row)
tuple_given number schema r k row None name s f g e h = absurd cc
tuple_given number schema r k row (Some n) name s f g e h =
    let same : n ≡ name = cc in
    rw (f, g) (ap (tuple_of number schema r) (ap (stream_named schema) same ∙ e) ∙ ap (λ (x : Result (List Word) TupleFault). x >>= λ row. Ok (Tuple k row)) h)

pub tuple_entered : (number : ℕ) (schema : Schema) (r : List (List ℕ)) (name : List ℕ) (k : ℕ) (row : List Word) → slice_get r 1 ≡ Some name → IsFalse (says_end r) → IsFalse (says_tick r) → stream_named schema name ≡ Some k
    → row_of number (columns_at schema.streams k) r ≡ Ok row → entry_of number schema r ≡ Ok (Tuple k row)
unfolding entry_of says_end says_tick
tuple_entered number schema r name k row s f g e h = tuple_given number schema r k row (slice_get r 1) name s f g e h
