-- The records of a text, as far as they were read.
use Rattle.std.proofs.Common.{◌≡◌, ℕ, zero, suc, ◌+◌, ◌-◌, ◌<◌, ◌≤◌, Bool, true, false, cond, ◌||◌, List, [], ◌∷◌, ◌++◌, length, Some, None, refl, sym, ap, ◌∙◌, subst, arith, inl, inr}
use Rattle.std.specs.Prelude.{◌==◌}
use Rattle.std.proofs.lemmas.List.{append-nil}
use Rattle.std.proofs.lemmas.Bool.{cases_Bool, true≢false}
use Rattle.csv.specs.declared.parser.State.{State}
use Rattle.csv.specs.declared.parser.State.TheVariants as st
use Rattle.csv.specs.declared.parser.Action.{Action}
use Rattle.csv.specs.declared.parser.Action.TheVariants as act
use Rattle.csv.specs.Machine.{Read, next_record, step, is_end, ends_at_end, fields_after, field_after, in_field, start_field, start_record}
use Rattle.csv.specs.Reading.{Reached, default_config, records_from, records_next, strip_bom, is_bom}
use Rattle.gl_tuple_reader.specs.Filing.{records_of}

-- what ends a record leaves a state between records
abbrev Between : State × Action → Type 0
Between p = is_end p.1 ≡ true → ends_at_end p.0 ≡ false

between_if : (b : Bool) (x y : State × Action) → Between x → Between y → Between (cond b x y)
between_if true x y f g = f
between_if false x y f g = g

goes_on : (s : State) (a : Action) → is_end a ≡ false → Between (s, a)
goes_on s a e h = absurd (true≢false (sym h ∙ e))

ended : (b : Bool) → ends_at_end (cond b st.AfterCr st.StartRecord) ≡ false
ended true = refl
ended false = refl

in_field_between : (c : ℕ) → Between (in_field default_config c)
in_field_between c = between_if (c == 44) _ _ (goes_on st.StartField act.EndField refl) (between_if ((c == 13) || (c == 10)) _ _ (λ h. ended (c == 13)) (goes_on st.InField act.Copy refl))

start_field_between : (c : ℕ) → Between (start_field default_config c)
start_field_between c = between_if (c == 34) _ _ (goes_on st.InQuoted act.Skip refl) (in_field_between c)

start_record_between : (c : ℕ) → Between (start_record default_config c)
start_record_between c = between_if ((c == 13) || (c == 10)) _ _ (goes_on st.StartRecord act.Skip refl) (start_field_between c)

step_between : (s : State) (c : ℕ) → Between (step default_config s c)
step_between st.StartRecord c = start_record_between c
step_between st.StartField c = start_field_between c
step_between st.InField c = in_field_between c
step_between st.InQuoted c = between_if (c == 34) _ _ (goes_on st.AfterQuote act.Skip refl) (goes_on st.InQuoted act.Copy refl)
step_between st.InEscape c = goes_on st.InQuoted act.Copy refl
step_between st.AfterQuote c = between_if (c == 34) _ _ (goes_on st.InQuoted act.Copy refl) (in_field_between c)
step_between st.InComment c = between_if (c == 10) _ _ (goes_on st.StartRecord act.Skip refl) (goes_on st.InComment act.Skip refl)
step_between st.AfterCr c = between_if (c == 10) _ _ (goes_on st.StartRecord act.Skip refl) (start_record_between c)

-- a record leaves no more bytes than there were, and a state between records
record Leaves (xs : List ℕ) (p : Read) : Type 0 where
  bytes : length p.2 ≤ length xs
  between : ends_at_end p.1 ≡ false

some_read : (p q : Read) → Some p ≡ Some q → p ≡ q
some_read p q h = cc

leaves : (s : State) (fields : List (List ℕ)) (field xs : List ℕ) (p : Read) → next_record default_config s fields field xs ≡ Some p → Leaves xs p
unfolding next_record
leaves s fields field [] p h = elim (cases_Bool (ends_at_end s)) [
  | inl t ↦ subst (Leaves []) (some_read _ p (rw t at h)) (record { bytes = omega arith; between = refl })
  | inr f ↦ absurd (cc (rw f at h))
]
leaves s fields field (c ∷ rest) p h = elim (cases_Bool (is_end (step default_config s c).1)) [
  | inl t ↦ subst (Leaves (c ∷ rest)) (some_read _ p (rw t at h)) (record { bytes = omega arith; between = step_between s c t })
  | inr f ↦ (let l = leaves (step default_config s c).0 (fields_after (step default_config s c).1 fields field) (field_after (step default_config s c).1 c field) rest p (rw f at h) in
      record { bytes = omega (arith, l.bytes); between = l.between })
]

-- a record takes a byte at least
takes : (s : State) (xs : List ℕ) (p : Read) → ends_at_end s ≡ false → next_record default_config s [] [] xs ≡ Some p → length p.2 < length xs
unfolding next_record
takes s [] p e h = absurd (cc (rw e at h))
takes s (c ∷ rest) p e h = elim (cases_Bool (is_end (step default_config s c).1)) [
  | inl t ↦ (let q = some_read _ p (rw t at h) in subst (λ (p : Read). length p.2 < length (c ∷ rest)) q (omega arith))
  | inr f ↦ (let l = leaves (step default_config s c).0 (fields_after (step default_config s c).1 [] []) (field_after (step default_config s c).1 c []) rest p (rw f at h) in omega (arith, l.bytes))
]

-- there are no more records than bytes
pub reached_long : (s : State) (xs : List ℕ) (rows : List (List (List ℕ))) (s2 : State) (ys : List ℕ) → ends_at_end s ≡ false → Reached default_config s xs rows s2 ys → length rows + length ys ≤ length xs
unfolding Reached
reached_long s xs [] s2 ys e r = omega (arith, ap length r.1)
reached_long s xs (row ∷ rows) s2 ys e r =
    let more = reached_long r.0.1 r.0.2 rows s2 ys (leaves s [] [] xs r.0 r.1).between r.3 in
    omega (arith, more, takes s xs r.0 e r.1)

-- the records that were read are the first of all
records_reached : (s : State) (xs : List ℕ) (rows : List (List (List ℕ))) (s2 : State) (ys : List ℕ) (n : ℕ) → Reached default_config s xs rows s2 ys → records_from default_config (length rows + n) s xs ≡ rows ++ records_from default_config n s2 ys
unfolding Reached records_from
records_reached s xs [] s2 ys n r = ap (λ (k : ℕ). records_from default_config k s xs) (let z : 0 + n ≡ n = omega arith in z) ∙ ap (λ (s : State). records_from default_config n s xs) r.0 ∙ ap (records_from default_config n s2) r.1
records_reached s xs (row ∷ rows) s2 ys n r =
    ap (λ (k : ℕ). records_from default_config k s xs) (let z : suc (length rows) + n ≡ suc (length rows + n) = omega arith in z)
    ∙ ap (records_next (records_from default_config (length rows + n))) r.1
    ∙ ap (λ (x : List (List ℕ)). x ∷ records_from default_config (length rows + n) r.0.1 r.0.2) (sym r.2)
    ∙ ap (λ (x : List (List (List ℕ))). row ∷ x) (records_reached r.0.1 r.0.2 rows s2 ys n r.3)

no_more : (s : State) (ys : List ℕ) (n : ℕ) → next_record default_config s [] [] ys ≡ None → records_from default_config n s ys ≡ []
unfolding records_from
no_more s ys zero h = refl
no_more s ys (suc n) h = ap (records_next (records_from default_config n)) h

-- how many turns are left
turns : (xs : List ℕ) (rows : List (List (List ℕ))) (s2 : State) (ys : List ℕ) → Reached default_config st.StartRecord xs rows s2 ys → length rows + (length xs + 1 - length rows) ≡ length xs + 1
turns xs rows s2 ys r = omega (arith, reached_long st.StartRecord xs rows s2 ys refl r)

-- the records of a text begin with those that were read
pub begins : (text : List ℕ) (rows : List (List (List ℕ))) (s2 : State) (ys : List ℕ) → Reached default_config st.StartRecord (strip_bom text) rows s2 ys → (more : List (List (List ℕ))) × (records_of text ≡ rows ++ more)
unfolding records_of
begins text rows s2 ys r = (
  records_from default_config (length (strip_bom text) + 1 - length rows) s2 ys,
  ap (λ (k : ℕ). records_from default_config k st.StartRecord (strip_bom text)) (sym (turns (strip_bom text) rows s2 ys r)) ∙ records_reached st.StartRecord (strip_bom text) rows s2 ys (length (strip_bom text) + 1 - length rows) r,
)

-- and are those, where there is no other
pub are_all : (text : List ℕ) (rows : List (List (List ℕ))) (s2 : State) (ys : List ℕ) → Reached default_config st.StartRecord (strip_bom text) rows s2 ys → next_record default_config s2 [] [] ys ≡ None → records_of text ≡ rows
unfolding records_of
are_all text rows s2 ys r none =
    ap (λ (k : ℕ). records_from default_config k st.StartRecord (strip_bom text)) (sym (turns (strip_bom text) rows s2 ys r)) ∙ records_reached st.StartRecord (strip_bom text) rows s2 ys (length (strip_bom text) + 1 - length rows) r
    ∙ ap (λ (x : List (List (List ℕ))). rows ++ x) (no_more s2 ys (length (strip_bom text) + 1 - length rows) none) ∙ append-nil rows

strip_short : (xs : List ℕ) → length (strip_bom xs) ≤ length xs
unfolding strip_bom
strip_short [] = omega arith
strip_short (a ∷ []) = omega arith
strip_short (a ∷ b ∷ []) = omega arith
strip_short (a ∷ b ∷ c ∷ rest) = elim (cases_Bool (is_bom a b c)) [ inl t ↦ rw t (omega arith) | inr f ↦ rw f (omega arith) ]

pub rows_counted : (text : List ℕ) (rows : List (List (List ℕ))) (s2 : State) (ys : List ℕ) → Reached default_config st.StartRecord (strip_bom text) rows s2 ys → length rows ≤ length text
rows_counted text rows s2 ys r = omega (arith, reached_long st.StartRecord (strip_bom text) rows s2 ys refl r, strip_short text)
