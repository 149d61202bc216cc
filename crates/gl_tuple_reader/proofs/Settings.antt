-- The records in front of a file, and the values that they give.
use Rattle.std.proofs.Common.{◌≡◌, ℕ, zero, suc, ◌+◌, ◌^◌, ◌<◌, ◌≤◌, Bool, true, false, cond, List, [], ◌∷◌, ◌++◌, length, get_or, Option, Some, None, Result, Ok, Err, refl, sym, ap, ◌∙◌, subst, arith, append_assoc, inl, inr}
use Rattle.std.specs.Prelude.{IfSome, IsTrue, slice_get, slice_set, replicate, is_some, unwrap_or, ◌==◌}
use Rattle.std.proofs.lemmas.Bool.{cases_Bool, eq-eqb, eqb-true, eqb-false, ne_eqb, true≢false}
use Rattle.std.proofs.lemmas.List.{append-nil}
use Rattle.gl_bits.proofs.Options.{some_same}
use Rattle.gl_values.specs.declared.kind.Kind.{Kind}
use Rattle.gl_values.specs.Kinds.{width_of}
use Rattle.gl_bits.specs.Words.{Word}
use Rattle.gl_schema.specs.declared.schema.Column.{Column}
use Rattle.gl_schema.specs.declared.schema.Schema.{Schema}
use Rattle.gl_schema.specs.Schemas.{IsRowOf}
use Rattle.gl_schema.specs.Written.{is_written}
use Rattle.gl_schema.proofs.KindTable.{written_is}
use Rattle.gl_tuples.specs.declared.fault.TupleFault.{TupleFault}
use Rattle.gl_tuples.specs.declared.fault.TupleFault.TheVariants.{FieldCount, SetTwice}
use Rattle.gl_tuples.specs.Values.{word_of}
use Rattle.gl_tuple_reader.specs.declared.setting.Setting.{Setting}
use Rattle.gl_tuple_reader.specs.Entries.{◌>>=◌, are_utf8, option_bind, text_checked}
use Rattle.gl_tuple_reader.specs.Settings.{parameter_named, value_at, value_in, setting_found, setting_at, setting_named, setting_of, has_value, set_with, all_set, values_in}
use Rattle.gl_tuple_reader.specs.FileBeats.{either, is_number, parameter_said, value_for, value_of_records, MaySet, MayAllSet}
use Rattle.gl_tuple_reader.proofs.Filings.{bind_ok, guard_ok, ok_is}
use Rattle.gl_tuple_reader.proofs.Beatings.{bind_some, map_some, word_small}
use Rattle.gl_tuple_reader.proofs.Columns.{word_wide}
use Rattle.gl_tuple_reader.proofs.Ruled.{bind_given, is_text, text_given}

-- ---- a parameter, and a value of it

pub parameter_is : (ps : List Column) (k : ℕ) (p : Column) → k < length ps → p ≡ get_or ps k p → slice_get ps k ≡ Some p
parameter_is [] k p lt e = absurd (omega arith)
parameter_is (q ∷ ps) zero p lt e = ap Some (sym e)
parameter_is (q ∷ ps) (suc k) p lt e = parameter_is ps k p (omega arith) e

-- 64 bits hold a word of a kind that is written
pub word_narrow : (kind : Kind) (o : Option (List ℕ)) (w : Word) → IsTrue (is_written kind) → Some w ≡ option_bind o (word_of kind) → w.width ≤ 64
word_narrow kind o w is e =
    let a = bind_some o (word_of kind) w (sym e) in
    let wide = word_wide kind a.0 w a.2 in
    let narrow = (written_is kind is).1 in
    omega (arith, wide, narrow)

-- a value fits its parameter
record Fitting (schema : Schema) (k v : ℕ) : Type 0 where
  parameter : Column
  there : slice_get schema.parameters k ≡ Some parameter
  small : v < 2 ^ width_of parameter.kind

fitting : (schema : Schema) (k v : ℕ) (r : List (List ℕ)) → value_in schema k r ≡ Some v → Fitting schema k v
fitting schema k v r is =
    let a = bind_some (slice_get schema.parameters k) (value_at r) v is in
    let b = map_some (option_bind (slice_get r 2) (word_of a.0.kind)) (λ w. w.bits) v a.2 in
    let d = bind_some (slice_get r 2) (word_of a.0.kind) b.0 b.1 in
    record { parameter = a.0; there = a.1; small = subst (λ (x : ℕ). x < 2 ^ width_of a.0.kind) b.2 (word_small a.0.kind d.0 b.0 d.2) }

-- ---- what a record sets

record Tells (schema : Schema) (r : List (List ℕ)) (s : Setting) : Type 0 where
  many : length r ≡ 3
  named : parameter_said schema r ≡ Some s.parameter
  is : value_in schema s.parameter r ≡ Some s.value

found_tells : (number : ℕ) (schema : Schema) (r : List (List ℕ)) (s : Setting) (k : ℕ) (o : Option ℕ) → value_in schema k r ≡ o → parameter_said schema r ≡ Some k → length r ≡ 3 → setting_found number k o ≡ Ok s → Tells schema r s
found_tells number schema r s k None v said many h = absurd cc
found_tells number schema r s k (Some value) v said many h = subst (Tells schema r) (ok_is (record { parameter = k; value = value }) s h) (record { many = many; named = said; is = v })

at_tells : (number : ℕ) (schema : Schema) (r : List (List ℕ)) (s : Setting) (o : Option ℕ) → parameter_said schema r ≡ o → length r ≡ 3 → setting_at number schema r o ≡ Ok s → Tells schema r s
at_tells number schema r s None said many h = absurd cc
at_tells number schema r s (Some k) said many h = found_tells number schema r s k (value_in schema k r) refl said many h

named_tells : (number : ℕ) (schema : Schema) (r : List (List ℕ)) (s : Setting) (o : Option (List ℕ)) → slice_get r 1 ≡ o → length r ≡ 3 → setting_named number schema r o ≡ Ok s → Tells schema r s
named_tells number schema r s None e many h = absurd cc
named_tells number schema r s (Some name) e many h = at_tells number schema r s (parameter_named schema name) (ap (λ (o : Option (List ℕ)). option_bind o (parameter_named schema)) e) many h

long_tells : (number : ℕ) (schema : Schema) (r : List (List ℕ)) (s : Setting) (b : Bool) → (length r == 3) ≡ b → cond b (setting_named number schema r (slice_get r 1)) (Err (FieldCount number)) ≡ Ok s → Tells schema r s
long_tells number schema r s true e h = named_tells number schema r s (slice_get r 1) refl (eqb-true (length r) 3 e) h
long_tells number schema r s false e h = absurd cc

tells : (number : ℕ) (schema : Schema) (r : List (List ℕ)) (s : Setting) → setting_of number schema r ≡ Ok s → Tells schema r s
unfolding setting_of
tells number schema r s h = long_tells number schema r s (length r == 3) refl h

named_given : (number : ℕ) (schema : Schema) (r : List (List ℕ)) (k v : ℕ) (o : Option (List ℕ)) → option_bind o (parameter_named schema) ≡ Some k → value_in schema k r ≡ Some v → setting_named number schema r o ≡ Ok (record { parameter = k; value = v })
named_given number schema r k v None said is = absurd cc
named_given number schema r k v (Some name) said is = ap (setting_at number schema r) said ∙ ap (setting_found number k) is

setting_given : (number : ℕ) (schema : Schema) (r : List (List ℕ)) (k v : ℕ) → length r ≡ 3 → parameter_said schema r ≡ Some k → value_in schema k r ≡ Some v → setting_of number schema r ≡ Ok (record { parameter = k; value = v })
unfolding setting_of
setting_given number schema r k v many said is = rw (eq-eqb (length r) 3 many) (named_given number schema r k v (slice_get r 1) said is)

-- ---- the values so far

-- the value of parameter k
abbrev pub value_of : List (Option ℕ) → ℕ → Option ℕ
value_of sets k = unwrap_or (slice_get sets k) None

-- there is an entry for each parameter, and each value fits its own
abbrev pub FitSets : List Column → List (Option ℕ) → Type 0
FitSets [] [] = Unit {0}
FitSets [] (s ∷ ss) = ⊥
FitSets (p ∷ ps) [] = ⊥
FitSets (p ∷ ps) (s ∷ ss) = IfSome s (λ v. v < 2 ^ width_of p.kind) × FitSets ps ss

-- the values are those of the records before
pub record Known (schema : Schema) (before : List (List (List ℕ))) (sets : List (Option ℕ)) : Type 0 where
  pub fits : FitSets schema.parameters sets
  pub values : (k : ℕ) → value_of sets k ≡ value_of_records schema k before

either_none : {A : Type 0} (o : Option A) → o ≡ either o None
either_none None = refl
either_none (Some x) = refl

either_assoc : {A : Type 0} (x y z : Option A) → either x (either y z) ≡ either (either x y) z
either_assoc None y z = refl
either_assoc (Some x) y z = refl

values_push : (schema : Schema) (k : ℕ) (rs : List (List (List ℕ))) (r : List (List ℕ)) → value_of_records schema k (rs ++ r ∷ []) ≡ either (value_of_records schema k rs) (value_for schema k r)
values_push schema k [] r = sym (either_none (value_for schema k r))
values_push schema k (q ∷ rs) r = ap (either (value_for schema k q)) (values_push schema k rs r) ∙ either_assoc (value_for schema k q) (value_of_records schema k rs) (value_for schema k r)

same_test : (j k : ℕ) → (j == k) ≡ (suc j == suc k)
same_test j k = elim (cases_Bool (j == k)) [
  | inl t ↦ t ∙ sym (eq-eqb (suc j) (suc k) (ap suc (eqb-true j k t)))
  | inr f ↦ f ∙ sym (ne_eqb (suc j) (suc k) (λ e. eqb-false j k f (let q : j ≡ k = omega (arith, e) in q)))
]

value_set : (sets : List (Option ℕ)) (j k v : ℕ) → j < length sets → value_of (slice_set sets j (Some v)) k ≡ cond (j == k) (Some v) (value_of sets k)
value_set [] j k v lt = absurd (omega arith)
value_set (s ∷ sets) zero zero v lt = refl
value_set (s ∷ sets) zero (suc k) v lt = rw (ne_eqb 0 (suc k) (λ e. absurd (omega (arith, e)))) refl
value_set (s ∷ sets) (suc j) zero v lt = rw (ne_eqb (suc j) 0 (λ e. absurd (omega (arith, e)))) refl
value_set (s ∷ sets) (suc j) (suc k) v lt = value_set sets j k v (omega arith) ∙ ap (λ (b : Bool). cond b (Some v) (value_of sets k)) (same_test j k)

value_missing : (sets : List (Option ℕ)) (j : ℕ) → has_value sets j ≡ false → value_of sets j ≡ None
value_missing [] j h = refl
value_missing (None ∷ sets) zero h = refl
value_missing (Some v ∷ sets) zero h = absurd (true≢false h)
value_missing (s ∷ sets) (suc j) h = value_missing sets j h

one_value : (sets : List (Option ℕ)) (j k v : ℕ) → j < length sets → has_value sets j ≡ false → value_of (slice_set sets j (Some v)) k ≡ either (value_of sets k) (cond (j == k) (Some v) None)
one_value sets j k v lt none = value_set sets j k v lt ∙ elim (cases_Bool (j == k)) [
  | inl t ↦ rw t (sym (ap (λ (o : Option ℕ). either o (Some v)) (ap (value_of sets) (sym (eqb-true j k t)) ∙ value_missing sets j none)))
  | inr f ↦ rw f (either_none (value_of sets k))
]

named_value : (schema : Schema) (j k v : ℕ) (r : List (List ℕ)) → value_in schema j r ≡ Some v → cond (j == k) (value_in schema k r) None ≡ cond (j == k) (Some v) None
named_value schema j k v r is = elim (cases_Bool (j == k)) [
  | inl t ↦ rw t (ap (λ (x : ℕ). value_in schema x r) (sym (eqb-true j k t)) ∙ is)
  | inr f ↦ rw f refl
]

-- the value that a record gives to each parameter
gives_value : (schema : Schema) (j k v : ℕ) (r : List (List ℕ)) → parameter_said schema r ≡ Some j → value_in schema j r ≡ Some v → value_for schema k r ≡ cond (j == k) (Some v) None
unfolding value_for
gives_value schema j k v r said is = ap (λ (o : Option ℕ). cond (is_number k o) (value_in schema k r) None) said ∙ named_value schema j k v r is

fit_long : (ps : List Column) (sets : List (Option ℕ)) → FitSets ps sets → length sets ≡ length ps
fit_long [] [] h = refl
fit_long [] (s ∷ ss) h = absurd h
fit_long (p ∷ ps) [] h = absurd h
fit_long (p ∷ ps) (s ∷ ss) h = ap suc (fit_long ps ss h.1)

get_below : (ps : List Column) (j : ℕ) (p : Column) → slice_get ps j ≡ Some p → j < length ps
get_below [] j p e = absurd cc
get_below (q ∷ ps) zero p e = omega arith
get_below (q ∷ ps) (suc j) p e = let h = get_below ps j p e in omega (arith, h)

fit_set : (ps : List Column) (sets : List (Option ℕ)) (j : ℕ) (p : Column) (v : ℕ) → FitSets ps sets → slice_get ps j ≡ Some p → v < 2 ^ width_of p.kind → FitSets ps (slice_set sets j (Some v))
fit_set [] [] j p v h e lt = h
fit_set [] (s ∷ ss) j p v h e lt = absurd h
fit_set (q ∷ ps) [] j p v h e lt = absurd h
fit_set (q ∷ ps) (s ∷ ss) zero p v h e lt = (subst (λ (x : Column). v < 2 ^ width_of x.kind) (sym (some_same q p e)) lt, h.1)
fit_set (q ∷ ps) (s ∷ ss) (suc j) p v h e lt = (h.0, fit_set ps ss j p v h.1 e lt)

-- one more record
known_next : (schema : Schema) (before : List (List (List ℕ))) (sets : List (Option ℕ)) (r : List (List ℕ)) (s : Setting) → Known schema before sets → Tells schema r s → has_value sets s.parameter ≡ false
    → Known schema (before ++ r ∷ []) (slice_set sets s.parameter (Some s.value))
known_next schema before sets r s known t none =
    let fit = fitting schema s.parameter s.value r t.is in
    let long = fit_long schema.parameters sets known.fits in
    let inside = get_below schema.parameters s.parameter fit.parameter fit.there in
    record {
      fits = fit_set schema.parameters sets s.parameter fit.parameter s.value known.fits fit.there fit.small;
      values = λ k.
          one_value sets s.parameter k s.value (omega (arith, long, inside)) none
          ∙ ap (λ (o : Option ℕ). either o (cond (s.parameter == k) (Some s.value) None)) (known.values k)
          ∙ ap (either (value_of_records schema k before)) (sym (gives_value schema s.parameter k s.value r t.named t.is))
          ∙ sym (values_push schema k before r);
    }

no_values_fit : (ps : List Column) → FitSets ps (replicate (length ps) None)
no_values_fit [] = tt
no_values_fit (p ∷ ps) = (tt, no_values_fit ps)

no_value : (n k : ℕ) → value_of (replicate n None) k ≡ None
no_value zero k = refl
no_value (suc n) zero = refl
no_value (suc n) (suc k) = no_value n k

pub known_first : (schema : Schema) → Known schema [] (replicate (length schema.parameters) None)
known_first schema = record { fits = no_values_fit schema.parameters; values = λ k. no_value (length schema.parameters) k }

-- ---- all records in front

-- the values behind records that set parameters, the first of them behind so many others
abbrev pub sets_after : Schema → ℕ → List (List (List ℕ)) → List (Option ℕ) → Result (List (Option ℕ)) TupleFault
sets_after schema n [] sets = Ok sets
sets_after schema n (r ∷ rs) sets = text_checked (n + 1) r >>= λ _. setting_of (n + 1) schema r >>= λ s. set_with (n + 1) sets s >>= sets_after schema (n + 1) rs

-- each of the records may stand behind those before it
abbrev AllMaySet : Schema → List (List (List ℕ)) → List (List (List ℕ)) → Type 0
AllMaySet schema before [] = Unit {0}
AllMaySet schema before (r ∷ rs) = MaySet schema before r × AllMaySet schema (before ++ r ∷ []) rs

-- what records that were taken tell
record Taken (schema : Schema) (before rs : List (List (List ℕ))) (after : List (Option ℕ)) : Type 0 where
  known : Known schema (before ++ rs) after
  may : AllMaySet schema before rs

may_set : (schema : Schema) (before : List (List (List ℕ))) (sets : List (Option ℕ)) (r : List (List ℕ)) (s : Setting) → Known schema before sets → IsTrue (are_utf8 r) → Tells schema r s → has_value sets s.parameter ≡ false → MaySet schema before r
may_set schema before sets r s known text t none = record {
  text = text;
  many = t.many;
  parameter = s.parameter;
  named = t.named;
  value = s.value;
  is = t.is;
  new = sym (known.values s.parameter) ∙ value_missing sets s.parameter none;
}

taken : (schema : Schema) (n : ℕ) (before rs : List (List (List ℕ))) (sets after : List (Option ℕ)) → Known schema before sets → sets_after schema n rs sets ≡ Ok after → Taken schema before rs after
taken schema n before [] sets after known e = record { known = subst (λ (x : List (List (List ℕ))). Known schema x after) (sym (append-nil before)) (subst (Known schema before) (ok_is sets after e) known); may = tt }
taken schema n before (r ∷ rs) sets after known e =
    let a = bind_ok (text_checked (n + 1) r) _ after e in
    let b = bind_ok (setting_of (n + 1) schema r) _ after a.2 in
    let d = bind_ok (set_with (n + 1) sets b.0) (sets_after schema (n + 1) rs) after b.2 in
    let t = tells (n + 1) schema r b.0 b.1 in
    let p = guard_ok (has_value sets b.0.parameter) (SetTwice (n + 1)) _ d.0 d.1 in
    let next = subst (Known schema (before ++ r ∷ [])) p.1 (known_next schema before sets r b.0 known t p.0) in
    let more = taken schema (n + 1) (before ++ r ∷ []) rs d.0 after next d.2 in
    record {
      known = subst (λ (x : List (List (List ℕ))). Known schema x after) (append_assoc before (r ∷ []) rs) more.known;
      may = (may_set schema before sets r b.0 known (is_text (n + 1) r a.0 a.1) t p.0, more.may);
    }

same_head : (r q : List (List ℕ)) (rs qs : List (List (List ℕ))) → r ∷ rs ≡ q ∷ qs → (r ≡ q) × (rs ≡ qs)
same_head r q rs qs e = (cc, cc)

each_may : (schema : Schema) (before rs : List (List (List ℕ))) → AllMaySet schema before rs → (b : List (List (List ℕ))) (r : List (List ℕ)) (a : List (List (List ℕ))) → rs ≡ b ++ r ∷ a → MaySet schema (before ++ b) r
each_may schema before [] h [] r a e = absurd cc
each_may schema before [] h (x ∷ b) r a e = absurd cc
each_may schema before (q ∷ rs) h [] r a e =
    subst (λ (x : List (List (List ℕ))). MaySet schema x r) (sym (append-nil before)) (subst (MaySet schema before) (same_head q r rs a e).0 h.0)
each_may schema before (q ∷ rs) h (x ∷ b) r a e =
    let p = same_head q x rs (b ++ r ∷ a) e in
    let later = each_may schema (before ++ q ∷ []) rs h.1 b r a p.1 in
    subst (λ (y : List (List ℕ)). MaySet schema (before ++ y ∷ b) r) p.0 (subst (λ (y : List (List (List ℕ))). MaySet schema y r) (append_assoc before (q ∷ []) b) later)

-- records that were taken keep the rules, and the values are theirs
pub record AreTaken (schema : Schema) (rs : List (List (List ℕ))) (after : List (Option ℕ)) : Type 0 where
  pub known : Known schema rs after
  pub rules : MayAllSet schema rs

pub are_taken : (schema : Schema) (n : ℕ) (rs : List (List (List ℕ))) (after : List (Option ℕ)) → sets_after schema n rs (replicate (length schema.parameters) None) ≡ Ok after → AreTaken schema rs after
are_taken schema n rs after e =
    let all = taken schema n [] rs (replicate (length schema.parameters) None) after (known_first schema) e in
    record { known = all.known; rules = each_may schema [] rs all.may }

-- and records that keep the rules are taken
pub record CanTake (schema : Schema) (n : ℕ) (before rs : List (List (List ℕ))) (sets : List (Option ℕ)) : Type 0 where
  pub after : List (Option ℕ)
  pub is : sets_after schema n rs sets ≡ Ok after
  pub known : Known schema (before ++ rs) after

can_take : (schema : Schema) (n : ℕ) (before rs : List (List (List ℕ))) (sets : List (Option ℕ)) → Known schema before sets → MayAllSet schema (before ++ rs) → CanTake schema n before rs sets
can_take schema n before [] sets known rules = record { after = sets; is = refl; known = subst (λ (x : List (List (List ℕ))). Known schema x sets) (sym (append-nil before)) known }
can_take schema n before (r ∷ rs) sets known rules =
    let m = rules before r rs refl in
    let s : Setting = record { parameter = m.parameter; value = m.value } in
    let none : has_value sets m.parameter ≡ false = ap is_some (known.values m.parameter ∙ m.new) in
    let one : set_with (n + 1) sets s ≡ Ok (slice_set sets m.parameter (Some m.value)) = rw none refl in
    let t : Tells schema r s = record { many = m.many; named = m.named; is = m.is } in
    let same = append_assoc before (r ∷ []) rs in
    let more = can_take schema (n + 1) (before ++ r ∷ []) rs (slice_set sets m.parameter (Some m.value)) (known_next schema before sets r s known t none) (subst (MayAllSet schema) (sym same) rules) in
    record {
      after = more.after;
      is = bind_given (text_checked (n + 1) r) _ tt (text_given (n + 1) r m.text) ∙ bind_given (setting_of (n + 1) schema r) _ s (setting_given (n + 1) schema r m.parameter m.value m.many m.named m.is)
          ∙ bind_given (set_with (n + 1) sets s) (sets_after schema (n + 1) rs) (slice_set sets m.parameter (Some m.value)) one ∙ more.is;
      known = subst (λ (x : List (List (List ℕ))). Known schema x more.after) same more.known;
    }

pub takes_all : (schema : Schema) (n : ℕ) (rs : List (List (List ℕ))) → MayAllSet schema rs → CanTake schema n [] rs (replicate (length schema.parameters) None)
takes_all schema n rs rules = can_take schema n [] rs (replicate (length schema.parameters) None) (known_first schema) rules

-- ---- each parameter has a value

pub held_row : (ps : List Column) (sets : List (Option ℕ)) → FitSets ps sets → all_set sets ≡ true → IsRowOf ps (values_in sets)
unfolding all_set
held_row [] [] h e = tt
held_row [] (s ∷ ss) h e = absurd h
held_row (p ∷ ps) [] h e = absurd h
held_row (p ∷ ps) (None ∷ ss) h e = absurd (true≢false (sym e))
held_row (p ∷ ps) (Some v ∷ ss) h e = (h.0, held_row ps ss h.1 e)

pub value_is : (sets : List (Option ℕ)) (k : ℕ) → all_set sets ≡ true → slice_get (values_in sets) k ≡ value_of sets k
unfolding all_set
value_is [] k e = refl
value_is (None ∷ ss) k e = absurd (true≢false (sym e))
value_is (Some v ∷ ss) zero e = refl
value_is (Some v ∷ ss) (suc k) e = value_is ss k e

-- values that are a row are all there
pub row_whole : (ps : List Column) (row : List ℕ) (sets : List (Option ℕ)) → IsRowOf ps row → FitSets ps sets → ((k : ℕ) → slice_get row k ≡ value_of sets k) → (all_set sets ≡ true) × (values_in sets ≡ row)
unfolding all_set
row_whole [] [] [] h f e = (refl, refl)
row_whole [] (n ∷ ns) sets h f e = absurd h
row_whole [] [] (s ∷ ss) h f e = absurd f
row_whole (p ∷ ps) [] sets h f e = absurd h
row_whole (p ∷ ps) (n ∷ ns) [] h f e = absurd f
row_whole (p ∷ ps) (n ∷ ns) (None ∷ ss) h f e = let z : Some n ≡ None = e 0 in absurd cc
row_whole (p ∷ ps) (n ∷ ns) (Some v ∷ ss) h f e =
    let more = row_whole ps ns ss h.1 f.1 (λ k. e (suc k)) in
    let first : v ≡ n = sym (some_same n v (e 0)) in
    let rest : values_in ss ≡ ns = more.1 in
    (more.0, ap (λ (x : ℕ). x ∷ values_in ss) first ∙ ap (λ (xs : List ℕ). n ∷ xs) rest)
