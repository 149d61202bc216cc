-- The records of a file, one after another: those in front, and those with a cycle.
use Rattle.std.proofs.Common.{◌≡◌, ℕ, ◌+◌, Bool, true, false, cond, List, [], ◌∷◌, ◌++◌, length, Option, Some, None, Result, Ok, Err, refl, sym, ap, ◌∙◌, subst, arith, append_assoc}
use Rattle.std.specs.Prelude.{is_some, IsTrue}
use Rattle.std.proofs.lemmas.List.{append-nil, length-append, length-replicate, length-set}
use Rattle.gl_schema.specs.declared.schema.Schema.{Schema}
use Rattle.gl_tuples.specs.declared.fault.TupleFault.{TupleFault}
use Rattle.gl_tuples.specs.declared.fault.TupleFault.TheVariants.{SetTwice, NotSet}
use Rattle.gl_tuples.specs.Growing.{shape_of}
use Rattle.gl_tuple_reader.specs.declared.filing.Filing.{Filing}
use Rattle.gl_tuple_reader.specs.declared.setting.Setting.{Setting}
use Rattle.gl_tuple_reader.specs.declared.progress.Progress.{Progress}
use Rattle.gl_tuple_reader.specs.Entries.{Fails, ◌>>=◌, are_utf8, text_checked, cycle_of}
use Rattle.gl_tuple_reader.specs.Filing.{CurrentFit, next_filing}
use Rattle.gl_tuple_reader.specs.Settings.{says_set, setting_of, has_value, set_with, all_set, sets_checked, set_added, first_filed, front_added, filed, next_progress, progress_after, no_progress, finished, beats_of}
use Rattle.gl_tuple_reader.proofs.Fields.{fails_then}
use Rattle.gl_tuple_reader.proofs.Filings.{bind_more, bind_ok, guard_ok, ok_is, next_tells}
use Rattle.gl_tuple_reader.proofs.Columns.{next_fit}
use Rattle.gl_tuple_reader.proofs.Ruled.{is_text}

-- ---- one record

-- a record set a parameter
pub record IsSet (schema : Schema) (p : Progress) (r : List (List ℕ)) (q : Progress) : Type 0 where
  pub none : is_some p.filing.current ≡ false
  pub text : IsTrue (are_utf8 r)
  pub says : says_set r ≡ true
  pub setting : Setting
  pub is : setting_of (p.filing.records + 1) schema r ≡ Ok setting
  pub after : List (Option ℕ)
  pub with' : set_with (p.filing.records + 1) p.sets setting ≡ Ok after
  pub same : record { sets = after; filing = record p.filing { records = p.filing.records + 1 } } ≡ q

-- a record with a cycle was added to the beats
pub record IsNext (schema : Schema) (p : Progress) (r : List (List ℕ)) (q : Progress) : Type 0 where
  pub next : Filing
  pub filed' : next_filing schema p.filing r ≡ Ok next
  pub same : record { sets = p.sets; filing = next } ≡ q

-- what a record did
pub data Step (schema : Schema) (p : Progress) (r : List (List ℕ)) (q : Progress) : Type 0 where
  Sets : (set' : IsSet schema p r q) → Step schema p r q
  First : (none : is_some p.filing.current ≡ false) (says : says_set r ≡ false) (whole : all_set p.sets ≡ true) (next : IsNext schema p r q) → Step schema p r q
  Later : (some' : is_some p.filing.current ≡ true) (next : IsNext schema p r q) → Step schema p r q

set_true : (number : ℕ) (b : Bool) (u : Unit {0}) → ◌≡◌ {A = Result (Unit {0}) TupleFault} (cond b (Ok tt) (Err (NotSet number))) (Ok u) → b ≡ true
set_true number true u h = refl
set_true number false u h = absurd cc

pub are_set : (number : ℕ) (sets : List (Option ℕ)) (u : Unit {0}) → sets_checked number sets ≡ Ok u → all_set sets ≡ true
unfolding sets_checked
are_set number sets u h = set_true number (all_set sets) u h

next_of : (schema : Schema) (p : Progress) (r : List (List ℕ)) (q : Progress) → filed p (next_filing schema p.filing r) ≡ Ok q → IsNext schema p r q
next_of schema p r q h = let a = bind_ok (next_filing schema p.filing r) _ q h in record { next = a.0; filed' = a.1; same = ok_is _ q a.2 }

set_of : (schema : Schema) (p : Progress) (r : List (List ℕ)) (q : Progress) → is_some p.filing.current ≡ false → IsTrue (are_utf8 r) → says_set r ≡ true → set_added schema p r ≡ Ok q → IsSet schema p r q
set_of schema p r q none text says h =
    let a = bind_ok (setting_of (p.filing.records + 1) schema r) _ q h in
    let b = bind_ok (set_with (p.filing.records + 1) p.sets a.0) _ q a.2 in
    record { none = none; text = text; says = says; setting = a.0; is = a.1; after = b.0; with' = b.1; same = ok_is _ q b.2 }

first_of : (schema : Schema) (p : Progress) (r : List (List ℕ)) (q : Progress) → is_some p.filing.current ≡ false → says_set r ≡ false → first_filed schema p r ≡ Ok q → Step schema p r q
first_of schema p r q none says h =
    let a = bind_ok (cycle_of (p.filing.records + 1) r) _ q h in
    let b = bind_ok (sets_checked (p.filing.records + 1) p.sets) _ q a.2 in
    First none says (are_set (p.filing.records + 1) p.sets b.0 b.1) (next_of schema p r q b.2)

front_by : (schema : Schema) (p : Progress) (r : List (List ℕ)) (q : Progress) (b : Bool) → is_some p.filing.current ≡ false → IsTrue (are_utf8 r) → says_set r ≡ b → cond b (set_added schema p r) (first_filed schema p r) ≡ Ok q → Step schema p r q
front_by schema p r q true none text e h = Sets (set_of schema p r q none text e h)
front_by schema p r q false none text e h = first_of schema p r q none e h

front_of : (schema : Schema) (p : Progress) (r : List (List ℕ)) (q : Progress) → is_some p.filing.current ≡ false → front_added schema p r ≡ Ok q → Step schema p r q
front_of schema p r q none h =
    let a = bind_ok (text_checked (p.filing.records + 1) r) _ q h in
    front_by schema p r q (says_set r) none (is_text (p.filing.records + 1) r a.0 a.1) refl a.2

step_by : (schema : Schema) (p : Progress) (r : List (List ℕ)) (q : Progress) (b : Bool) → is_some p.filing.current ≡ b → cond b (filed p (next_filing schema p.filing r)) (front_added schema p r) ≡ Ok q → Step schema p r q
step_by schema p r q true e h = Later e (next_of schema p r q h)
step_by schema p r q false e h = front_of schema p r q e h

pub step_tells : (schema : Schema) (p : Progress) (r : List (List ℕ)) (q : Progress) → next_progress schema p r ≡ Ok q → Step schema p r q
unfolding next_progress
step_tells schema p r q h = step_by schema p r q (is_some p.filing.current) refl h

-- ---- what stays so

-- all records are counted, and the lists have the places of the schema
pub record Stays (schema : Schema) (rs : List (List (List ℕ))) (p : Progress) : Type 0 where
  pub counted : p.filing.records ≡ length rs
  pub columns : p.filing.whole.columns ≡ shape_of schema
  pub rows : CurrentFit (shape_of schema) p.filing.current
  pub long : length p.sets ≡ length schema.parameters

pub set_long : (number : ℕ) (sets : List (Option ℕ)) (s : Setting) (after : List (Option ℕ)) → set_with number sets s ≡ Ok after → length after ≡ length sets
set_long number sets s after h = let p = guard_ok (has_value sets s.parameter) (SetTwice number) _ after h in ap length (sym p.1) ∙ length-set sets s.parameter (Some s.value)

one_more : (rs : List (List (List ℕ))) (r : List (List ℕ)) (n m : ℕ) → n ≡ length rs → m ≡ n + 1 → m ≡ length (rs ++ r ∷ [])
one_more rs r n m e f = let l = length-append rs (r ∷ []) in omega (arith, e, f, l)

stays_set : (schema : Schema) (rs : List (List (List ℕ))) (p : Progress) (r : List (List ℕ)) (q : Progress) → Stays schema rs p → IsSet schema p r q → Stays schema (rs ++ r ∷ []) q
stays_set schema rs p r q st s = subst (Stays schema (rs ++ r ∷ [])) s.same (record {
  counted = one_more rs r p.filing.records (p.filing.records + 1) st.counted refl;
  columns = st.columns;
  rows = st.rows;
  long = set_long (p.filing.records + 1) p.sets s.setting s.after s.with' ∙ st.long;
})

stays_filed : (schema : Schema) (rs : List (List (List ℕ))) (p : Progress) (r : List (List ℕ)) (q : Progress) → Stays schema rs p → IsNext schema p r q → Stays schema (rs ++ r ∷ []) q
stays_filed schema rs p r q st n =
    let t = next_tells schema p.filing r n.next n.filed' in
    subst (Stays schema (rs ++ r ∷ [])) n.same (record {
      counted = one_more rs r p.filing.records n.next.records st.counted (ap (λ (g : Filing). g.records) (sym t.is));
      columns = ap (λ (g : Filing). g.whole.columns) (sym t.is) ∙ st.columns;
      rows = next_fit schema p.filing r n.next st.rows t;
      long = st.long;
    })

pub stays_next : (schema : Schema) (rs : List (List (List ℕ))) (p : Progress) (r : List (List ℕ)) (q : Progress) → Stays schema rs p → Step schema p r q → Stays schema (rs ++ r ∷ []) q
stays_next schema rs p r q st (Sets s) = stays_set schema rs p r q st s
stays_next schema rs p r q st (First none says whole n) = stays_filed schema rs p r q st n
stays_next schema rs p r q st (Later some' n) = stays_filed schema rs p r q st n

stays_after : (schema : Schema) (rs us : List (List (List ℕ))) (p q : Progress) → Stays schema rs p → progress_after schema us p ≡ Ok q → Stays schema (rs ++ us) q
stays_after schema rs [] p q st e = subst (λ (x : List (List (List ℕ))). Stays schema x q) (sym (append-nil rs)) (subst (Stays schema rs) (ok_is p q e) st)
stays_after schema rs (u ∷ us) p q st e =
    let b = bind_ok (next_progress schema p u) (progress_after schema us) q e in
    subst (λ (x : List (List (List ℕ))). Stays schema x q) (append_assoc rs (u ∷ []) us)
    (stays_after schema (rs ++ u ∷ []) us b.0 q (stays_next schema rs p u b.0 st (step_tells schema p u b.0 b.1)) b.2)

pub stays : (schema : Schema) (rs : List (List (List ℕ))) (p : Progress) → progress_after schema rs (no_progress schema) ≡ Ok p → Stays schema rs p
stays schema rs p e = stays_after schema [] rs (no_progress schema) p (record { counted = refl; columns = refl; rows = tt; long = length-replicate (length schema.parameters) None }) e

-- ---- records of two parts

progress_after-append : (schema : Schema) (rs us : List (List (List ℕ))) (p : Progress) → progress_after schema (rs ++ us) p ≡ (progress_after schema rs p >>= progress_after schema us)
progress_after-append schema [] us p = refl
progress_after-append schema (r ∷ rs) us p = bind_more (next_progress schema p r) (progress_after schema (rs ++ us)) (progress_after schema rs) (progress_after schema us) (λ q. progress_after-append schema rs us q)

-- a record more
pub progress_more : (schema : Schema) (rs : List (List (List ℕ))) (r : List (List ℕ)) (p q t : Progress) → progress_after schema rs p ≡ Ok q → next_progress schema q r ≡ Ok t → progress_after schema (rs ++ r ∷ []) p ≡ Ok t
progress_more schema rs r p q t a b = progress_after-append schema rs (r ∷ []) p ∙ ap (λ (x : Result Progress TupleFault). x >>= progress_after schema (r ∷ [])) a ∙ ap (λ (x : Result Progress TupleFault). x >>= progress_after schema []) b

-- a record that breaks a rule, whatever follows it
pub progress_fails : (schema : Schema) (rs us : List (List (List ℕ))) (r : List (List ℕ)) (q : Progress) (e : TupleFault) → progress_after schema rs (no_progress schema) ≡ Ok q → Fails e (next_progress schema q r) → Fails e (beats_of schema ((rs ++ r ∷ []) ++ us))
unfolding beats_of
progress_fails schema rs us r q e a b =
    fails_then e (progress_after schema ((rs ++ r ∷ []) ++ us) (no_progress schema)) (finished schema)
    (subst (Fails e) (sym (ap (λ (x : List (List (List ℕ))). progress_after schema x (no_progress schema)) (append_assoc rs (r ∷ []) us) ∙ progress_after-append schema rs (r ∷ us) (no_progress schema) ∙ ap (λ (x : Result Progress TupleFault). x >>= progress_after schema (r ∷ us)) a))
    (fails_then e (next_progress schema q r) (progress_after schema us) b))

pub all_taken : (schema : Schema) (rs : List (List (List ℕ))) (p : Progress) → progress_after schema rs (no_progress schema) ≡ Ok p → beats_of schema rs ≡ finished schema p
unfolding beats_of
all_taken schema rs p a = ap (λ (x : Result Progress TupleFault). x >>= finished schema) a
