-- The records of a file in two parts: those in front, and those with a cycle.
use Rattle.std.proofs.Common.{◌≡◌, ℕ, suc, ◌+◌, Bool, true, false, cond, List, [], ◌∷◌, length, Option, None, Result, Ok, refl, sym, ap, ◌∙◌, subst, arith}
use Rattle.std.specs.Prelude.{is_some, replicate}
use Rattle.std.proofs.lemmas.Bool.{true≢false}
use Rattle.gl_schema.specs.declared.schema.Schema.{Schema}
use Rattle.gl_tuples.specs.declared.fault.TupleFault.{TupleFault}
use Rattle.gl_tuples.specs.declared.beats.Beat.{Beat}
use Rattle.gl_tuples.specs.Flat.{BeatList}
use Rattle.gl_tuples.specs.Gaps.{AreFileBeats}
use Rattle.gl_tuple_reader.specs.declared.filing.Filing.{Filing}
use Rattle.gl_tuple_reader.specs.declared.setting.Setting.{Setting}
use Rattle.gl_tuple_reader.specs.declared.progress.Progress.{Progress}
use Rattle.gl_tuple_reader.specs.Entries.{text_checked, cycle_of}
use Rattle.gl_tuple_reader.specs.Filing.{behind, next_filing, filing_after, ended}
use Rattle.gl_tuple_reader.specs.Settings.{says_set, setting_of, set_with, all_set, sets_checked, values_in, set_added, first_filed, next_progress, progress_after, no_progress, finished, beats_of}
use Rattle.gl_tuple_reader.specs.FileBeats.{settings, others, AreBeatsOf}
use Rattle.gl_tuple_reader.proofs.Filings.{bind_ok, ok_is, next_tells}
use Rattle.gl_tuple_reader.proofs.Listings.{list_is, list_again}
use Rattle.gl_tuple_reader.proofs.Ruled.{bind_given, next_text, text_given}
use Rattle.gl_tuple_reader.proofs.Settings.{sets_after, are_taken, takes_all, held_row, value_is, row_whole}
use Rattle.gl_tuple_reader.proofs.Steps.{Step, Sets, First, Later, step_tells, are_set}

-- these values, and these beats
abbrev with_beats : List (Option ℕ) → Filing → Progress
with_beats sets filing = record { sets = sets; filing = filing }

-- ---- the two parts

settings_more : (r : List (List ℕ)) (rs : List (List (List ℕ))) → says_set r ≡ true → settings (r ∷ rs) ≡ r ∷ settings rs
settings_more r rs e = rw e refl

others_more : (r : List (List ℕ)) (rs : List (List (List ℕ))) → says_set r ≡ true → others (r ∷ rs) ≡ others rs
others_more r rs e = rw e refl

settings_none : (r : List (List ℕ)) (rs : List (List (List ℕ))) → says_set r ≡ false → settings (r ∷ rs) ≡ []
settings_none r rs e = rw e refl

others_all : (r : List (List ℕ)) (rs : List (List (List ℕ))) → says_set r ≡ false → others (r ∷ rs) ≡ r ∷ rs
others_all r rs e = rw e refl

no_more : (n : ℕ) → n + 0 ≡ n
no_more n = omega arith

one_more : (n m : ℕ) → n + suc m ≡ n + 1 + m
one_more n m = omega arith

-- ---- behind the first record with a cycle

record Went (schema : Schema) (rs : List (List (List ℕ))) (sets : List (Option ℕ)) (f : Filing) (q : Progress) : Type 0 where
  filed' : filing_after schema rs f ≡ Ok q.filing
  same : q.sets ≡ sets

has_beat : (schema : Schema) (f : Filing) (r : List (List ℕ)) (g : Filing) → next_filing schema f r ≡ Ok g → is_some g.current ≡ true
has_beat schema f r g h = ap (λ (x : Filing). is_some x.current) (sym (next_tells schema f r g h).is)

went_by : (schema : Schema) (r : List (List ℕ)) (rs : List (List (List ℕ))) (sets : List (Option ℕ)) (f : Filing) (t q : Progress) → is_some f.current ≡ true
    → ((g : Filing) → is_some g.current ≡ true → progress_after schema rs (with_beats sets g) ≡ Ok q → Went schema rs sets g q)
    → Step schema (with_beats sets f) r t → progress_after schema rs t ≡ Ok q → Went schema (r ∷ rs) sets f q
went_by schema r rs sets f t q some' more (Sets s) e = absurd (true≢false (sym some' ∙ s.none))
went_by schema r rs sets f t q some' more (First none says whole n) e = absurd (true≢false (sym some' ∙ none))
went_by schema r rs sets f t q some' more (Later some'' n) e =
    let w = more n.next (has_beat schema f r n.next n.filed') (subst (λ (x : Progress). progress_after schema rs x ≡ Ok q) (sym n.same) e) in
    record { filed' = bind_given (next_filing schema f r) (filing_after schema rs) n.next n.filed' ∙ w.filed'; same = w.same }

went : (schema : Schema) (rs : List (List (List ℕ))) (sets : List (Option ℕ)) (f : Filing) (q : Progress) → is_some f.current ≡ true → progress_after schema rs (with_beats sets f) ≡ Ok q → Went schema rs sets f q
went schema [] sets f q some' e = subst (Went schema [] sets f) (ok_is (with_beats sets f) q e) (record { filed' = refl; same = refl })
went schema (r ∷ rs) sets f q some' e =
    let b = bind_ok (next_progress schema (with_beats sets f) r) (progress_after schema rs) q e in
    went_by schema r rs sets f b.0 q some' (λ g h k. went schema rs sets g q h k) (step_tells schema (with_beats sets f) r b.0 b.1) b.2

-- and back
later_given : (schema : Schema) (r : List (List ℕ)) (sets : List (Option ℕ)) (f h : Filing) → is_some f.current ≡ true → next_filing schema f r ≡ Ok h → next_progress schema (with_beats sets f) r ≡ Ok (with_beats sets h)
unfolding next_progress
later_given schema r sets f h some' e = rw some' (bind_given (next_filing schema f r) _ h e)

goes : (schema : Schema) (rs : List (List (List ℕ))) (sets : List (Option ℕ)) (f g : Filing) → is_some f.current ≡ true → filing_after schema rs f ≡ Ok g → progress_after schema rs (with_beats sets f) ≡ Ok (with_beats sets g)
goes schema [] sets f g some' e = ap (λ (x : Filing). progress_after schema [] (with_beats sets x)) (ok_is f g e)
goes schema (r ∷ rs) sets f g some' e =
    let b = bind_ok (next_filing schema f r) (filing_after schema rs) g e in
    bind_given (next_progress schema (with_beats sets f) r) (progress_after schema rs) (with_beats sets b.0) (later_given schema r sets f b.0 some' b.1)
    ∙ goes schema rs sets b.0 g (has_beat schema f r b.0 b.1) b.2

-- ---- from the first record on

record Split (schema : Schema) (n : ℕ) (front back : List (List (List ℕ))) (sets : List (Option ℕ)) (q : Progress) : Type 0 where
  set' : sets_after schema n front sets ≡ Ok q.sets
  filed' : filing_after schema back (behind (n + length front) schema) ≡ Ok q.filing

split_by : (schema : Schema) (n : ℕ) (r : List (List ℕ)) (rs : List (List (List ℕ))) (sets : List (Option ℕ)) (t q : Progress)
    → ((m : ℕ) (more : List (Option ℕ)) → progress_after schema rs (with_beats more (behind m schema)) ≡ Ok q → Split schema m (settings rs) (others rs) more q)
    → Step schema (with_beats sets (behind n schema)) r t → progress_after schema rs t ≡ Ok q → Split schema n (settings (r ∷ rs)) (others (r ∷ rs)) sets q
split_by schema n r rs sets t q later (Sets s) e =
    let x = later (n + 1) s.after (subst (λ (y : Progress). progress_after schema rs y ≡ Ok q) (sym s.same) e) in
    subst (λ (front : List (List (List ℕ))). Split schema n front (others (r ∷ rs)) sets q) (sym (settings_more r rs s.says))
    (subst (λ (back : List (List (List ℕ))). Split schema n (r ∷ settings rs) back sets q) (sym (others_more r rs s.says)) (record {
      set' = bind_given (text_checked (n + 1) r) _ tt (text_given (n + 1) r s.text) ∙ bind_given (setting_of (n + 1) schema r) _ s.setting s.is
          ∙ bind_given (set_with (n + 1) sets s.setting) (sets_after schema (n + 1) (settings rs)) s.after s.with' ∙ x.set';
      filed' = ap (λ (k : ℕ). filing_after schema (others rs) (behind k schema)) (one_more n (length (settings rs))) ∙ x.filed';
    }))
split_by schema n r rs sets t q later (First none says whole next) e =
    let w = went schema rs sets next.next q (has_beat schema (behind n schema) r next.next next.filed') (subst (λ (y : Progress). progress_after schema rs y ≡ Ok q) (sym next.same) e) in
    subst (λ (front : List (List (List ℕ))). Split schema n front (others (r ∷ rs)) sets q) (sym (settings_none r rs says))
    (subst (λ (back : List (List (List ℕ))). Split schema n [] back sets q) (sym (others_all r rs says)) (record {
      set' = ap (λ (x : List (Option ℕ)). sets_after schema n [] x) (sym w.same);
      filed' = ap (λ (k : ℕ). filing_after schema (r ∷ rs) (behind k schema)) (no_more n) ∙ bind_given (next_filing schema (behind n schema) r) (filing_after schema rs) next.next next.filed' ∙ w.filed';
    }))
split_by schema n r rs sets t q later (Later some' next) e = absurd (true≢false (sym some'))

split : (schema : Schema) (n : ℕ) (rs : List (List (List ℕ))) (sets : List (Option ℕ)) (q : Progress) → progress_after schema rs (with_beats sets (behind n schema)) ≡ Ok q → Split schema n (settings rs) (others rs) sets q
split schema n [] sets q e = subst (Split schema n [] [] sets) (ok_is (with_beats sets (behind n schema)) q e) (record { set' = refl; filed' = ap (λ (k : ℕ). filing_after schema [] (behind k schema)) (no_more n) })
split schema n (r ∷ rs) sets q e =
    let b = bind_ok (next_progress schema (with_beats sets (behind n schema)) r) (progress_after schema rs) q e in
    split_by schema n r rs sets b.0 q (λ m more h. split schema m rs more q h) (step_tells schema (with_beats sets (behind n schema)) r b.0 b.1) b.2

-- and back
all_checked : (number : ℕ) (sets : List (Option ℕ)) → all_set sets ≡ true → sets_checked number sets ≡ Ok tt
unfolding sets_checked
all_checked number sets e = rw e refl

next_set : (schema : Schema) (n : ℕ) (r : List (List ℕ)) (sets after : List (Option ℕ)) (u : Unit {0}) (s : Setting) → says_set r ≡ true → text_checked (n + 1) r ≡ Ok u → setting_of (n + 1) schema r ≡ Ok s → set_with (n + 1) sets s ≡ Ok after
    → next_progress schema (with_beats sets (behind n schema)) r ≡ Ok (with_beats after (behind (n + 1) schema))
unfolding next_progress
next_set schema n r sets after u s says text is with' =
    let p = with_beats sets (behind n schema) in
    bind_given (text_checked (n + 1) r) _ u text ∙ ap (λ (b : Bool). cond b (set_added schema p r) (first_filed schema p r)) says ∙ bind_given (setting_of (n + 1) schema r) _ s is ∙ bind_given (set_with (n + 1) sets s) _ after with'

next_first : (schema : Schema) (n : ℕ) (r : List (List ℕ)) (sets : List (Option ℕ)) (g : Filing) → says_set r ≡ false → all_set sets ≡ true → next_filing schema (behind n schema) r ≡ Ok g
    → next_progress schema (with_beats sets (behind n schema)) r ≡ Ok (with_beats sets g)
unfolding next_progress
next_first schema n r sets g says whole e =
    let p = with_beats sets (behind n schema) in
    let t = next_tells schema (behind n schema) r g e in
    bind_given (text_checked (n + 1) r) _ tt (text_given (n + 1) r (next_text schema (behind n schema) r g e)) ∙ ap (λ (b : Bool). cond b (set_added schema p r) (first_filed schema p r)) says
    ∙ bind_given (cycle_of (n + 1) r) _ t.cycle t.cycled ∙ bind_given (sets_checked (n + 1) sets) _ tt (all_checked (n + 1) sets whole) ∙ bind_given (next_filing schema (behind n schema) r) _ g e

join_by : (schema : Schema) (n : ℕ) (r : List (List ℕ)) (rs : List (List (List ℕ))) (sets after : List (Option ℕ)) (g : Filing) (b : Bool) → all_set after ≡ true
    → ((m : ℕ) (more : List (Option ℕ)) → sets_after schema m (settings rs) more ≡ Ok after → filing_after schema (others rs) (behind (m + length (settings rs)) schema) ≡ Ok g → progress_after schema rs (with_beats more (behind m schema)) ≡ Ok (with_beats after g))
    → says_set r ≡ b → sets_after schema n (cond b (r ∷ settings rs) []) sets ≡ Ok after → filing_after schema (cond b (others rs) (r ∷ rs)) (behind (n + length (cond b (r ∷ settings rs) [])) schema) ≡ Ok g
    → progress_after schema (r ∷ rs) (with_beats sets (behind n schema)) ≡ Ok (with_beats after g)
join_by schema n r rs sets after g true whole later says a e =
    let t = bind_ok (text_checked (n + 1) r) _ after a in
    let s = bind_ok (setting_of (n + 1) schema r) _ after t.2 in
    let w = bind_ok (set_with (n + 1) sets s.0) (sets_after schema (n + 1) (settings rs)) after s.2 in
    bind_given (next_progress schema (with_beats sets (behind n schema)) r) (progress_after schema rs) (with_beats w.0 (behind (n + 1) schema)) (next_set schema n r sets w.0 t.0 s.0 says t.1 s.1 w.1)
    ∙ later (n + 1) w.0 w.2 (ap (λ (k : ℕ). filing_after schema (others rs) (behind k schema)) (sym (one_more n (length (settings rs)))) ∙ e)
join_by schema n r rs sets after g false whole later says a e =
    let same = ok_is sets after a in
    let here : filing_after schema (r ∷ rs) (behind n schema) ≡ Ok g = ap (λ (k : ℕ). filing_after schema (r ∷ rs) (behind k schema)) (sym (no_more n)) ∙ e in
    let b = bind_ok (next_filing schema (behind n schema) r) (filing_after schema rs) g here in
    let first = next_first schema n r sets b.0 says (ap all_set same ∙ whole) b.1 in
    bind_given (next_progress schema (with_beats sets (behind n schema)) r) (progress_after schema rs) (with_beats sets b.0) first
    ∙ goes schema rs sets b.0 g (has_beat schema (behind n schema) r b.0 b.1) b.2
    ∙ ap (λ (x : List (Option ℕ)). progress_after schema [] (with_beats x g)) same

join : (schema : Schema) (n : ℕ) (rs : List (List (List ℕ))) (sets after : List (Option ℕ)) (g : Filing) → all_set after ≡ true → sets_after schema n (settings rs) sets ≡ Ok after → filing_after schema (others rs) (behind (n + length (settings rs)) schema) ≡ Ok g
    → progress_after schema rs (with_beats sets (behind n schema)) ≡ Ok (with_beats after g)
join schema n [] sets after g whole a e =
    ap (λ (x : List (Option ℕ)). progress_after schema [] (with_beats x (behind n schema))) (ok_is sets after a) ∙ ap (λ (k : ℕ). progress_after schema [] (with_beats after (behind k schema))) (sym (no_more n))
    ∙ ap (λ (x : Filing). progress_after schema [] (with_beats after x)) (ok_is (behind (n + 0) schema) g e)
join schema n (r ∷ rs) sets after g whole a e = join_by schema n r rs sets after g (says_set r) whole (λ m more h k. join schema m rs more after g whole h k) refl a e

-- ---- the file

none_first : (n : ℕ) → 0 + n ≡ n
none_first n = omega arith

-- no value yet
abbrev no_values : Schema → List (Option ℕ)
no_values schema = replicate (length schema.parameters) None

pub beats_are : (schema : Schema) (rs : List (List (List ℕ))) (beats : BeatList) → beats_of schema rs ≡ Ok beats → AreBeatsOf schema rs beats
unfolding beats_of
beats_are schema rs beats h =
    let a = bind_ok (progress_after schema rs (no_progress schema)) (finished schema) beats h in
    let b = bind_ok (sets_checked (a.0.filing.records + 1) a.0.sets) _ beats a.2 in
    let whole = are_set (a.0.filing.records + 1) a.0.sets b.0 b.1 in
    let parts = split schema 0 rs (no_values schema) a.0 a.1 in
    let count = length (settings rs) in
    let here : filing_after schema (others rs) (behind count schema) ≡ Ok a.0.filing = ap (λ (k : ℕ). filing_after schema (others rs) (behind k schema)) (sym (none_first count)) ∙ parts.filed' in
    let taken = are_taken schema 0 (settings rs) a.0.sets parts.set' in
    subst (AreBeatsOf schema rs) (ok_is (record { list = ended (length schema.streams) a.0.filing; sets = values_in a.0.sets }) beats b.2) (record {
      set' = record {
        held = held_row schema.parameters a.0.sets taken.known.fits whole;
        values = λ k. value_is a.0.sets k whole ∙ taken.known.values k;
        rules = taken.rules;
      };
      listed = list_is count schema (others rs) a.0.filing here;
    })

pub beats_again : (schema : Schema) (rs : List (List (List ℕ))) (beats : BeatList) → AreBeatsOf schema rs beats → beats_of schema rs ≡ Ok beats
unfolding beats_of
beats_again schema rs beats are =
    let count = length (settings rs) in
    let can = takes_all schema 0 (settings rs) are.set'.rules in
    let all = row_whole schema.parameters beats.sets can.after are.set'.held can.known.fits (λ k. are.set'.values k ∙ sym (can.known.values k)) in
    let list = list_again count schema (others rs) beats.list are.listed in
    let here : filing_after schema (others rs) (behind (0 + count) schema) ≡ Ok list.after = ap (λ (k : ℕ). filing_after schema (others rs) (behind k schema)) (none_first count) ∙ list.is in
    bind_given (progress_after schema rs (no_progress schema)) (finished schema) (with_beats can.after list.after) (join schema 0 rs (no_values schema) can.after list.after all.0 can.is here)
    ∙ bind_given (sets_checked (list.after.records + 1) can.after) _ tt (all_checked (list.after.records + 1) can.after all.0)
    ∙ ap finished_as (same_list (ended (length schema.streams) list.after) beats.list (values_in can.after) beats.sets list.same all.1)
  where
    finished_as : BeatList → Result BeatList TupleFault
    finished_as x = Ok x

    same_list : (a b : List Beat) (s t : List ℕ) → a ≡ b → s ≡ t → ◌≡◌ {A = BeatList} (record { list = a; sets = s }) (record { list = b; sets = t })
    same_list a b s t e f = cc

-- they are beats of the schema
pub file_beats : (schema : Schema) (rs : List (List (List ℕ))) (beats : BeatList) → AreBeatsOf schema rs beats → AreFileBeats schema beats
file_beats schema rs beats are = record {
  beats' = record { each = are.listed.fine.each; order = are.listed.fine.order; held = are.set'.held };
  last = are.listed.fine.last;
}
