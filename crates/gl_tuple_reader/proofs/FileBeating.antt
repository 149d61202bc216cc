-- The beats that records add up to have the records' rows and numbers.
use Rattle.std.proofs.Common.{◌≡◌, ℕ, zero, suc, ◌+◌, ◌<◌, ◌≤◌, Bool, true, false, cond, ◌&&◌, ◌||◌, List, [], ◌∷◌, ◌++◌, length, Option, Some, None, Ok, refl, sym, ap, ◌∙◌, subst, arith, append_assoc, inl, inr}
use Rattle.std.specs.Prelude.{option_map, slice_set, replicate, unwrap_or, find, nat_lt, ◌==◌}
use Rattle.std.specs.Option.{option_map_or}
use Rattle.std.specs.List.{list_any}
use Rattle.std.proofs.lemmas.Bool.{cases_Bool, eq-eqb, ne_eqb, eqb-true, eqb-false, ltb-false, true≢false}
use Rattle.std.proofs.lemmas.List.{append-nil, length-append}
use Rattle.gl_bits.proofs.Bools.{or_join, or_none}
use Rattle.gl_bits.specs.Words.{Word}
use Rattle.gl_schema.specs.declared.schema.Schema.{Schema}
use Rattle.gl_tuples.specs.declared.beats.Beat.{Beat}
use Rattle.gl_tuple_reader.specs.declared.entry.Entry.{Entry}
use Rattle.gl_tuple_reader.specs.declared.entry.Entry.TheVariants.{Tuple, Tick, End}
use Rattle.gl_tuple_reader.specs.declared.filing.Filing.{Filing}
use Rattle.gl_tuples.specs.declared.fault.TupleFault.TheVariants.{StreamTwice, TickTwice, AfterEnd, CycleFalls}
use Rattle.gl_tuple_reader.specs.Entries.{option_bind}
use Rattle.gl_tuple_reader.specs.Filing.{filing_after, next_filing, behind, ended, beat_with, beat_of, whole_before, empty_beat, has_row, open_checked, cycle_checked}
use Rattle.gl_tuple_reader.specs.FileBeats.{in_cycle, row_for, either, row_of_records, number_from, number_of_records, number_at, row_among, row_at, says_tick, tick_at, tick_of_records}
use Rattle.gl_tuple_reader.proofs.Filings.{HasRows, Next, next_tells, bind_ok, ok_is, guard_ok, next_rows, beat_long}
use Rattle.gl_tuple_reader.proofs.Beatings.{RisesTo, CurrentFits, IsFiled, filed_next, EntryFits, entry_fits, rises_push, ok_true}
use Rattle.gl_tuple_reader.proofs.Bringings.{brought, ticked, in_cycle_is, entry_brings, entry_ticks}

either_none : {A : Type 0} (o : Option A) → o ≡ either o None
either_none None = refl
either_none (Some x) = refl

row_set : (rows : List (Option (List Word))) (j k : ℕ) (row : List Word) → j < length rows → row_among (slice_set rows j (Some row)) k ≡ cond (j == k) (Some row) (row_among rows k)
row_set [] j k row lt = absurd (omega arith)
row_set (r ∷ rows) zero zero row lt = refl
row_set (r ∷ rows) zero (suc k) row lt = rw (ne_eqb 0 (suc k) (λ e. absurd (omega (arith, e)))) refl
row_set (r ∷ rows) (suc j) zero row lt = rw (ne_eqb (suc j) 0 (λ e. absurd (omega (arith, e)))) refl
row_set (r ∷ rows) (suc j) (suc k) row lt = row_set rows j k row (omega arith) ∙ ap (λ (b : Bool). cond b (Some row) (row_among rows k)) (same_test j k)
  where
    same_test : (j k : ℕ) → (j == k) ≡ (suc j == suc k)
    same_test j k = elim (cases_Bool (j == k)) [
      | inl t ↦ t ∙ sym (eq-eqb (suc j) (suc k) (ap suc (eqb-true j k t)))
      | inr f ↦ f ∙ sym (ne_eqb (suc j) (suc k) (λ e. eqb-false j k f (let q : j ≡ k = omega (arith, e) in q)))
    ]

row_missing : (rows : List (Option (List Word))) (j : ℕ) → has_row rows j ≡ false → row_among rows j ≡ None
row_missing [] j h = refl
row_missing (None ∷ rows) zero h = refl
row_missing (Some r ∷ rows) zero h = absurd (true≢false h)
row_missing (r ∷ rows) (suc j) h = row_missing rows j h

no_rows : (streams k : ℕ) → row_among (replicate streams None) k ≡ None
no_rows zero k = refl
no_rows (suc streams) zero = refl
no_rows (suc streams) (suc k) = no_rows streams k

-- what an entry leaves of a beat
record Filled (b : Beat) (entry : Entry) (full : Beat) : Type 0 where
  cycle : full.cycle ≡ b.cycle
  number : full.number ≡ b.number
  rows : (k : ℕ) → row_among full.rows k ≡ either (row_among b.rows k) (brought entry k)
  ticks : full.tick ≡ (b.tick || ticked entry)

set_row : (rows : List (Option (List Word))) (j k : ℕ) (row : List Word) → j < length rows → has_row rows j ≡ false → row_among (slice_set rows j (Some row)) k ≡ either (row_among rows k) (cond (j == k) (Some row) None)
set_row rows j k row lt none = row_set rows j k row lt ∙ elim (cases_Bool (j == k)) [
  | inl t ↦ rw t (sym (ap (λ (o : Option (List Word)). either o (Some row)) (ap (row_among rows) (sym (eqb-true j k t)) ∙ row_missing rows j none)))
  | inr f ↦ rw f (either_none (row_among rows k))
]

abbrev EntryIn : ℕ → Entry → Type 0
EntryIn n End = Unit {0}
EntryIn n Tick = Unit {0}
EntryIn n (Tuple j row) = j < n

filled_is : (number : ℕ) (b : Beat) (entry : Entry) (full : Beat) → EntryIn (length b.rows) entry → beat_with number b entry ≡ Ok full → Filled b entry full
filled_is number b End full lt h = subst (Filled b End) (ok_is _ full h) (record { cycle = refl; number = refl; rows = λ k. either_none (row_among b.rows k); ticks = sym (or_none b.tick) })
filled_is number b Tick full lt h =
    let p = guard_ok b.tick (TickTwice number) _ full h in
    subst (Filled b Tick) p.1 (record { cycle = refl; number = refl; rows = λ k. either_none (row_among b.rows k); ticks = sym (ap (λ (t : Bool). t || true) p.0) })
filled_is number b (Tuple j row) full lt h =
    let p = guard_ok (has_row b.rows j) (StreamTwice number) _ full h in
    subst (Filled b (Tuple j row)) p.1 (record { cycle = refl; number = refl; rows = λ k. set_row b.rows j k row lt p.0; ticks = sym (or_none b.tick) })

-- the beat of a cycle
abbrev pub at_cycle : List Beat → ℕ → Option Beat
at_cycle bs c = find (λ b. b.cycle == c) bs

find_other : (bs : List Beat) (b : Beat) (c : ℕ) → (b.cycle == c) ≡ false → at_cycle (bs ++ b ∷ []) c ≡ at_cycle bs c
find_other [] b c e = rw e refl
find_other (d ∷ bs) b c e = ap (cond (d.cycle == c) (Some d)) (find_other bs b c e)

find_new : (bs : List Beat) (b : Beat) (c : ℕ) → at_cycle bs c ≡ None → (b.cycle == c) ≡ true → at_cycle (bs ++ b ∷ []) c ≡ Some b
find_new [] b c none e = rw e refl
find_new (d ∷ bs) b c none e = elim (cases_Bool (d.cycle == c)) [
  | inl t ↦ absurd (cc (rw t at none))
  | inr f ↦ rw f (find_new bs b c (rw f at none) e)
]

rises_first : (d : Beat) (bs : List Beat) (c : ℕ) → RisesTo (d ∷ bs) c → d.cycle < c
rises_first d [] c h = h.1
rises_first d (f ∷ bs) c h = let p = rises_first f bs c h.2 in less d.cycle f.cycle c h.1 p
  where
    less : (x y z : ℕ) → x < y → y < z → x < z
    less x y z p q = omega arith

none_at : (bs : List Beat) (c : ℕ) → RisesTo bs c → at_cycle bs c ≡ None
none_at [] c h = refl
none_at (d ∷ []) c h = rw (ne_eqb d.cycle c (λ e. absurd (not_less d.cycle c h.1 e))) refl
  where
    not_less : (x y : ℕ) → x < y → x ≡ y → ⊥
    not_less x y p e = omega (arith, e)
none_at (d ∷ f ∷ bs) c h = rw (ne_eqb d.cycle c (λ e. absurd (not_less d.cycle f.cycle c h.1 (rises_first f bs c h.2) e))) (none_at (f ∷ bs) c h.2)
  where
    not_less : (x y z : ℕ) → x < y → y < z → x ≡ z → ⊥
    not_less x y z p q e = omega (arith, e)

-- all beats so far
abbrev pub filed_beats : List Beat → Option Beat → List Beat
filed_beats whole None = whole
filed_beats whole (Some b) = whole ++ b ∷ []

-- a beat was there, or none was and it is empty
abbrev pub WasThere : ℕ → ℕ → Option Beat → Beat → Type 0
WasThere number streams None base = (base.number ≡ number) × (base.rows ≡ replicate streams None) × (base.tick ≡ false)
WasThere number streams (Some d) base = d ≡ base

-- the beats with one that an entry was added to: its cycle has that one, all others are as before
pub record Turn (number streams : ℕ) (whole : List Beat) (current : Option Beat) (cycle : ℕ) (front : List Beat) (base : Beat) : Type 0 where
  pub others : (c : ℕ) → (cycle == c) ≡ false → at_cycle front c ≡ at_cycle (filed_beats whole current) c
  pub rises : at_cycle front cycle ≡ None
  pub cycled : base.cycle ≡ cycle
  -- the beat was there, or the cycle is new and the beat is empty
  pub was : WasThere number streams (at_cycle (filed_beats whole current) cycle) base

turn_some : (number streams : ℕ) (whole : List Beat) (d : Beat) (cycle : ℕ) → RisesTo whole d.cycle → (d.cycle < cycle → RisesTo (whole ++ d ∷ []) cycle) → d.cycle ≤ cycle
    → Turn number streams whole (Some d) cycle (whole_before cycle whole (Some d)) (beat_of streams cycle number (Some d))
turn_some number streams whole d cycle rises further le = elim (cases_Bool (d.cycle == cycle)) [
  | inl t ↦ (let e = eqb-true d.cycle cycle t in rw t (record {
    others = λ c f. sym (find_other whole d c (ap (λ (x : ℕ). x == c) e ∙ f));
    rises = ap (at_cycle whole) (sym e) ∙ none_at whole d.cycle rises;
    cycled = e;
    was = subst (λ (o : Option Beat). WasThere number streams o d) (sym (find_new whole d cycle (ap (at_cycle whole) (sym e) ∙ none_at whole d.cycle rises) t)) refl;
  }))
  | inr f ↦ (let r = further (less d.cycle cycle le (eqb-false d.cycle cycle f)) in rw f (record {
    others = λ c g. refl;
    rises = none_at (whole ++ d ∷ []) cycle r;
    cycled = refl;
    was = subst (λ (o : Option Beat). WasThere number streams o (empty_beat streams cycle number)) (sym (none_at (whole ++ d ∷ []) cycle r)) (refl, refl, refl);
  }))
]
  where
    less : (a b : ℕ) → a ≤ b → (a ≡ b → ⊥) → a < b
    less a b le no' = omega (arith, no')

turn_none : (number streams : ℕ) (cycle : ℕ) → Turn number streams [] None cycle [] (empty_beat streams cycle number)
turn_none number streams cycle = record { others = λ c f. refl; rises = refl; cycled = refl; was = (refl, refl, refl) }

-- the records so far are shown by the beats so far
pub record Shows (skipped : ℕ) (schema : Schema) (rs : List (List (List ℕ))) (f : Filing) : Type 0 where
  pub numbers : (c : ℕ) → number_at (filed_beats f.whole.beats f.current) c ≡ number_from (skipped + 1) c rs
  pub rows : (c k : ℕ) → row_at (filed_beats f.whole.beats f.current) c k ≡ row_of_records schema c k rs
  pub ticks : (c : ℕ) → tick_at (filed_beats f.whole.beats f.current) c ≡ tick_of_records c rs

number_from-push : (n c : ℕ) (rs : List (List (List ℕ))) (r : List (List ℕ)) → number_from n c (rs ++ r ∷ []) ≡ either (number_from n c rs) (cond (in_cycle c r) (Some (n + length rs)) None)
number_from-push n c [] r = ap (λ (x : ℕ). cond (in_cycle c r) (Some x) None) (let e : n ≡ n + 0 = omega arith in e)
number_from-push n c (q ∷ rs) r = elim (cases_Bool (in_cycle c q)) [
  | inl t ↦ rw t refl
  | inr f ↦ rw f (number_from-push (n + 1) c rs r ∙ ap (λ (x : ℕ). either (number_from (n + 1) c rs) (cond (in_cycle c r) (Some x) None)) (let e : n + 1 + length rs ≡ n + suc (length rs) = omega arith in e))
]

row_of_records-push : (schema : Schema) (c k : ℕ) (rs : List (List (List ℕ))) (r : List (List ℕ)) → row_of_records schema c k (rs ++ r ∷ []) ≡ either (row_of_records schema c k rs) (cond (in_cycle c r) (row_for schema k r) None)
row_of_records-push schema c k [] r = sym (either_none (cond (in_cycle c r) (row_for schema k r) None))
row_of_records-push schema c k (q ∷ rs) r = ap (either (cond (in_cycle c q) (row_for schema k q) None)) (row_of_records-push schema c k rs r) ∙ either_assoc (cond (in_cycle c q) (row_for schema k q) None) (row_of_records schema c k rs) (cond (in_cycle c r) (row_for schema k r) None)
  where
    either_assoc : {A : Type 0} (x y z : Option A) → either x (either y z) ≡ either (either x y) z
    either_assoc None y z = refl
    either_assoc (Some x) y z = refl

any_push : {A : Type 0} (test : A → Bool) (xs : List A) (x : A) → list_any test (xs ++ x ∷ []) ≡ (list_any test xs || test x)
any_push test [] x = or_none (test x)
any_push test (y ∷ ys) x = ap (λ (b : Bool). test y || b) (any_push test ys x) ∙ sym (or_join (test y) (list_any test ys) (test x))

tick_of_records-push : (c : ℕ) (rs : List (List (List ℕ))) (r : List (List ℕ)) → tick_of_records c (rs ++ r ∷ []) ≡ (tick_of_records c rs || (in_cycle c r && says_tick r))
tick_of_records-push c rs r = any_push (λ (r : List (List ℕ)). in_cycle c r && says_tick r) rs r

-- the number, the row and the tick of a cycle that is added to
number_here : (number streams : ℕ) (o : Option Beat) (base : Beat) → WasThere number streams o base → Some base.number ≡ either (option_map (λ b. b.number) o) (Some number)
number_here number streams None base w = ap Some w.0
number_here number streams (Some d) base w = ap (λ (b : Beat). Some b.number) (sym w)

pub row_here : (number streams : ℕ) (o : Option Beat) (base : Beat) (k : ℕ) → WasThere number streams o base → row_among base.rows k ≡ option_bind o (λ b. row_among b.rows k)
row_here number streams None base k w = ap (λ (rows : List (Option (List Word))). row_among rows k) w.1 ∙ no_rows streams k
row_here number streams (Some d) base k w = ap (λ (b : Beat). row_among b.rows k) (sym w)

pub tick_here : (number streams : ℕ) (o : Option Beat) (base : Beat) → WasThere number streams o base → base.tick ≡ option_map_or (λ (b : Beat). b.tick) o false
tick_here number streams None base w = w.2
tick_here number streams (Some d) base w = ap (λ (b : Beat). b.tick) (sym w)

shows_next : (skipped : ℕ) (schema : Schema) (rs : List (List (List ℕ))) (f : Filing) (r : List (List ℕ)) (g : Filing) (n : Next schema f r g) → Shows skipped schema rs f → f.records ≡ skipped + length rs
    → EntryIn (length (beat_of (length schema.streams) n.cycle (f.records + 1) f.current).rows) n.entry
    → Turn (f.records + 1) (length schema.streams) f.whole.beats f.current n.cycle (whole_before n.cycle f.whole.beats f.current) (beat_of (length schema.streams) n.cycle (f.records + 1) f.current)
    → Shows skipped schema (rs ++ r ∷ []) g
shows_next skipped schema rs f r g n shows counted lt turn =
    let base = beat_of (length schema.streams) n.cycle (f.records + 1) f.current in
    let front = whole_before n.cycle f.whole.beats f.current in
    let full = filled_is (f.records + 1) base n.entry n.beat lt n.filled in
    let same_cycle : n.beat.cycle ≡ n.cycle = full.cycle ∙ turn.cycled in
    subst (Shows skipped schema (rs ++ r ∷ [])) n.is (record {
      numbers = λ c. elim (cases_Bool (n.cycle == c)) [
        | inl t ↦ ap (option_map (λ b. b.number)) (find_new front n.beat c (ap (at_cycle front) (sym (eqb-true n.cycle c t)) ∙ turn.rises) (ap (λ (x : ℕ). x == c) same_cycle ∙ t))
            ∙ ap Some full.number ∙ number_here (f.records + 1) (length schema.streams) _ base turn.was
            ∙ ap (λ (o : Option ℕ). either o (Some (f.records + 1))) (shows.numbers n.cycle)
            ∙ ap (λ (x : ℕ). either (number_from (skipped + 1) x rs) (Some (f.records + 1))) (eqb-true n.cycle c t)
            ∙ ap (λ (x : ℕ). either (number_from (skipped + 1) c rs) (Some x)) (let e : f.records + 1 ≡ skipped + 1 + length rs = omega (arith, counted) in e)
            ∙ ap (λ (b : Bool). either (number_from (skipped + 1) c rs) (cond b (Some (skipped + 1 + length rs)) None)) (sym (in_cycle_is (f.records + 1) r n.cycle c n.cycled ∙ t))
            ∙ sym (number_from-push (skipped + 1) c rs r)
        | inr e ↦ ap (option_map (λ b. b.number)) (find_other front n.beat c (ap (λ (x : ℕ). x == c) same_cycle ∙ e) ∙ turn.others c e) ∙ shows.numbers c
            ∙ either_none (number_from (skipped + 1) c rs) ∙ ap (λ (b : Bool). either (number_from (skipped + 1) c rs) (cond b (Some (skipped + 1 + length rs)) None)) (sym (in_cycle_is (f.records + 1) r n.cycle c n.cycled ∙ e)) ∙ sym (number_from-push (skipped + 1) c rs r)
      ];
      rows = λ c k. elim (cases_Bool (n.cycle == c)) [
        | inl t ↦ ap (λ (o : Option Beat). option_bind o (λ b. row_among b.rows k)) (find_new front n.beat c (ap (at_cycle front) (sym (eqb-true n.cycle c t)) ∙ turn.rises) (ap (λ (x : ℕ). x == c) same_cycle ∙ t))
            ∙ full.rows k
            ∙ ap (λ (o : Option (List Word)). either o (brought n.entry k)) (row_here (f.records + 1) (length schema.streams) _ base k turn.was ∙ shows.rows n.cycle k ∙ ap (λ (x : ℕ). row_of_records schema x k rs) (eqb-true n.cycle c t))
            ∙ ap (either (row_of_records schema c k rs)) (sym (entry_brings (f.records + 1) schema k r n.entry n.entered))
            ∙ ap (λ (b : Bool). either (row_of_records schema c k rs) (cond b (row_for schema k r) None)) (sym (in_cycle_is (f.records + 1) r n.cycle c n.cycled ∙ t))
            ∙ sym (row_of_records-push schema c k rs r)
        | inr e ↦ ap (λ (o : Option Beat). option_bind o (λ b. row_among b.rows k)) (find_other front n.beat c (ap (λ (x : ℕ). x == c) same_cycle ∙ e) ∙ turn.others c e) ∙ shows.rows c k
            ∙ either_none (row_of_records schema c k rs) ∙ ap (λ (b : Bool). either (row_of_records schema c k rs) (cond b (row_for schema k r) None)) (sym (in_cycle_is (f.records + 1) r n.cycle c n.cycled ∙ e)) ∙ sym (row_of_records-push schema c k rs r)
      ];
      ticks = λ c. elim (cases_Bool (n.cycle == c)) [
        | inl t ↦ ap (λ (o : Option Beat). option_map_or (λ (b : Beat). b.tick) o false) (find_new front n.beat c (ap (at_cycle front) (sym (eqb-true n.cycle c t)) ∙ turn.rises) (ap (λ (x : ℕ). x == c) same_cycle ∙ t))
            ∙ full.ticks
            ∙ ap (λ (b : Bool). b || ticked n.entry) (tick_here (f.records + 1) (length schema.streams) _ base turn.was ∙ shows.ticks n.cycle ∙ ap (λ (x : ℕ). tick_of_records x rs) (eqb-true n.cycle c t))
            ∙ ap (λ (b : Bool). tick_of_records c rs || b) (sym (ap (λ (b : Bool). b && says_tick r) (in_cycle_is (f.records + 1) r n.cycle c n.cycled ∙ t) ∙ entry_ticks (f.records + 1) schema r n.entry n.entered))
            ∙ sym (tick_of_records-push c rs r)
        | inr e ↦ ap (λ (o : Option Beat). option_map_or (λ (b : Beat). b.tick) o false) (find_other front n.beat c (ap (λ (x : ℕ). x == c) same_cycle ∙ e) ∙ turn.others c e) ∙ shows.ticks c
            ∙ sym (or_none (tick_of_records c rs)) ∙ ap (λ (b : Bool). tick_of_records c rs || b) (sym (ap (λ (b : Bool). b && says_tick r) (in_cycle_is (f.records + 1) r n.cycle c n.cycled ∙ e))) ∙ sym (tick_of_records-push c rs r)
      ];
    })

entry_in : (schema : Schema) (n : ℕ) (entry : Entry) → EntryFits schema entry → n ≡ length schema.streams → EntryIn n entry
entry_in schema n End fits e = tt
entry_in schema n Tick fits e = tt
entry_in schema n (Tuple j row) fits e = subst (λ (m : ℕ). j < m) (sym e) fits.0

pub turn_is : (schema : Schema) (number : ℕ) (whole : List Beat) (current : Option Beat) (cycle : ℕ) → CurrentFits schema whole current → open_checked number current ≡ Ok tt → cycle_checked number cycle current ≡ Ok tt
    → Turn number (length schema.streams) whole current cycle (whole_before cycle whole current) (beat_of (length schema.streams) cycle number current)
turn_is schema number whole None cycle c a b = subst (λ (w : List Beat). Turn number (length schema.streams) w None cycle w (empty_beat (length schema.streams) cycle number)) (sym c) (turn_none number (length schema.streams) cycle)
turn_is schema number whole (Some d) cycle c a b =
    turn_some number (length schema.streams) whole d cycle c.rises (λ lt. rises_push whole d cycle c.rises (ok_true d.end (AfterEnd number) a) lt) (ltb-false cycle d.cycle (ok_true (nat_lt cycle d.cycle) (CycleFalls number) b))

-- the state after records, with what it shows
pub record Stands (skipped : ℕ) (schema : Schema) (rs : List (List (List ℕ))) (f : Filing) : Type 0 where
  pub filed : IsFiled schema f
  pub long : HasRows (length schema.streams) f.current
  pub counted : f.records ≡ skipped + length rs
  pub shows : Shows skipped schema rs f

pub stands_next : (skipped : ℕ) (schema : Schema) (rs : List (List (List ℕ))) (f : Filing) (r : List (List ℕ)) (g : Filing) → Stands skipped schema rs f → Next schema f r g → Stands skipped schema (rs ++ r ∷ []) g
stands_next skipped schema rs f r g s n = record {
  filed = filed_next schema f r g s.filed n;
  long = next_rows schema f r g s.long n;
  counted = (let e = ap (λ (g : Filing). g.records) n.is in let l = length-append rs (r ∷ []) in omega (arith, e, l, s.counted));
  shows = shows_next skipped schema rs f r g n s.shows s.counted
      (entry_in schema _ n.entry (entry_fits (f.records + 1) schema r n.entry n.entered) (beat_long (length schema.streams) n.cycle (f.records + 1) f.current s.long))
      (turn_is schema (f.records + 1) f.whole.beats f.current n.cycle s.filed.current n.opened n.rises);
}

pub stands_after : (skipped : ℕ) (schema : Schema) (rs us : List (List (List ℕ))) (f g : Filing) → Stands skipped schema rs f → filing_after schema us f ≡ Ok g → Stands skipped schema (rs ++ us) g
stands_after skipped schema rs [] f g s e = subst (λ (x : List (List (List ℕ))). Stands skipped schema x g) (sym (append-nil rs)) (subst (Stands skipped schema rs) (ok_is f g e) s)
stands_after skipped schema rs (u ∷ us) f g s e =
    let b = bind_ok (next_filing schema f u) (filing_after schema us) g e in
    subst (λ (x : List (List (List ℕ))). Stands skipped schema x g) (append_assoc rs (u ∷ []) us)
    (stands_after skipped schema (rs ++ u ∷ []) us b.0 g (stands_next skipped schema rs f u b.0 s (next_tells schema f u b.0 b.1)) b.2)

pub stands_first : (skipped : ℕ) (schema : Schema) → Stands skipped schema [] (behind skipped schema)
stands_first skipped schema = record { filed = record { whole = tt; current = refl }; long = tt; counted = (let z : skipped ≡ skipped + 0 = omega arith in z); shows = record { numbers = λ c. refl; rows = λ c k. refl; ticks = λ c. refl } }

-- the end changes neither numbers nor rows nor ticks
number_ended : (bs : List Beat) (b : Beat) (c : ℕ) → number_at (bs ++ record b { end = true } ∷ []) c ≡ number_at (bs ++ b ∷ []) c
number_ended [] b c = elim (cases_Bool (b.cycle == c)) [ inl t ↦ rw t refl | inr f ↦ rw f refl ]
number_ended (d ∷ bs) b c = elim (cases_Bool (d.cycle == c)) [ inl t ↦ rw t refl | inr f ↦ rw f (number_ended bs b c) ]

row_ended : (bs : List Beat) (b : Beat) (c k : ℕ) → row_at (bs ++ record b { end = true } ∷ []) c k ≡ row_at (bs ++ b ∷ []) c k
row_ended [] b c k = elim (cases_Bool (b.cycle == c)) [ inl t ↦ rw t refl | inr f ↦ rw f refl ]
row_ended (d ∷ bs) b c k = elim (cases_Bool (d.cycle == c)) [ inl t ↦ rw t refl | inr f ↦ rw f (row_ended bs b c k) ]

tick_ended : (bs : List Beat) (b : Beat) (c : ℕ) → tick_at (bs ++ record b { end = true } ∷ []) c ≡ tick_at (bs ++ b ∷ []) c
tick_ended [] b c = elim (cases_Bool (b.cycle == c)) [ inl t ↦ rw t refl | inr f ↦ rw f refl ]
tick_ended (d ∷ bs) b c = elim (cases_Bool (d.cycle == c)) [ inl t ↦ rw t refl | inr f ↦ rw f (tick_ended bs b c) ]

-- after a record there is a current beat
record HasCurrent (f : Filing) : Type 0 where
  beat : Beat
  is : f.current ≡ Some beat

has_current : (schema : Schema) (rs : List (List (List ℕ))) (f g : Filing) → HasCurrent f → filing_after schema rs f ≡ Ok g → HasCurrent g
has_current schema [] f g h e = subst HasCurrent (ok_is f g e) h
has_current schema (r ∷ rs) f g h e = let b = bind_ok (next_filing schema f r) (filing_after schema rs) g e in let n = next_tells schema f r b.0 b.1 in
    has_current schema rs b.0 g (subst HasCurrent n.is (record { beat = n.beat; is = refl })) b.2

after_one : (schema : Schema) (r : List (List ℕ)) (rs : List (List (List ℕ))) (f g : Filing) → filing_after schema (r ∷ rs) f ≡ Ok g → HasCurrent g
after_one schema r rs f g e = let b = bind_ok (next_filing schema f r) (filing_after schema rs) g e in let n = next_tells schema f r b.0 b.1 in
    has_current schema rs b.0 g (subst HasCurrent n.is (record { beat = n.beat; is = refl })) b.2

ended_numbers : (streams : ℕ) (f : Filing) (b : Beat) (c : ℕ) → f.current ≡ Some b → number_at (ended streams f) c ≡ number_at (filed_beats f.whole.beats f.current) c
ended_numbers streams f b c e = ap (λ (o : Option Beat). number_at (f.whole.beats ++ record (unwrap_or o (empty_beat streams 0 0)) { end = true } ∷ []) c) e ∙ number_ended f.whole.beats b c ∙ ap (λ (o : Option Beat). number_at (filed_beats f.whole.beats o) c) (sym e)

ended_rows : (streams : ℕ) (f : Filing) (b : Beat) (c k : ℕ) → f.current ≡ Some b → row_at (ended streams f) c k ≡ row_at (filed_beats f.whole.beats f.current) c k
ended_rows streams f b c k e = ap (λ (o : Option Beat). row_at (f.whole.beats ++ record (unwrap_or o (empty_beat streams 0 0)) { end = true } ∷ []) c k) e ∙ row_ended f.whole.beats b c k ∙ ap (λ (o : Option Beat). row_at (filed_beats f.whole.beats o) c k) (sym e)

ended_ticks : (streams : ℕ) (f : Filing) (b : Beat) (c : ℕ) → f.current ≡ Some b → tick_at (ended streams f) c ≡ tick_at (filed_beats f.whole.beats f.current) c
ended_ticks streams f b c e = ap (λ (o : Option Beat). tick_at (f.whole.beats ++ record (unwrap_or o (empty_beat streams 0 0)) { end = true } ∷ []) c) e ∙ tick_ended f.whole.beats b c ∙ ap (λ (o : Option Beat). tick_at (filed_beats f.whole.beats o) c) (sym e)

empty_number : (streams c : ℕ) → number_at (record (empty_beat streams 0 0) { end = true } ∷ []) c ≡ cond (0 == c) (Some 0) None
empty_number streams c = elim (cases_Bool (0 == c)) [ inl t ↦ rw t refl | inr f ↦ rw f refl ]

empty_row : (streams c k : ℕ) → row_at (record (empty_beat streams 0 0) { end = true } ∷ []) c k ≡ None
empty_row streams c k = elim (cases_Bool (0 == c)) [ inl t ↦ rw t (no_rows streams k) | inr f ↦ rw f refl ]

empty_tick : (streams c : ℕ) → tick_at (record (empty_beat streams 0 0) { end = true } ∷ []) c ≡ false
empty_tick streams c = elim (cases_Bool (0 == c)) [ inl t ↦ rw t refl | inr f ↦ rw f refl ]

pub shown_numbers : (skipped : ℕ) (schema : Schema) (rs : List (List (List ℕ))) (f : Filing) (c : ℕ) → filing_after schema rs (behind skipped schema) ≡ Ok f → number_at (ended (length schema.streams) f) c ≡ number_of_records skipped c rs
shown_numbers skipped schema [] f c e = ap (λ (f : Filing). number_at (ended (length schema.streams) f) c) (sym (ok_is (behind skipped schema) f e)) ∙ empty_number (length schema.streams) c
shown_numbers skipped schema (r ∷ rs) f c e = let h = after_one schema r rs (behind skipped schema) f e in
    ended_numbers (length schema.streams) f h.beat c h.is ∙ (stands_after skipped schema [] (r ∷ rs) (behind skipped schema) f (stands_first skipped schema) e).shows.numbers c

pub shown_rows : (skipped : ℕ) (schema : Schema) (rs : List (List (List ℕ))) (f : Filing) (c k : ℕ) → filing_after schema rs (behind skipped schema) ≡ Ok f → row_at (ended (length schema.streams) f) c k ≡ row_of_records schema c k rs
shown_rows skipped schema [] f c k e = ap (λ (f : Filing). row_at (ended (length schema.streams) f) c k) (sym (ok_is (behind skipped schema) f e)) ∙ empty_row (length schema.streams) c k
shown_rows skipped schema (r ∷ rs) f c k e = let h = after_one schema r rs (behind skipped schema) f e in
    ended_rows (length schema.streams) f h.beat c k h.is ∙ (stands_after skipped schema [] (r ∷ rs) (behind skipped schema) f (stands_first skipped schema) e).shows.rows c k

pub shown_ticks : (skipped : ℕ) (schema : Schema) (rs : List (List (List ℕ))) (f : Filing) (c : ℕ) → filing_after schema rs (behind skipped schema) ≡ Ok f → tick_at (ended (length schema.streams) f) c ≡ tick_of_records c rs
shown_ticks skipped schema [] f c e = ap (λ (f : Filing). tick_at (ended (length schema.streams) f) c) (sym (ok_is (behind skipped schema) f e)) ∙ empty_tick (length schema.streams) c
shown_ticks skipped schema (r ∷ rs) f c e = let h = after_one schema r rs (behind skipped schema) f e in
    ended_ticks (length schema.streams) f h.beat c h.is ∙ (stands_after skipped schema [] (r ∷ rs) (behind skipped schema) f (stands_first skipped schema) e).shows.ticks c
