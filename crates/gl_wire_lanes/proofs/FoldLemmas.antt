-- A table gives the fold of the rows of a slot's stream.
use Rattle.std.proofs.Common.{◌≡◌, ℕ, zero, suc, List, [], ◌∷◌, ◌++◌, Bool, true, false, refl, sym, ap, ◌∙◌}
use Rattle.std.specs.Prelude.{fold, not, ◌||◌, ◌&&◌, if◌then◌else◌, nat_eq}
use Rattle.std.proofs.lemmas.Bool.{eqb-true}
use Rattle.std.proofs.lemmas.List.{append-nil}
use Rattle.std.proofs.lemmas.List.Sums.{fold-append}
use Rattle.gl_wire_lanes.specs.Keeping.{IsKept, Steps}
use Rattle.gl_wire_lanes.specs.Lanes.{Lane, Begins, IsFresh, is_open, row_in, rows_before, rows_now}
use Rattle.gl_wire_lanes.specs.Laws.{AheadIsKept, EventsAreFresh, TablesFold}

module _ {A B : Type 0} (step : A → B → A) (initial : A) where
  -- what is known of a slot: while its stream is open its word is the fold of its rows, and else it has none
  abbrev known : Bool → A → List B → Type 0
  known o w rows = (o ≡ true → w ≡ fold step initial rows) × (o ≡ false → rows ≡ [])

  -- one cycle, over truth values alone: whether it is the slot's own, whether its stream ends and begins, whether a row comes, whether it was open
  known_next : (same e f v o : Bool) (w n x : A) (rows own : List B) → x ≡ (if same && (v || f) then n else w)
      → (same ≡ true → f ≡ true → n ≡ fold step initial (rows ++ own)) → (same ≡ true → v ≡ true → n ≡ fold step initial (rows ++ own))
      → (v ≡ false → own ≡ []) → (same ≡ true → v ≡ true → f ≡ not o) → known o w rows
      → known (if same then (if e then false else (f || o)) else o) x (if same then (if e then [] else rows ++ own) else rows)
  known_next false e f v o w n x rows own is begun came none fresh h = (λ p. is ∙ h.0 p, h.1)
  known_next true true f v o w n x rows own is begun came none fresh h = (λ p. absurd (cc), λ p. refl)
  known_next true false true true o w n x rows own is begun came none fresh h = (λ p. is ∙ begun refl refl, λ p. absurd (cc))
  known_next true false true false o w n x rows own is begun came none fresh h = (λ p. is ∙ begun refl refl, λ p. absurd (cc))
  known_next true false false true o w n x rows own is begun came none fresh h = (λ p. is ∙ came refl refl, λ p. absurd (let q = fresh refl refl in was q p))
    where
      was : false ≡ not o → o ≡ false → ⊥
      was q p = let z : not o ≡ true = ap not p in cc (q, z)
  known_next true false false false o w n x rows own is begun came none fresh h =
      let same_rows : rows ++ own ≡ rows = ap (λ l. rows ++ l) (none refl) ∙ append-nil rows in
      (λ p. is ∙ h.0 p ∙ ap (fold step initial) (sym same_rows), λ p. same_rows ∙ h.1 p)

  row_step : (v : Bool) (a : A) (r : B) (rows : List B) → a ≡ fold step initial rows → (if v then step a r else a) ≡ fold step initial (rows ++ (if v then r ∷ [] else []))
  row_step true a r rows e = ap (λ (s : A). step s r) e ∙ sym (fold-append step initial rows (r ∷ []))
  row_step false a r rows e = e ∙ ap (fold step initial) (sym (append-nil rows))

  no_rows : (v : Bool) (r : B) → v ≡ false → (if v then r ∷ [] else []) ≡ []
  no_rows true r e = absurd (cc)
  no_rows false r e = refl

  module _ (l : Lane) (row : ℕ → B) (before now : ℕ → A) (b : Begins l) (t : IsKept initial l before now) (steps : Steps step l row before now) where
    abbrev known_at : ℕ → ℕ → Type 0
    known_at c k = known (is_open l k c) (t.word c k) (rows_before l row k c)

    -- before cycle 1 no stream is open, and no slot has rows
    shut : (k : ℕ) → is_open l k 1 ≡ false
    shut k = by (nat_eq (l.slot 0) k) (l.ends 0) (l.first 0) b.no_first
      where
        by : (s e f : Bool) → f ≡ false → (if s then (if e then false else (f || false)) else false) ≡ false
        by true true f p = refl
        by true false false p = refl
        by true false true p = absurd (cc)
        by false e f p = refl

    empty : (k : ℕ) → rows_before l row k 1 ≡ []
    empty k = by (nat_eq (l.slot 0) k) (l.ends 0) (row_in l row 0) (no_rows (l.valid 0) (row 0) b.no_row)
      where
        by : (s e : Bool) (own : List B) → own ≡ [] → (if s then (if e then [] else [] ++ own) else []) ≡ []
        by true true own p = refl
        by true false own p = p
        by false e own p = refl

    -- the state that a cycle takes, where it begins a stream exactly if none is open
    taken : (c : ℕ) → l.first (suc c) ≡ not (is_open l (l.slot (suc c)) (suc c)) → known_at (suc c) (l.slot (suc c)) → before (suc c) ≡ fold step initial (rows_before l row (l.slot (suc c)) (suc c))
    taken c fresh h = by (l.first (suc c)) refl
      where
        open_by : (f o : Bool) → f ≡ not o → f ≡ true → o ≡ false
        open_by f true p q = absurd (cc)
        open_by f false p q = refl

        shut_by : (f o : Bool) → f ≡ not o → f ≡ false → o ≡ true
        shut_by f true p q = refl
        shut_by f false p q = absurd (cc)

        word_of : (d : ℕ) → l.first (suc d) ≡ false → is_open l (l.slot (suc d)) (suc d) ≡ true → before (suc d) ≡ t.word (suc d) (l.slot (suc d))
        word_of zero p o = absurd (let z = shut (l.slot 1) in cc (z, o))
        word_of (suc d) p o = t.takes d p

        by : (f : Bool) → l.first (suc c) ≡ f → before (suc c) ≡ fold step initial (rows_before l row (l.slot (suc c)) (suc c))
        by true p = t.begins c p ∙ ap (fold step initial) (sym (h.1 (open_by (l.first (suc c)) (is_open l (l.slot (suc c)) (suc c)) fresh p)))
        by false p =
            let o = shut_by (l.first (suc c)) (is_open l (l.slot (suc c)) (suc c)) fresh p in
            word_of c p o ∙ h.0 o

    given : (c : ℕ) → l.first (suc c) ≡ not (is_open l (l.slot (suc c)) (suc c)) → known_at (suc c) (l.slot (suc c)) → now (suc c) ≡ fold step initial (rows_now l row (suc c))
    given c fresh h = steps c ∙ row_step (l.valid (suc c)) (before (suc c)) (row (suc c)) (rows_before l row (l.slot (suc c)) (suc c)) (taken c fresh h)

    first_fresh : (c : ℕ) → l.first c ≡ true → l.first c ≡ not (is_open l (l.slot c) c)
    first_fresh c p = p ∙ sym (ap not (b.only c p))

    -- what the slot's own cycle gives
    own : (c k : ℕ) → known_at (suc c) (l.slot (suc c)) → nat_eq (l.slot (suc c)) k ≡ true → l.first (suc c) ≡ not (is_open l (l.slot (suc c)) (suc c))
        → now (suc c) ≡ fold step initial (rows_before l row k (suc c) ++ row_in l row (suc c))
    own c k h s fresh = given c fresh h ∙ ap (λ j. fold step initial (rows_before l row j (suc c) ++ row_in l row (suc c))) (eqb-true (l.slot (suc c)) k s)

    all_known : (c k : ℕ) → known_at (suc c) k
    all_known zero k = (λ p. absurd (let z = shut k in cc (z, p)), λ p. empty k)
    all_known (suc c) k =
        known_next (nat_eq (l.slot (suc c)) k) (l.ends (suc c)) (l.first (suc c)) (l.valid (suc c)) (is_open l k (suc c)) (t.word (suc c) k) (now (suc c)) (t.word (suc (suc c)) k)
        (rows_before l row k (suc c)) (row_in l row (suc c)) (t.leaves c k)
        (λ s f. own c k (all_known c (l.slot (suc c))) s (first_fresh (suc c) f))
        (λ s v. own c k (all_known c (l.slot (suc c))) s (b.rows (suc c) v))
        (no_rows (l.valid (suc c)) (row (suc c)))
        (λ s v. b.rows (suc c) v ∙ ap (λ j. not (is_open l j (suc c))) (eqb-true (l.slot (suc c)) k s))
        (all_known c k)

    pub folded : (c : ℕ) → IsFresh l (suc c) → now (suc c) ≡ fold step initial (rows_now l row (suc c))
    folded c fresh = given c fresh (all_known c (l.slot (suc c)))

pub tables_fold : {A B : Type 0} → TablesFold A B
tables_fold step initial l row before now b t steps = folded step initial l row before now b t steps

pub events_are_fresh : EventsAreFresh
events_are_fresh l b c = by (l.valid c) (l.ends c) refl refl
  where
    by : (v e : Bool) → l.valid c ≡ v → l.ends c ≡ e → (v || e) ≡ true → IsFresh l c
    by true e p q r = b.rows c p
    by false true p q r = b.ends c q
    by false false p q r = absurd (cc)

pub ahead_is_kept : {A : Type 0} → AheadIsKept A
ahead_is_kept initial l before now t = record {
  word = t.word;
  begins = t.begins;
  takes = λ c p. t.takes (suc c) p ∙ t.reads c ∙ sym (t.leaves c (l.slot (suc (suc c))));
  leaves = t.leaves;
}
