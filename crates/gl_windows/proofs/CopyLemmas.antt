-- The copies behind a front of windows, in one cycle and from one to the next.
use Rattle.std.proofs.Common.{◌≡◌, ℕ, suc, ◌+◌, ◌-◌, ◌*◌, ◌%◌, ◌<◌, ◌≤◌, List, [], ◌∷◌, ◌++◌, length, drop, map, Option, Some, None, Bool, true, false, not, ◌&&◌, ◌||◌, refl, sym, ap, ◌∙◌, subst, arith, inl, inr}
use Rattle.std.specs.Prelude.{option_to_list, if◌then◌else◌, nat_eq}
use Rattle.std.proofs.lemmas.Bool.{cases_lt, eq-eqb, ne_eqb, and_from, and_left, and_right, or_left, or_right, or_from}
use Rattle.std.proofs.lemmas.List.{drop_all, drop-append-le, append-nil}
use Rattle.std.proofs.Math.Nat.{add-mod_right}
use Rattle.std.proofs.lemmas.Nat.{mod_below}
use Rattle.gl_values.specs.Results.{Row}
use Rattle.gl_wire.specs.Wire.{pending, stream}
use Rattle.gl_wire.specs.Lift.{Visits, visits}
use Rattle.gl_windows.specs.Front.{Front, opening, one_opened, closing, taken, closed_by, states, mid, who_ends}
use Rattle.gl_windows.proofs.Setting.{Setting}
use Rattle.gl_windows.proofs.SliceLemmas.{mod_apart}
use Rattle.gl_wire.proofs.VisitLemmas.{did_none as visits_same, did_one as visits_with}

-- the stream of a visit
abbrev pub of_visit : ℕ × List Row → List Row
of_visit v = v.1

module _ (front : Setting) where
  open front use {size, advance, count, stride, a, ins}

  abbrev who : Visits
  who = who_ends size advance count stride a

  -- one cycle of the machine, where it stands at s and this comes
  pub record Step (c : ℕ) (e : Bool) (o : Option Row) (s : Front) : Type 0 where
    pub is_end : a.ends c ≡ e
    pub is_tuple : a.tuple c ≡ o
    pub tuples : (k : ℕ) → k < count → (ins k).tuple (suc c) ≡ taken count e o (opening advance count o s) k
    pub ends : (k : ℕ) → k < count → (ins k).ends (suc c) ≡ (closing count e o (opening advance count o s) && nat_eq k ((opening advance count o s).closed % count))
    pub visit : who (suc c) ≡ (if closing count e o (opening advance count o s) then Some ((opening advance count o s).closed % count) else None)
    pub turn : (mid size advance count stride a c).closed ≡ (opening advance count o s).closed

  pub step_at : (c : ℕ) → Step c (a.ends c) (a.tuple c) (states size advance count stride a c)
  step_at c = record { is_end = refl; is_tuple = refl; tuples = λ k l. front.law.tuples k c l; ends = λ k l. front.law.ends k c l; visit = refl; turn = refl }

  -- the copies of windows that are open have what came since their first tuple, the others nothing
  pub record Copies (c : ℕ) (s : Front) (base : ℕ) (xs : List Row) : Type 0 where
    pub on : (w : ℕ) → s.closed ≤ w → w < s.opened → (s.is_open (w % count) ≡ true) × (pending (ins (w % count)) (suc c) ≡ drop ((w - base) * advance) xs)
    pub off : (w : ℕ) → s.opened ≤ w → w < s.closed + count → (s.is_open (w % count) ≡ false) × (pending (ins (w % count)) (suc c) ≡ [])

  pub copies_opened : (c : ℕ) (s : Front) (base : ℕ) (xs : List Row) → Copies c s base xs → s.closed ≤ s.opened → s.opened < s.closed + count → length xs ≤ (s.opened - base) * advance → Copies c (one_opened advance count s) base xs
  copies_opened c s base xs h low room full = record {
    on = λ w l m. elim (cases_lt w s.opened) [
      | inl p ↦ (let x = h.on w l p in (or_left (s.is_open (w % count)) _ x.0, x.1))
      | inr p ↦ (let e : s.opened ≡ w = omega (arith, m, p) in
          let x = h.off s.opened (omega arith) room in
          subst (λ v. ((s.is_open (v % count) || nat_eq (v % count) (s.opened % count)) ≡ true) × (pending (ins (v % count)) (suc c) ≡ drop ((v - base) * advance) xs)) e
          (or_right (s.is_open (s.opened % count)) _ (eq-eqb _ _ refl), x.1 ∙ sym (drop_all _ xs full)))
    ];
    off = λ w l m. let x = h.off w (omega (arith, l)) m in
        (or_from _ _ x.0 (ne_eqb _ _ (λ e. mod_apart count s.opened w (omega (arith, l)) (omega (arith, m, low)) (sym e))), x.1);
  }

  pub within : (w : ℕ) → w % count < count
  within w = mod_below w count front.copies_some

  -- one cycle later: o is what each open copy took, but for the one that ended
  module _ (c : ℕ) (e : Bool) (i o : Option Row) (s : Front) (step : Step c e i s) (base : ℕ) (xs : List Row) (h : Copies c (opening advance count i s) base xs) where
    abbrev t : Front
    t = opening advance count i s

    goes_on : (k : ℕ) → k < count → (ins k).ends (suc c) ≡ false → pending (ins k) (suc (suc c)) ≡ pending (ins k) (suc c) ++ option_to_list ((ins k).tuple (suc c))
    goes_on k l p = rw p refl

    stops : (k : ℕ) → k < count → (ins k).ends (suc c) ≡ true → pending (ins k) (suc (suc c)) ≡ []
    stops k l p = rw p refl

    pub copies_next : t.closed ≤ t.opened → t.opened ≤ t.closed + count → (b : Bool) → closing count e i t ≡ b → (b ≡ true → t.closed < t.opened)
        → ((w : ℕ) → t.closed ≤ w → w < t.opened → (b ≡ true → w ≡ t.closed → ⊥) → (ins (w % count)).tuple (suc c) ≡ o)
        → ((w : ℕ) → t.opened ≤ w → w < t.closed + count → (ins (w % count)).tuple (suc c) ≡ None)
        → ((w : ℕ) → w < t.opened → (w - base) * advance ≤ length xs)
        → Copies (suc c) (closed_by count b t) base (xs ++ option_to_list o)
    copies_next low room false p there given none place = record {
      on = λ w l m. let x = h.on w l m in (
        x.0,
        goes_on (w % count) (within w) (step.ends (w % count) (within w) ∙ and_left _ _ p)
            ∙ ap (λ z. pending (ins (w % count)) (suc c) ++ option_to_list z) (given w l m (λ q. absurd (cc)))
            ∙ ap (λ z. z ++ option_to_list o) x.1
            ∙ sym (drop-append-le ((w - base) * advance) xs (option_to_list o) (place w m)),
      );
      off = λ w l m. let x = h.off w l m in (
        x.0,
        goes_on (w % count) (within w) (step.ends (w % count) (within w) ∙ and_left _ _ p)
            ∙ ap (λ z. pending (ins (w % count)) (suc c) ++ option_to_list z) (none w l m)
            ∙ append-nil _ ∙ x.1,
      );
    }
    copies_next low room true p there given none place = record {
      on = λ w l m. let x = h.on w (omega (arith, l)) m in
          let other : nat_eq (w % count) (t.closed % count) ≡ false = ne_eqb _ _ (λ q. mod_apart count t.closed w (omega (arith, l)) (omega (arith, m, room)) (sym q)) in (
            ap (λ z. t.is_open (w % count) && not z) other ∙ ap (λ z. z && true) x.0,
            goes_on (w % count) (within w) (step.ends (w % count) (within w) ∙ and_right _ _ other)
                ∙ ap (λ z. pending (ins (w % count)) (suc c) ++ option_to_list z) (given w (omega (arith, l)) m (λ q r. omega (arith, r, l)))
                ∙ ap (λ z. z ++ option_to_list o) x.1
                ∙ sym (drop-append-le ((w - base) * advance) xs (option_to_list o) (place w m)),
          );
      off = λ w l m. elim (cases_lt w (t.closed + count)) [
        | inl q ↦ (let x = h.off w l q in let y = there refl in
            let other : nat_eq (w % count) (t.closed % count) ≡ false = ne_eqb _ _ (λ r. mod_apart count t.closed w (omega (arith, l, y)) q (sym r)) in (
              and_left _ _ x.0,
              goes_on (w % count) (within w) (step.ends (w % count) (within w) ∙ and_right _ _ other)
                  ∙ ap (λ z. pending (ins (w % count)) (suc c) ++ option_to_list z) (none w l q)
                  ∙ append-nil _ ∙ x.1,
            ))
        | inr q ↦ (let v : w ≡ t.closed + count = omega (arith, m, q) in
            let same : w % count ≡ t.closed % count = ap (λ z. z % count) v ∙ add-mod_right t.closed count in
            let one : nat_eq (w % count) (t.closed % count) ≡ true = eq-eqb _ _ same in (
              ap (λ z. t.is_open (w % count) && not z) one ∙ and_right (t.is_open (w % count)) false refl,
              stops (w % count) (within w) (step.ends (w % count) (within w) ∙ and_from _ _ p one),
            ))
      ];
    }

    -- the stream of the copy that ends
    pub ended_stream : t.closed < t.opened → stream (ins (t.closed % count)) (suc c) ≡ drop ((t.closed - base) * advance) xs ++ option_to_list (taken count e i t (t.closed % count))
    ended_stream l =
        ap (λ z. z ++ option_to_list ((ins (t.closed % count)).tuple (suc c))) (h.on t.closed (omega arith) l).1
        ∙ ap (λ z. drop ((t.closed - base) * advance) xs ++ option_to_list z) (step.tuples (t.closed % count) (within t.closed))

  -- ---- the visits so far

  abbrev pub did : ℕ → ℕ → List (List Row)
  did lo c = map of_visit (visits who ins lo (suc c - lo))

  pub did_none : (lo c : ℕ) → lo ≤ suc c → who (suc c) ≡ None → did lo (suc c) ≡ did lo c
  did_none lo c l h = visits_same of_visit who ins lo c l h

  pub did_one : (lo c k : ℕ) → lo ≤ suc c → who (suc c) ≡ Some k → did lo (suc c) ≡ did lo c ++ stream (ins k) (suc c) ∷ []
  did_one lo c k l h = visits_with of_visit who ins lo c k l h
