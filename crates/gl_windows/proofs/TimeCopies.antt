-- The copies behind a front of windows of time have what their windows took, and their visits are what those took that ended.
use Rattle.std.proofs.Common.{◌≡◌, ℕ, zero, suc, ◌+◌, ◌-◌, ◌%◌, ◌<◌, ◌≤◌, List, [], ◌∷◌, ◌++◌, Option, Some, None, Bool, true, false, ◌&&◌, refl, sym, ap, ◌∙◌, arith, inl, inr}
use Rattle.std.specs.Prelude.{if◌then◌else◌, nat_eq, nat_le, nat_lt, option_to_list}
use Rattle.std.proofs.Math.Nat.{add-mod_right}
use Rattle.std.proofs.lemmas.Bool.{cases_lt, eq-eqb, ne_eqb, and_from, and_left, and_right}
use Rattle.std.proofs.lemmas.List.{append-nil}
use Rattle.std.proofs.lemmas.Nat.{mod_below}
use Rattle.gl_values.specs.Results.{Row}
use Rattle.gl_bits.proofs.Bools.{same_test}
use Rattle.gl_wire.specs.Wire.{Carried, pending, stream}
use Rattle.gl_wire.proofs.VisitLemmas.{did, did_none, did_one}
use Rattle.gl_windows.specs.Taking.{content, visited}
use Rattle.gl_windows.specs.TimeFront.{TimeMachine, IsTimeFront, states, opened_by, closes_at, copy_for, last_row, open_row, turns_in, who_closes}
use Rattle.gl_windows.proofs.TimeSetting.{IsTimed}
use Rattle.gl_windows.proofs.SliceLemmas.{mod_apart, mod_hits}
use Rattle.gl_windows.proofs.TimeFlow.{unopened}
use Rattle.gl_windows.proofs.TimePhases.{ended, none_left, room}

-- the rows of a visit
abbrev pub rows_of : ℕ × List Row → List Row
rows_of v = v.1

-- less than all copies apart, two windows have different ones
pub copies_apart : (m : TimeMachine) (w v : ℕ) → w < v → v < w + m.count → copy_for m w ≡ copy_for m v → ⊥
copies_apart m w v l n e = mod_apart m.count (w + (m.count - 1)) (v + (m.count - 1)) (omega (arith, l)) (omega (arith, n)) e

-- each copy is that of one of so many windows in a row
pub copy_hits : (m : TimeMachine) (base k : ℕ) → k < m.count → (w : ℕ) × (base ≤ w) × (w < base + m.count) × (copy_for m w ≡ k)
copy_hits m base k l =
    let x = mod_hits m.count (base + (m.count - 1)) k l in
    let e : x.0 - (m.count - 1) + (m.count - 1) ≡ x.0 = omega (arith, x.1) in
    (x.0 - (m.count - 1), omega (arith, x.1), omega (arith, x.1, x.2), ap (λ z. z % m.count) e ∙ x.3)

module _ (m : TimeMachine) (ok : IsTimed m) (ins : ℕ → Carried) (law : IsTimeFront m ins) where
  abbrev closed : ℕ → ℕ
  closed c = (states m c).closed

  pub within : (w : ℕ) → copy_for m w < m.count
  within w = mod_below (w + (m.count - 1)) m.count ok.copies_some

  -- the window behind all copies goes to the copy of the oldest one
  next_copy : (c w : ℕ) → w ≡ closed c + m.count → copy_for m w ≡ copy_for m (closed c)
  next_copy c w e =
      let sum : w + (m.count - 1) ≡ closed c + (m.count - 1) + m.count = omega (arith, e) in
      ap (λ z. z % m.count) sum ∙ add-mod_right (closed c + (m.count - 1)) m.count

  pub copy_holds : (c w : ℕ) → closed c ≤ w → w < closed c + m.count → pending (ins (copy_for m w)) (suc c) ≡ content m c w
  copy_holds zero w l n = let x = law.no_end (copy_for m w) (within w) in let y = law.no_tuple (copy_for m w) (within w) in rw (x, y) refl
  copy_holds (suc c) w l n = by (closes_at m c) refl l n (copy_holds c w)
    where
      goes_on : (closed c ≤ w → w < closed c + m.count → pending (ins (copy_for m w)) (suc c) ≡ content m c w) → closed c ≤ w → w < closed c + m.count → (ins (copy_for m w)).ends (suc c) ≡ false → pending (ins (copy_for m w)) (suc (suc c)) ≡ content m (suc c) w
      goes_on held low high calm =
          rw calm (ap (λ z. z ++ option_to_list ((ins (copy_for m w)).tuple (suc c))) (held low high) ∙ ap (λ (o : Option Row). content m c w ++ option_to_list o) (law.tuples w c low high))

      by : (b : Bool) → closes_at m c ≡ b → (if b then suc (closed c) else closed c) ≤ w → w < (if b then suc (closed c) else closed c) + m.count → (closed c ≤ w → w < closed c + m.count → pending (ins (copy_for m w)) (suc c) ≡ content m c w) → pending (ins (copy_for m w)) (suc (suc c)) ≡ content m (suc c) w
      by false p low high held = goes_on held low high (law.ends w c low high ∙ and_left _ _ p)
      by true p low high held = elim (cases_lt w (closed c + m.count)) [
        | inl q ↦ goes_on held (omega (arith, low)) q (law.ends w c (omega (arith, low)) q ∙ and_right _ _ (ne_eqb w (closed c) (λ e. omega (arith, e, low))))
        | inr q ↦
            let v : w ≡ closed c + m.count = omega (arith, high, q) in
            let e : (ins (copy_for m (closed c))).ends (suc c) ≡ true = law.ends (closed c) c (omega arith) (omega (arith, ok.copies_some)) ∙ and_from _ _ p (eq-eqb (closed c) (closed c) refl) in
            let none : pending (ins (copy_for m (closed c))) (suc (suc c)) ≡ [] = rw e refl in
            ap (λ k. pending (ins k) (suc (suc c))) (next_copy c w v) ∙ none ∙ sym (unopened m ok (suc c) w (omega (arith, room m ok c, v)))
      ]

  -- which copy takes an end
  pub copy_ends : (k c : ℕ) → k < m.count → (ins k).ends (suc c) ≡ (closes_at m c && nat_eq k (copy_for m (closed c)))
  copy_ends k c l =
      let x = copy_hits m (closed c) k l in
      ap (λ j. (ins j).ends (suc c)) (sym x.3) ∙ law.ends x.0 c x.1 x.2
      ∙ ap (λ z. closes_at m c && z) (same_test x.0 (closed c) k (copy_for m (closed c)) (λ e. sym x.3 ∙ ap (copy_for m) e) (λ e. same x.0 x.1 x.2 (x.3 ∙ e)))
    where
      same : (w : ℕ) → closed c ≤ w → w < closed c + m.count → copy_for m w ≡ copy_for m (closed c) → w ≡ closed c
      same w low high e = elim (cases_lt (closed c) w) [
        | inl n ↦ absurd (copies_apart m (closed c) w n high (sym e))
        | inr n ↦ omega (arith, n, low)
      ]

  out_of : (inside ends e : Bool) (one o : Option Row) (r : Row) → (if inside then (if ends then one else open_row e o) else None) ≡ Some r → ends ≡ false → (e ≡ false) × (o ≡ Some r)
  out_of false ends e one o r h n = absurd (cc)
  out_of true true e one o r h n = absurd (cc)
  out_of true false true one o r h n = absurd (cc)
  out_of true false false one o r h n = (refl, h)

  -- what a copy takes without an end comes of the source
  pub copy_tuple : (k c : ℕ) (r : Row) → k < m.count → (ins k).tuple (suc c) ≡ Some r → (ins k).ends (suc c) ≡ false → (m.a.ends c ≡ false) × (m.a.tuple c ≡ Some r)
  copy_tuple k c r l h n =
      let x = copy_hits m (closed c) k l in
      out_of (nat_le (closed c) x.0 && nat_lt x.0 (opened_by (m.tick c) (states m c))) (closes_at m c && nat_eq x.0 (closed c)) (m.a.ends c)
      (last_row (m.tick c) (m.a.ends c) (m.a.tuple c) (states m c)) (m.a.tuple c) r
      (sym (law.tuples x.0 c x.1 x.2) ∙ ap (λ j. (ins j).tuple (suc c)) x.3 ∙ h)
      (sym (law.ends x.0 c x.1 x.2) ∙ ap (λ j. (ins j).ends (suc c)) x.3 ∙ n)

  -- behind a flush no copy has begun a stream
  pub copies_empty : (u k : ℕ) → m.a.ends u ≡ true → k < m.count → pending (ins k) (u + turns_in m + 2) ≡ []
  copies_empty u k p l =
      let x = ended m ok u p in
      let v = suc u + turns_in m in
      let e : suc v ≡ u + turns_in m + 2 = omega arith in
      let w = copy_hits m (closed v) k l in
      ap (λ i. pending (ins k) i) (sym e) ∙ ap (λ j. pending (ins j) (suc v)) (sym w.3) ∙ copy_holds v w.0 w.1 w.2
      ∙ unopened m ok v w.0 (omega (arith, w.1, none_left m ok u x.base x.q x.d x.by))

  -- the stream of the copy that ends is what its window took
  pub ended_rows : (c : ℕ) → stream (ins (copy_for m (closed c))) (suc c) ≡ content m (suc c) (closed c)
  ended_rows c =
      let here : closed c < closed c + m.count = omega (arith, ok.copies_some) in
      ap (λ z. z ++ option_to_list ((ins (copy_for m (closed c))).tuple (suc c))) (copy_holds c (closed c) (omega arith) here)
      ∙ ap (λ (o : Option Row). content m c (closed c) ++ option_to_list o) (law.tuples (closed c) c (omega arith) here)

  -- the visits so far, in order
  pub visits_are : (c : ℕ) → did rows_of (who_closes m) ins 0 c ≡ visited m c
  visits_are zero = refl
  visits_are (suc c) = by (closes_at m c) refl (visits_are c)
    where
      by : (b : Bool) → closes_at m c ≡ b → did rows_of (who_closes m) ins 0 c ≡ visited m c → did rows_of (who_closes m) ins 0 (suc c) ≡ visited m c ++ (if b then content m (suc c) (closed c) ∷ [] else [])
      by false p before =
          let seen : who_closes m (suc c) ≡ None = ap (λ (b : Bool). if b then Some (copy_for m (closed c)) else None) p in
          did_none rows_of (who_closes m) ins 0 c (omega arith) seen ∙ before ∙ sym (append-nil (visited m c))
      by true p before =
          let seen : who_closes m (suc c) ≡ Some (copy_for m (closed c)) = ap (λ (b : Bool). if b then Some (copy_for m (closed c)) else None) p in
          did_one rows_of (who_closes m) ins 0 c (copy_for m (closed c)) (omega arith) seen
          ∙ ap (λ (ps : List (List Row)). ps ++ stream (ins (copy_for m (closed c))) (suc c) ∷ []) before
          ∙ ap (λ (xs : List Row). visited m c ++ xs ∷ []) (ended_rows c)
