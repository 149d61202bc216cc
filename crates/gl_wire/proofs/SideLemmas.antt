-- What one side brings: each tuple and end belongs to the beat whose interval is open.
use Rattle.std.proofs.Common.{◌≡◌, ℕ, suc, ◌+◌, ◌-◌, ◌<◌, ◌≤◌, [], length, Option, Some, None, Bool, true, false, refl, sym, ap, ◌∙◌, arith, inl, inr, length-append}
use Rattle.std.proofs.lemmas.Bool.{cases_lt, cases_order, false_from_ne_true}
use Rattle.gl_bits.proofs.Options.{some_same}
use Rattle.gl_algebra.specs.declared.figures.Figures.{Figures}
use Rattle.gl_values.specs.Results.{Row}
use Rattle.gl_algebra.specs.FigureTable.{IsSound, NoCloser}
use Rattle.gl_wire.specs.Beats.{Beats, last, most, Spaced}
use Rattle.gl_wire.specs.Wire.{Carried, rows}
use Rattle.gl_wire.specs.Serves.{Caused, EndCaused, Fits}
use Rattle.gl_wire.specs.Sides.{IsOpen, IsIdle, Side}
use Rattle.gl_wire.proofs.RowsLemmas.{rows-split, rows-quiet, rows_fewer}

pub none_unless : (o : Option Row) → ((r : Row) → o ≡ Some r → ⊥) → o ≡ None
none_unless None h = refl
none_unless (Some r) h = absurd (h r refl)

-- two intervals of a side do not overlap
abbrev Apart : Figures → Beats → Type 0
Apart f beats = (t u : ℕ) (e d : Bool) → beats t ≡ Some e → beats u ≡ Some d → t < u → t + last f e < u + f.a

module _ (f : Figures) (beats : Beats) (s : Carried) (fits : Fits f beats s) (apart : Apart f beats) where
  own_tuple : (c t k : ℕ) (e : Bool) (r : Row) → IsOpen f.a beats c t e → t + f.a ≤ k → k < c → s.tuple k ≡ Some r → k ≤ t + last f e
  own_tuple c t k e r o l m h = by (fits.tuples k r h)
    where
      by : Caused f beats k → k ≤ t + last f e
      by q = elim (cases_order q.beat t) [
        | inl p ↦ (let same : e ≡ q.end = some_same e q.end (sym o.is ∙ ap beats (sym p) ∙ q.is) in
            let high : k ≤ q.beat + last f q.end = q.high in
            let x : last f e ≡ last f q.end = ap (last f) same in
            omega (arith, high, x, p))
        | inr (inl p) ↦ absurd (let far = apart q.beat t q.end e q.is o.is p in let high = q.high in omega (arith, far, high, l))
        | inr (inr p) ↦ absurd (let far = o.later q.beat q.end q.is p in let low = q.low in omega (arith, far, low, m))
      ]

  own_end : (c t k : ℕ) (e : Bool) → IsOpen f.a beats c t e → t + f.a ≤ k → k < c → s.ends k ≡ true → (e ≡ true) × (k ≤ t + f.le)
  own_end c t k e o l m h = by (fits.ends k h)
    where
      by : EndCaused f beats k → (e ≡ true) × (k ≤ t + f.le)
      by q = elim (cases_order q.beat t) [
        | inl p ↦ (some_same e true (sym o.is ∙ ap beats (sym p) ∙ q.is), let high = q.high in omega (arith, high, p))
        | inr (inl p) ↦ absurd (let far = apart q.beat t true e q.is o.is p in let high = q.high in omega (arith, far, high, l))
        | inr (inr p) ↦ absurd (let far = o.later q.beat true q.is p in let low = q.low in omega (arith, far, low, m))
      ]

  idle_tuple : (c k : ℕ) → IsIdle f.a beats c → k < c → s.tuple k ≡ None
  idle_tuple c k i l = none_unless (s.tuple k) (λ r h. let q = fits.tuples k r h in let far = i q.beat q.end q.is in let low = q.low in omega (arith, far, low, l))

  idle_end : (c k : ℕ) → IsIdle f.a beats c → k < c → s.ends k ≡ false
  idle_end c k i l = false_from_ne_true (s.ends k) (λ h. let q = fits.ends k h in let far = i q.beat true q.is in let low = q.low in omega (arith, far, low, l))

  -- an open beat has brought no more than it may
  fewer : (c t k : ℕ) (e : Bool) → IsOpen f.a beats c t e → t + f.a + k ≤ c → length (rows s (t + f.a) k) ≤ most f e
  fewer c t k e o l = elim (cases_lt k (suc (last f e) - f.a)) [
    | inl p ↦ (let n : k + ((suc (last f e) - f.a) - k) ≡ suc (last f e) - f.a = omega (arith, p) in
        let all : length (rows s (t + f.a) (k + ((suc (last f e) - f.a) - k))) ≤ most f e = rw n (fits.few t e o.is) in
        omega (arith, rows_fewer s k ((suc (last f e) - f.a) - k) (t + f.a), all))
    | inr p ↦ (let n : (suc (last f e) - f.a) + (k - (suc (last f e) - f.a)) ≡ k = omega (arith, p) in
        let none : rows s (t + f.a + (suc (last f e) - f.a)) (k - (suc (last f e) - f.a)) ≡ [] = rows-quiet s (k - (suc (last f e) - f.a)) (t + f.a + (suc (last f e) - f.a)) (λ j x y. none_unless (s.tuple j) (λ r h. let own = own_tuple c t j e r o (omega (arith, x)) (omega (arith, y, l, n)) h in omega (arith, own, x))) in
        let all : length (rows s (t + f.a) (suc (last f e) - f.a)) ≤ most f e = fits.few t e o.is in
        let split : length (rows s (t + f.a) ((suc (last f e) - f.a) + (k - (suc (last f e) - f.a)))) ≡ length (rows s (t + f.a) (suc (last f e) - f.a)) + length (rows s (t + f.a + (suc (last f e) - f.a)) (k - (suc (last f e) - f.a))) = ap length (rows-split s (suc (last f e) - f.a) (k - (suc (last f e) - f.a)) (t + f.a)) ∙ length-append (rows s (t + f.a) (suc (last f e) - f.a)) (rows s (t + f.a + (suc (last f e) - f.a)) (k - (suc (last f e) - f.a))) in
        let same : length (rows s (t + f.a) ((suc (last f e) - f.a) + (k - (suc (last f e) - f.a)))) ≡ length (rows s (t + f.a) k) = ap (λ i. length (rows s (t + f.a) i)) n in
        omega (arith, all, split, same, ap length none))
  ]

  -- the one end of a beat, while no later one is open
  only_end : (c t k : ℕ) (h : beats t ≡ Some true) → IsOpen f.a beats c t true → t + f.a ≤ k → k < c → s.ends k ≡ true → k ≡ (fits.end t h).at
  only_end c t k h o l m e = (fits.end t h).only k (record { is = e; low = l; high = (own_end c t k true o l m e).1 })

  after_end : (c t k : ℕ) (h : beats t ≡ Some true) → IsOpen f.a beats c t true → (fits.end t h).at < k → k < c → s.tuple k ≡ None
  after_end c t k h o l m = none_unless (s.tuple k) (λ r e.
      let low = (fits.end t h).here.low in
      let own = own_tuple c t k true r o (omega (arith, low, l)) m e in
      let none : s.tuple k ≡ None = (fits.end t h).after k l own in
      cc (none, e))

-- intervals of sound figures do not overlap over beats that are no closer
apart_by : (f h : Figures) (beats : Beats) → IsSound f → NoCloser f h → Spaced h beats → Apart f beats
apart_by f h beats sound near spaced t u true d p q l = let far = spaced.apart t u true d p q l in omega (arith, far, sound.end_gap, sound.tuples_last, sound.end_last, near.ge)
apart_by f h beats sound near spaced t u false d p q l = let far = spaced.apart t u false d p q l in omega (arith, far, sound.tuples_gap, sound.tuples_last, near.gt)

side_of : (f : Figures) (beats : Beats) (s : Carried) → Fits f beats s → Apart f beats → Side f.a (last f) (most f) beats s
side_of f beats s fits apart = record {
  tuple = own_tuple f beats s fits apart;
  end = λ c t k e o l m h. (own_end f beats s fits apart c t k e o l m h).0;
  no_tuple = idle_tuple f beats s fits apart;
  no_end = idle_end f beats s fits apart;
  fewer = fewer f beats s fits apart;
  its_end = λ t h. record {
    at = (fits.end t h).at;
    ends = (fits.end t h).here.is;
    low = (fits.end t h).here.low;
    high = (fits.end t h).here.high;
    only = λ c k o l m e. only_end f beats s fits apart c t k h o l m e;
    after = λ c k o l m. after_end f beats s fits apart c t k h o l m;
  };
}

pub fits_side : (f h : Figures) (beats : Beats) (s : Carried) → IsSound f → NoCloser f h → Spaced h beats → Fits f beats s → Side f.a (last f) (most f) beats s
fits_side f h beats s sound near spaced fits = side_of f beats s fits (apart_by f h beats sound near spaced)
