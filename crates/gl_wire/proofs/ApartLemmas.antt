-- Where no spacer stands, what a source carries is far enough apart.
use Rattle.std.proofs.Common.{◌≡◌, ℕ, ◌+◌, ◌-◌, ◌<◌, ◌≤◌, Option, Some, None, Bool, true, false, ◌&&◌, refl, arith, inl, inr}
use Rattle.std.specs.Prelude.{is_some}
use Rattle.std.proofs.Common.{nat_lt}
use Rattle.std.proofs.lemmas.Bool.{cases_lt, lt-ltb}
use Rattle.gl_algebra.specs.declared.figures.Figures.{Figures}
use Rattle.gl_algebra.specs.FigureTable.{IsSound, needs_spacer}
use Rattle.gl_values.specs.Results.{Row}
use Rattle.gl_bits.proofs.Bools.{or_right}
use Rattle.gl_wire.specs.Beats.{Beats, Spaced}
use Rattle.gl_wire.specs.Serves.{Caused, Fits}
use Rattle.gl_wire.specs.Wire.{Carried}
use Rattle.gl_wire.specs.Apart.{Carries, a_tuple, an_end, carries, CarriesApart}

-- what a wire carries, as a test
pub carries_is : (s : Carried) (c : ℕ) → carries s c ≡ true → Carries s c
carries_is s c h = by (s.tuple c) refl
  where
    by : (o : Option Row) → s.tuple c ≡ o → Carries s c
    by None p = an_end (rw p at h)
    by (Some r) p = a_tuple r p

pub is_carries : (s : Carried) (c : ℕ) → Carries s c → carries s c ≡ true
is_carries s c (a_tuple r h) = rw h refl
is_carries s c (an_end h) = or_right (is_some (s.tuple c)) (s.ends c) h

-- what is carried has a beat
pub carried_beat : (f : Figures) (beats : Beats) (s : Carried) → Fits f beats s → (c : ℕ) → Carries s c → Caused f beats c
carried_beat f beats s fits c (a_tuple r h) = fits.tuples c r h
carried_beat f beats s fits c (an_end h) = let i = fits.ends c h in record { beat = i.beat; end = true; is = i.is; low = i.low; high = i.high }

module _ (n : ℕ) (f g : Figures) (beats : Beats) (s : Carried) (sound : IsSound f) (after : f.lt - f.a + n ≤ g.gt) (after_end : f.le - f.a + n ≤ g.ge) (spaced : Spaced g beats) (fits : Fits f beats s) where
  -- two cycles of different beats
  of_two : (c d : ℕ) → (i : Caused f beats c) → (j : Caused f beats d) → i.beat < j.beat → c + n ≤ d
  of_two c d i j l = by i.end refl
    where
      by : (e : Bool) → i.end ≡ e → c + n ≤ d
      by true p = let apart = rw p at (spaced.apart i.beat j.beat i.end j.end i.is j.is l) in let m : c ≤ i.beat + f.le = rw p at i.high in let low = j.low in let below = sound.end_last in let start = sound.tuples_last in omega arith
      by false p = let apart = rw p at (spaced.apart i.beat j.beat i.end j.end i.is j.is l) in let m : c ≤ i.beat + f.lt = rw p at i.high in let low = j.low in let start = sound.tuples_last in omega arith

  -- what comes in one cycle of each beat
  apart_fixed : f.le ≡ f.a → CarriesApart n s
  apart_fixed fixed = λ c d h k l. of (carried_beat f beats s fits c h) (carried_beat f beats s fits d k) l
    where
      high_of : (c : ℕ) → (i : Caused f beats c) → c ≤ i.beat + f.a
      high_of c i = by i.end refl
        where
          by : (e : Bool) → i.end ≡ e → c ≤ i.beat + f.a
          by true p = let m : c ≤ i.beat + f.le = rw p at i.high in omega arith
          by false p = let m : c ≤ i.beat + f.lt = rw p at i.high in let below = sound.end_last in omega arith

      of : {c d : ℕ} → Caused f beats c → Caused f beats d → c < d → c + n ≤ d
      of {c = c} {d = d} i j l = of_two c d i j (let x = high_of d j in let y = i.low in let z = high_of c i in let w = j.low in omega arith)

  -- where no spacer is needed
  unspaced : needs_spacer n f ≡ false → CarriesApart n s
  unspaced none = elim (cases_lt 1 n) [
    | inl l ↦ elim (cases_lt f.a f.le) [
      | inl m ↦ absurd (both_high l m none)
      | inr m ↦ apart_fixed (let a = sound.tuples_last in let b = sound.end_last in omega arith)
    ]
    | inr l ↦ (λ c d h k m. omega arith)
  ]
    where
      both_high : 1 < n → f.a < f.le → (nat_lt 1 n && nat_lt f.a f.le) ≡ false → ⊥
      both_high l m h = let z : (true && true) ≡ false = rw (lt-ltb 1 n l, lt-ltb f.a f.le m) at h in cc

pub apart_unspaced : (n : ℕ) (f g : Figures) (beats : Beats) (s : Carried) → IsSound f → f.lt - f.a + n ≤ g.gt → f.le - f.a + n ≤ g.ge → needs_spacer n f ≡ false → Spaced g beats → Fits f beats s → CarriesApart n s
apart_unspaced n f g beats s sound after after_end none spaced fits = unspaced n f g beats s sound after after_end spaced fits none
