-- What the beats say of the time of a wire that fits.
use Rattle.std.proofs.Common.{Some, ◌≡◌, ℕ, suc, ◌+◌, ◌-◌, ◌<◌, ◌≤◌, Bool, true, false, arith, inl, inr}
use Rattle.std.proofs.lemmas.Bool.{cases_lt}
use Rattle.gl_algebra.specs.declared.figures.Figures.{Figures}
use Rattle.gl_algebra.specs.FigureTable.{IsSound}
use Rattle.gl_wire.specs.Apart.{Carries, a_tuple, an_end, CarriesApart}
use Rattle.gl_wire.specs.Beats.{Beats, last, gap, Spaced, Ends}
use Rattle.gl_wire.specs.Serves.{Caused, Fits, HasEnd}
use Rattle.gl_wire.specs.Wire.{Carried}
use Rattle.gl_wire.proofs.ApartLemmas.{carried_beat}
use Rattle.gl_wire.proofs.RowsLemmas.{rows-part}
use Rattle.gl_wire.specs.Coming.{Coming, KeepsBeats, by_tuples}
use Rattle.gl_wire.specs.Timed.{Timed}
use Rattle.gl_wire.proofs.AnyLemmas.{first_true}

module _ (f h : Figures) (beats : Beats) (spaced : Spaced h beats) where
  -- beats of which the one's interval begins where the other's has not ended are one
  pub same_beat : IsSound h → (t u c : ℕ) (e d : Bool) → beats t ≡ Some e → beats u ≡ Some d → t + h.a ≤ c → c ≤ t + last h e → u + h.a ≤ c → c ≤ u + last h d → t ≡ u
  same_beat sound t u c e d p q l m n o = elim (cases_lt t u) [
    | inl x ↦ absurd (let y = spaced.apart t u e d p q x in let z = short e in omega (arith, y, z, m, n))
    | inr x ↦ elim (cases_lt u t) [
      | inl y ↦ absurd (let w = spaced.apart u t d e q p y in let z = short d in omega (arith, w, z, l, o))
      | inr y ↦ omega (arith, x, y)
    ]
  ]
    where
      short : (e : Bool) → last h e - h.a + 1 ≤ gap h e
      short true = sound.end_gap
      short false = sound.tuples_gap

-- the tuples and ends of a wire that fits keep to its beats
pub tuples_keep : (f : Figures) (beats : Beats) (a : Carried) → Fits f beats a → KeepsBeats f beats a (by_tuples a)
tuples_keep f beats a fits = record {
  carried = λ c k. k;
  caused = λ c k. carried_beat f beats a fits c k;
  after = behind;
  few = fits.few;
  part = λ lo n x m l h. rows-part a lo n x m l h;
}
  where
    behind : (t u c : ℕ) → beats t ≡ Some true → HasEnd f a t u → u < c → c ≤ t + f.le → Carries a c → ⊥
    behind t u c p h l m (a_tuple r x) = let o = fits.end t p in let y = o.only u h in let z = o.after c (omega (arith, l, y)) m in cc (x, z)
    behind t u c p h l m (an_end x) =
        let o = fits.end t p in
        let y = o.only u h in
        let z = o.only c (record { is = x; low = omega (arith, h.low, l); high = m }) in
        omega (arith, y, z, l)

module _ (f h : Figures) (beats : Beats) (a : Carried) (what : Coming) (sound : IsSound f) (short_t : f.lt - f.a + 1 ≤ h.gt) (short_e : f.le - f.a + 1 ≤ h.ge)
    (spaced : Spaced h beats) (fits : Fits f beats a) (keeps : KeepsBeats f beats a what) where
  short : (e : Bool) → last f e - f.a + 1 ≤ gap h e
  short true = short_e
  short false = short_t

  last_at_most : (e : Bool) → last f e ≤ f.le
  last_at_most true = omega arith
  last_at_most false = sound.end_last

  -- what keeps to the beats and comes so far apart is in time for a front
  pub timed_for : (g1 g2 : ℕ) → f.le - f.a + g2 ≤ h.ge → ((c d : ℕ) → what.comes c → what.comes d → c < d → c + g1 ≤ d) → Timed g1 g2 a what
  timed_for g1 g2 wide near = record { apart = near; after = λ u d e k l. by u d e l k (keeps.caused d k) }
    where
      by : (u d : ℕ) → a.ends u ≡ true → u < d → what.comes d → Caused f beats d → u + g2 ≤ d
      by u d e l k q =
          let p = fits.ends u e in
          elim (cases_lt p.beat q.beat) [
            | inl x ↦ (let y = spaced.apart p.beat q.beat true q.end p.is q.is x in omega (arith, y, wide, p.high, q.low, sound.tuples_last, sound.end_last))
            | inr x ↦ elim (cases_lt q.beat p.beat) [
              | inl y ↦ absurd (let v = spaced.apart q.beat p.beat q.end true q.is p.is y in let z = short q.end in omega (arith, v, z, q.high, p.low, l))
              | inr y ↦ absurd (let z : q.beat ≡ p.beat = omega (arith, x, y) in keeps.after p.beat u d p.is (record { is = e; low = p.low; high = p.high }) l (high q z) k)
            ]
          ]
        where
          high : (q : Caused f beats d) → q.beat ≡ (fits.ends u e).beat → d ≤ (fits.ends u e).beat + f.le
          high q z = omega (arith, q.high, last_at_most q.end, z)

  -- where the beats end, the first end at or after what came
  pub next_for : Ends beats → (x : ℕ) → what.comes x → (d : ℕ) × (x ≤ d) × (a.ends d ≡ true) × ((j : ℕ) → x ≤ j → j < d → a.ends j ≡ false)
  next_for en x k = elim (first_true a.ends (suc at - x) x) [
    | inl (i, l, n, p, g) ↦ (i, l, p, g)
    | inr g ↦ absurd (let z = g at there (omega (arith, there)) in let y = (fits.end (en.ends (q).beat (q).end (q).is).0 (en.ends (q).beat (q).end (q).is).2).here.is in cc (z, y))
  ]
    where
      q : Caused f beats x
      q = keeps.caused x k

      at : ℕ
      at = (fits.end (en.ends (q).beat (q).end (q).is).0 (en.ends (q).beat (q).end (q).is).2).at

      there : x ≤ at
      there =
          let e = en.ends (q).beat (q).end (q).is in let o = fits.end e.0 e.2 in
          elim (cases_lt at x) [
            | inl l ↦ absurd (elim (cases_lt (q).beat e.0) [
              | inl z ↦ (let v = spaced.apart (q).beat e.0 (q).end true (q).is e.2 z in let g = short (q).end in omega (arith, v, g, (q).high, o.here.low, l))
              | inr z ↦ keeps.after e.0 at x e.2 o.here l (omega (arith, z, e.1, (q).high, last_at_most (q).end)) k
            ])
            | inr l ↦ l
          ]

-- a wire that fits and is carried so far apart is in time for a front
pub timed_by : (f h : Figures) (g1 g2 : ℕ) (beats : Beats) (a : Carried) → IsSound f → f.lt - f.a + 1 ≤ h.gt → f.le - f.a + 1 ≤ h.ge → f.le - f.a + g2 ≤ h.ge → Spaced h beats → Fits f beats a → CarriesApart g1 a → Timed g1 g2 a (by_tuples a)
timed_by f h g1 g2 beats a sound short_t short_e wide spaced fits near =
    timed_for f h beats a (by_tuples a) sound short_t short_e spaced fits (tuples_keep f beats a fits) g1 g2 wide near

pub next_stream : (f h : Figures) (beats : Beats) (a : Carried) → IsSound f → f.lt - f.a + 1 ≤ h.gt → f.le - f.a + 1 ≤ h.ge → Spaced h beats → Fits f beats a → Ends beats → (x : ℕ) → Carries a x
    → (d : ℕ) × (x ≤ d) × (a.ends d ≡ true) × ((j : ℕ) → x ≤ j → j < d → a.ends j ≡ false)
next_stream f h beats a sound short_t short_e spaced fits en x k =
    next_for f h beats a (by_tuples a) sound short_t short_e spaced fits (tuples_keep f beats a fits) en x k
