-- The leaves of a plan over the beats of a file.
use Rattle.std.proofs.Common.{◌≡◌, ℕ, zero, suc, ◌+◌, ◌-◌, ◌<◌, ◌≤◌, Bool, true, false, List, [], ◌∷◌, ◌++◌, length, Option, Some, None, ◌⊎◌, inl, inr, refl, sym, ap, ◌∙◌, subst, arith, eq-eqb}
use Rattle.std.specs.Prelude.{IsTrue, option_map, option_to_list, ◌||◌, if◌then◌else◌}
use Rattle.std.proofs.lemmas.Bool.{ne_eqb, cases_eq, cases_lt}
use Rattle.gl_algebra.specs.declared.figures.Figures.{Figures}
use Rattle.gl_algebra.specs.FigureTable.{input_figures}
use Rattle.gl_values.specs.Results.{Row}
use Rattle.gl_wire.specs.Beats.{Spaced, gap, last, most}
use Rattle.gl_wire.specs.Once.{OneStream}
use Rattle.gl_wire.specs.Serves.{Fits, Caused}
use Rattle.gl_wire.specs.Wire.{Carried, stream, rows}
use Rattle.gl_schema.specs.Beats.{Beat, AreInOrder, AreSpaced, input_of, last_in, beat_at, ends_at, ticks_at}
use Rattle.gl_gaps.specs.Keeps.{KeepsTicks}
use Rattle.gl_ticks.specs.Apart.{TicksApart}
use Rattle.gl_wire.specs.Ticks.{TicksFit}
use Rattle.gl_wiring.specs.Bringing.{Brings, BringsTicks, beats_in}
use Rattle.gl_wiring.proofs.RootLemmas.{first_stream}
use Rattle.gl_wiring.proofs.BeatLemmas.{after_none, before_none, ends_last, ends_only, file_rows, rows_from}

-- what a beat's flag says
flag_of : (beats : List Beat) (n : ℕ) (e : Bool) → option_map (λ (b : Beat). b.end) (beat_at beats n) ≡ Some e → (b : Beat) × (beat_at beats n ≡ Some b) × (b.end ≡ e)
flag_of beats n e h = by (beat_at beats n) refl
  where
    by : (o : Option Beat) → beat_at beats n ≡ o → (b : Beat) × (beat_at beats n ≡ Some b) × (b.end ≡ e)
    by None p = absurd (let z : None ≡ Some e = rw p at h in cc)
    by (Some b) p = (b, p, (let z : Some b.end ≡ Some e = rw p at h in cc))

flag_end : (beats : List Beat) (n : ℕ) → ends_at beats n ≡ true → option_map (λ (b : Beat). b.end) (beat_at beats n) ≡ Some true
flag_end beats n h = by (beat_at beats n) refl
  where
    by : (o : Option Beat) → beat_at beats n ≡ o → option_map (λ (b : Beat). b.end) (beat_at beats n) ≡ Some true
    by None p = absurd (let z : false ≡ true = rw p at h in cc)
    by (Some b) p = (let z : b.end ≡ true = rw p at h in rw (p, z) refl)

end_flag : (beats : List Beat) (n : ℕ) → option_map (λ (b : Beat). b.end) (beat_at beats n) ≡ Some true → ends_at beats n ≡ true
end_flag beats n h = let x = flag_of beats n true h in rw x.1 x.2

-- each tick comes with a beat
pub ticks_fit : (beats : List Beat) (line : ℕ → Bool) (reads : Bool) → BringsTicks reads beats line → TicksFit line (beats_in beats)
ticks_fit beats line false b = record { each = λ c h. absurd (let z = b.none refl c in cc) }
ticks_fit beats line true b = record { each = each }
  where
    at_beat : (n : ℕ) (o : Option Beat) → beat_at beats n ≡ o → ticks_at beats n ≡ true → (e : Bool) × (option_map (λ (x : Beat). x.end) (beat_at beats n) ≡ Some e)
    at_beat n None p h = absurd (let z : false ≡ true = rw p at h in cc)
    at_beat n (Some x) p h = (x.end, rw p refl)

    each : (c : ℕ) → line c ≡ true → (e : Bool) × (beats_in beats c ≡ Some e)
    each zero h = absurd (let z = b.first in cc)
    each (suc n) h = at_beat n (beat_at beats n) refl (sym (b.ticks refl n) ∙ h)

-- beats are the gap apart
far : (gap : ℕ) (beats : List Beat) (n m : ℕ) (b d : Beat) → AreInOrder beats → AreSpaced gap beats
    → beat_at beats n ≡ Some b → beat_at beats m ≡ Some d → n < m → n + gap ≤ m
far gap [] n m b d h k p q l = absurd (cc)
far gap (x ∷ []) n m b d h k p q l = elim (cases_eq x.cycle n) [
  | inl e ↦ absurd (let z = rw (ne_eqb x.cycle m (λ w. omega arith)) at q in cc)
  | inr e ↦ absurd (let z = rw (ne_eqb x.cycle n e) at p in cc)
]
far gap (x ∷ y ∷ bs) n m b d h k p q l = elim (cases_eq x.cycle n) [
  | inl e ↦ elim (cases_lt m y.cycle) [
    | inl f ↦ absurd (let z = rw (ne_eqb x.cycle m (λ w. omega arith), before_none y bs m h.2 f) at q in cc)
    | inr f ↦ (let g = k.0 in omega arith)
  ]
  | inr e ↦ elim (cases_eq x.cycle m) [
    | inl f ↦ absurd (let z = rw (ne_eqb x.cycle n e, before_none y bs n h.2 (let g = h.1 in omega arith)) at p in cc)
    | inr f ↦ far gap (y ∷ bs) n m b d h.2 k.1 (rw (ne_eqb x.cycle n e) at p) (rw (ne_eqb x.cycle m f) at q) l
  ]
]

-- with a tick or the end a beat comes from a cycle on, and behind each tick so far later
back : (gap : ℕ) (tick end : Bool) (from at m : ℕ) → (IsTrue (tick || end) → from ≤ at) → (if tick then at + gap else from) ≤ m → from ≤ m
back gap true end from at m near h = let low = near refl in let far : at + gap ≤ m = h in omega (arith, low, far)
back gap false end from at m near h = h

behind : (gap from : ℕ) (beats : List Beat) (m : ℕ) (d : Beat) → KeepsTicks gap from beats → beat_at beats m ≡ Some d → IsTrue (d.tick || d.end) → from ≤ m
behind gap from [] m d k q h = absurd (cc)
behind gap from (x ∷ bs) m d k q h = elim (cases_eq x.cycle m) [
  | inl e ↦ (let same : Some x ≡ Some d = rw (eq-eqb x.cycle m e) at q in
      let is : x ≡ d = cc (same) in
      let near = k.0 (subst (λ (b : Beat). IsTrue (b.tick || b.end)) (sym is) h) in omega (arith, near, e))
  | inr e ↦ back gap x.tick x.end from x.cycle m k.0 (behind gap (if x.tick then x.cycle + gap else from) bs m d k.1 (rw (ne_eqb x.cycle m e) at q) h)
]

tick_far : (gap from : ℕ) (beats : List Beat) (n m : ℕ) (b d : Beat) → AreInOrder beats → KeepsTicks gap from beats
    → beat_at beats n ≡ Some b → b.tick ≡ true → beat_at beats m ≡ Some d → IsTrue (d.tick || d.end) → n < m → n + gap ≤ m
tick_far gap from [] n m b d o k p t q h l = absurd (cc)
tick_far gap from (x ∷ []) n m b d o k p t q h l = elim (cases_eq x.cycle n) [
  | inl e ↦ absurd (let z = rw (ne_eqb x.cycle m (λ w. omega arith)) at q in cc)
  | inr e ↦ absurd (let z = rw (ne_eqb x.cycle n e) at p in cc)
]
tick_far gap from (x ∷ y ∷ bs) n m b d o k p t q h l = elim (cases_eq x.cycle n) [
  | inl e ↦ (let same : Some x ≡ Some b = rw (eq-eqb x.cycle n e) at p in
      let is : x ≡ b = cc (same) in
      let ticks : x.tick ≡ true = ap (λ (z : Beat). z.tick) is ∙ t in
      let later : KeepsTicks gap (x.cycle + gap) (y ∷ bs) = rw ticks at k.1 in
      let far = behind gap (x.cycle + gap) (y ∷ bs) m d later (rw (ne_eqb x.cycle m (λ w. omega arith)) at q) h in omega (arith, far, e))
  | inr e ↦ elim (cases_eq x.cycle m) [
    | inl f ↦ absurd (let z = rw (ne_eqb x.cycle n e, before_none y bs n o.2 (let g = o.1 in omega arith)) at p in cc)
    | inr f ↦ tick_far gap (if x.tick then x.cycle + gap else from) (y ∷ bs) n m b d o.2 k.1 (rw (ne_eqb x.cycle n e) at p) t (rw (ne_eqb x.cycle m f) at q) h l
  ]
]

either : (a b : Bool) → ((a ≡ true) ⊎ (b ≡ true)) → IsTrue (a || b)
either true b h = refl
either false true h = refl
either false false (inl h) = absurd (cc)
either false false (inr h) = absurd (cc)

module _ (beats : List Beat) (order : AreInOrder beats) where
  pub file_one : OneStream (beats_in beats) (suc (last_in beats))
  file_one = record { is = flag_end beats (last_in beats) (ends_last beats order); only = only; until = until }
    where
      only : (t : ℕ) → beats_in beats t ≡ Some true → t ≡ suc (last_in beats)
      only zero h = absurd (cc)
      only (suc n) h = ap suc (ends_only beats n order (end_flag beats n h))

      until : (t : ℕ) (e : Bool) → beats_in beats t ≡ Some e → t ≤ suc (last_in beats)
      until zero e h = omega arith
      until (suc n) e h = elim (cases_lt (last_in beats) n) [
        | inl l ↦ absurd (let x = flag_of beats n e h in let z = after_none beats n order l in cc)
        | inr l ↦ omega arith
      ]

  pub file_spaced : (f : Figures) (n : ℕ) → f.gt ≤ n → AreSpaced n beats → Spaced f (beats_in beats)
  file_spaced f n l keeps = record { first = refl; apart = apart }
    where
      apart : (t u : ℕ) (e d : Bool) → beats_in beats t ≡ Some e → beats_in beats u ≡ Some d → t < u → t + gap f e ≤ u
      apart zero u e d h k m = absurd (cc)
      apart (suc t) zero e d h k m = absurd (omega arith)
      apart (suc t) (suc u) true d h k m = absurd (let a = file_one.only (suc t) h in let b = file_one.until (suc u) d k in omega arith)
      apart (suc t) (suc u) false d h k m =
          let x = flag_of beats t false h in let y = flag_of beats u d k in
          let g = far n beats t u x.0 y.0 order keeps x.1 y.1 (omega arith) in omega arith

  -- ticks, and the end, are so far behind each tick before
  pub file_apart : (line : ℕ → Bool) (reads : Bool) (ticks n : ℕ) → BringsTicks reads beats line → ticks ≤ n → KeepsTicks n 0 beats → TicksApart ticks line (beats_in beats)
  file_apart line false ticks n b l keeps = record { apart = λ t u h k m. absurd (let z = b.none refl t in cc) }
  file_apart line true ticks n b l keeps = record { apart = apart }
    where
      tick_of : (c : ℕ) → line (suc c) ≡ true → (x : Beat) × (beat_at beats c ≡ Some x) × (x.tick ≡ true)
      tick_of c h = by (beat_at beats c) refl
        where
          here : ticks_at beats c ≡ true
          here = sym (b.ticks refl c) ∙ h

          by : (o : Option Beat) → beat_at beats c ≡ o → (x : Beat) × (beat_at beats c ≡ Some x) × (x.tick ≡ true)
          by None p = absurd (let z : false ≡ true = rw p at here in cc)
          by (Some x) p = (x, p, (let z : x.tick ≡ true = rw p at here in z))

      asked : (c : ℕ) → ((line (suc c) ≡ true) ⊎ (beats_in beats (suc c) ≡ Some true)) → (x : Beat) × (beat_at beats c ≡ Some x) × IsTrue (x.tick || x.end)
      asked c (inl h) = let x = tick_of c h in (x.0, x.1, either x.0.tick x.0.end (inl x.2))
      asked c (inr h) = let x = flag_of beats c true h in (x.0, x.1, either x.0.tick x.0.end (inr x.2))

      apart : (t u : ℕ) → line t ≡ true → ((line u ≡ true) ⊎ (beats_in beats u ≡ Some true)) → t < u → t + ticks ≤ u
      apart zero u h k m = absurd (let z = b.first in cc)
      apart (suc t) zero h k m = absurd (omega arith)
      apart (suc t) (suc u) h k m =
          let x = tick_of t h in
          let y = asked u k in
          let far = tick_far n 0 beats t u x.0 y.0 order keeps x.1 x.2 y.1 y.2 (omega (arith, m)) in
          omega (arith, far, l)

  module _ (k : ℕ) (s : Carried) (b : Brings k beats s) where
    pub file_fits : Fits input_figures (beats_in beats) s
    file_fits = record {
      tuples = tuples;
      ends = λ c h. let x = ends c h in record { beat = c; is = x; low = omega arith; high = omega arith };
      few = few;
      end = λ t h. record {
        at = t;
        here = record { is = its_end t h; low = omega arith; high = omega arith };
        only = λ c h'. let l = h'.low in let m = h'.high in omega arith;
        after = λ c l m. absurd (omega arith);
      };
    }
      where
        ends : (c : ℕ) → s.ends c ≡ true → beats_in beats c ≡ Some true
        ends zero h = absurd (let z = b.no_end in cc)
        ends (suc c) h = flag_end beats c (sym (b.ends c) ∙ h)

        its_end : (c : ℕ) → beats_in beats c ≡ Some true → s.ends c ≡ true
        its_end zero h = absurd (cc)
        its_end (suc c) h = b.ends c ∙ end_flag beats c h

        within : (c : ℕ) (e : Bool) → c ≤ c + last input_figures e
        within c true = omega arith
        within c false = omega arith

        tuples : (c : ℕ) (r : Row) → s.tuple c ≡ Some r → Caused input_figures (beats_in beats) c
        tuples zero r h = absurd (let z = b.first in cc)
        tuples (suc c) r h = by (beat_at beats c) refl
          where
            by : (o : Option Beat) → beat_at beats c ≡ o → Caused input_figures (beats_in beats) (suc c)
            by None p = absurd (let z : None ≡ Some r = rw p at (sym (b.tuples c) ∙ h) in cc)
            by (Some x) p = record { beat = suc c; end = x.end; is = rw p refl; low = omega arith; high = within (suc c) x.end }

        one : (o : Option Row) → length (option_to_list o ++ []) ≤ 1
        one None = omega arith
        one (Some r) = omega arith

        few : (t : ℕ) (e : Bool) → beats_in beats t ≡ Some e → length (rows s (t + 0) (suc (last input_figures e) - 0)) ≤ most input_figures e
        few t true h = one (s.tuple (t + 0))
        few t false h = one (s.tuple (t + 0))

    later_rows : (n at : ℕ) → rows s (suc at) n ≡ rows_from k beats at n
    unfolding rows_from
    later_rows zero at = refl
    later_rows (suc n) at = let e : suc (suc at) ≡ suc (at + 1) = omega arith in rw (b.tuples at, e, later_rows n (at + 1)) refl

    -- at the last beat the stream is the stream's input
    pub file_stream : stream s (suc (last_in beats)) ≡ input_of k beats
    file_stream =
        first_stream s (suc (last_in beats)) quiet
        ∙ ap (λ (o : Option Row). option_to_list o ++ rows s 1 (suc (last_in beats))) b.first
        ∙ later_rows (suc (last_in beats)) 0 ∙ file_rows k beats order
      where
        quiet : (c : ℕ) → c < suc (last_in beats) → s.ends c ≡ false
        quiet zero l = b.no_end
        quiet (suc c) l = by (ends_at beats c) refl
          where
            by : (e : Bool) → ends_at beats c ≡ e → s.ends (suc c) ≡ false
            by true p = absurd (let z = ends_only beats c order p in omega arith)
            by false p = b.ends c ∙ p
