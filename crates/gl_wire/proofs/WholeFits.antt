-- A front that rotates, copies, and a back of one cycle: over the same beats the whole fits its figures, and what else is known of its time.
use Rattle.std.proofs.Common.{◌≡◌, ℕ, zero, suc, ◌+◌, ◌-◌, ◌*◌, ◌<◌, ◌≤◌, List, length, Option, Some, None, Bool, true, false, refl, sym, ap, ◌∙◌, arith, inl, inr, ◌⊎◌, mul-le-mul_right}
use Rattle.std.proofs.lemmas.Bool.{cases_lt, cases_Bool}
use Rattle.gl_algebra.specs.declared.figures.Figures.{Figures}
use Rattle.gl_algebra.specs.FigureTable.{IsSound, stride_of}
use Rattle.gl_values.specs.Results.{Row}
use Rattle.gl_wire.specs.Beats.{Beats, last, most, gap, Spaced}
use Rattle.gl_wire.specs.Wire.{Carried, rows}
use Rattle.gl_wire.specs.Serves.{HasEnd, OneEnd, Caused, Fits}
use Rattle.gl_wire.specs.Shapes.{IsDelayed}
use Rattle.gl_wire.proofs.RowsLemmas.{rows-part, rows-one}
use Rattle.gl_wire.specs.Coming.{Coming, KeepsBeats}
use Rattle.gl_wire.specs.Lift.{Visits, visits, tuple_of_any, all_of}
use Rattle.gl_wire.specs.Timed.{Origin, NoEnd, Rested, Timed}
use Rattle.gl_wire.specs.Rotates.{Rotates, OverCopies, turns_of, delay_of_whole}
use Rattle.gl_wire.proofs.AnyLemmas.{any_some, length-joined, some_or_none}
use Rattle.gl_wire.proofs.LiftLemmas.{joined, Apart}
use Rattle.gl_wire.proofs.TimeLemmas.{same_beat}
use Rattle.gl_wire.proofs.WholeTime.{Cause, IsWhole}

module _ (f s h : Figures) (count rounds g1 g2 : ℕ) (few many : ℕ → ℕ) {Part : Type 0} (of : ℕ × List Row → Part) (parts : ℕ → List Part) (figs : OverCopies f s h rounds g1 g2 few many)
    (sound_f : IsSound f) (sound_s : IsSound s) (sound : IsSound h) (rounds_some : 1 ≤ rounds)
    (beats : Beats) (spaced : Spaced h beats) (a : Carried) (fits : Fits f beats a) (what : Coming) (keeps : KeepsBeats f beats a what) (timed : Timed g1 g2 a what)
    (who : Visits) (ins outs : ℕ → Carried) (rot : Rotates s count rounds g1 few many of a what parts who ins)
    (near : (k c : ℕ) (r : Row) → k < count → (outs k).tuple c ≡ Some r → (u : ℕ) × (who u ≡ Some k) × (u + s.a ≤ c) × (c ≤ u + s.le))
    (few_rows : (u k : ℕ) → who u ≡ Some k → length (rows (all_of outs count) (u + s.a) (suc s.le - s.a)) ≤ s.ne)
    (b : Carried) (close : ℕ → Bool) (back : IsDelayed 1 (record { tuple = tuple_of_any outs count; ends = close }) b)
    (close_first : (c : ℕ) → c < s.le + (rounds - 1) * stride_of s + 2 → close c ≡ false)
    (closes : (c : ℕ) → close (c + (s.le + (rounds - 1) * stride_of s + 2)) ≡ a.ends c) where
  abbrev turns : ℕ
  turns = turns_of rounds s

  abbrev delay : ℕ
  delay = delay_of_whole rounds s

  all_turns : turns + stride_of s ≡ rounds * stride_of s
  all_turns =
      let e : suc (rounds - 1) ≡ rounds = omega (arith, rounds_some) in
      let d : turns + stride_of s ≡ suc (rounds - 1) * stride_of s = omega arith in
      d ∙ ap (λ z. z * stride_of s) e

  cause : (c : ℕ) (r : Row) → b.tuple c ≡ Some r → Cause s who c
  cause zero r e = absurd (let z = back.before 0 (omega arith) in cc (z, e))
  cause (suc x) r e =
      let i : x + 1 ≡ suc x = omega arith in
      let here : tuple_of_any outs count x ≡ Some r = sym (back.tuples x) ∙ ap b.tuple i ∙ e in
      let k = any_some outs count x r here in
      let n = near k.0 x r k.1 k.2 in
      let one : length (rows (all_of outs count) x 1) ≡ 1 = rows-one (all_of outs count) x r here in
      let some = rows-part (all_of outs count) (n.0 + s.a) (suc s.le - s.a) x 1 n.2 (omega (arith, n.2, n.3)) in
      record { v = n.0; k = k.0; visit = n.1; low = omega (arith, n.2); high = omega (arith, n.3); enough = omega (arith, one, some, few_rows n.0 k.0 n.1) }

  short : (e : Bool) → last f e - f.a + 1 ≤ gap h e
  short true = omega (arith, figs.ge, figs.flush)
  short false = omega (arith, sound_f.tuples_gap, figs.keeps)

  last_low : (e : Bool) → f.a ≤ last f e
  last_low true = omega (arith, sound_f.tuples_last, sound_f.end_last)
  last_low false = sound_f.tuples_last

  last_high : (e : Bool) → last f e ≤ f.le
  last_high true = omega arith
  last_high false = sound_f.end_last

  -- a tuple of the whole, in the interval of the beat of what let its visit end
  record Traced (c : ℕ) : Type 0 where
    of_cause : Cause s who c
    origin : Origin turns g1 (stride_of s) a what (of_cause).v
    beat : ℕ
    end : Bool
    is : beats beat ≡ Some end
    of_low : beat + f.a ≤ (origin).of
    of_high : (origin).of ≤ beat + last f end
    low : beat + h.a ≤ c
    high : c ≤ beat + last h end
    at_once : end ≡ false → (1 ≤ few f.nt * s.ne) × ((of_cause).v ≡ suc (origin).of) × (stride_of s ≤ g1)

  rested : (t : ℕ) (e : Bool) → beats t ≡ Some e → Rested (rounds * stride_of s) a (t + f.a)
  rested t e p = record {
    over = λ u x l.
        let q = fits.ends u x in
        elim (cases_lt q.beat t) [
          | inl m ↦ (let y = spaced.apart q.beat t true e q.is p m in omega (arith, y, figs.ge, figs.flush, q.high, sound_f.tuples_last, sound_f.end_last))
          | inr m ↦ absurd (omega (arith, m, q.low, l))
        ];
  }

  traced : (c : ℕ) (r : Row) → b.tuple c ≡ Some r → Traced c
  traced c r e = by (cases_Bool (a.ends o.of))
    where
      z : Cause s who c
      z = cause c r e

      o : Origin turns g1 (stride_of s) a what (z).v
      o = rot.origin z.v z.k z.visit

      by : ((a.ends o.of ≡ true) ⊎ (a.ends o.of ≡ false)) → Traced c
      by (inl x) =
          let q = fits.ends o.of x in
          record {
            of_cause = z;
            origin = o;
            beat = q.beat;
            end = true;
            is = q.is;
            of_low = q.low;
            of_high = q.high;
            low = omega (arith, q.low, figs.a, z.low, o.low);
            high = omega (arith, q.high, figs.le, z.high, o.high);
            at_once = λ y. absurd (cc);
          }
      by (inr x) = without (keeps.caused o.of o.comes) (keeps.caused o.of o.comes).end refl
        where
          without : (q : Caused f beats o.of) (d : Bool) → q.end ≡ d → Traced c
          without q true p =
              let is : beats q.beat ≡ Some true = rw p at q.is in
              let up : o.of ≤ q.beat + f.le = rw p at q.high in
              record {
                of_cause = z;
                origin = o;
                beat = q.beat;
                end = true;
                is = is;
                of_low = q.low;
                of_high = up;
                low = omega (arith, q.low, figs.a, z.low, o.low);
                high = omega (arith, up, figs.le, z.high, o.high);
                at_once = λ y. absurd (cc);
              }
          without q false p =
              let is : beats q.beat ≡ Some false = rw p at q.is in
              let up : o.of ≤ q.beat + f.lt = rw p at q.high in
              let now = o.at_once x in
              let seen : who (suc o.of) ≡ Some z.k = ap who (sym now.0) ∙ z.visit in
              let one : length (visits who ins (suc o.of) 1) ≡ 1 = rw seen refl in
              let quiet : NoEnd a o.of (o.of + 1) = record { none = λ i l m. let g : o.of ≡ i = omega (arith, l, m) in ap a.ends (sym g) ∙ x } in
              let rest : Rested (rounds * stride_of s) a o.of = record { over = λ u g l. omega (arith, timed.after u o.of g o.comes l, figs.flush) } in
              let bound = rot.few_visits o.of 1 rest quiet in
              let part = keeps.part (q.beat + f.a) (suc f.lt - f.a) o.of 1 q.low (omega (arith, up, q.low)) in
              let most_units : what.units (q.beat + f.a) (suc f.lt - f.a) ≤ f.nt = keeps.few q.beat false is in
              let more = figs.few_more (what.units o.of 1) f.nt (omega (arith, part, most_units)) in
              let some : 1 ≤ few f.nt = omega (arith, one, bound, more) in
              let product : 1 * s.ne ≤ few f.nt * s.ne = mul-le-mul_right s.ne some in
              let there : 1 ≤ few f.nt * s.ne = omega (arith, product, z.enough) in
              record {
                of_cause = z;
                origin = o;
                beat = q.beat;
                end = false;
                is = is;
                of_low = q.low;
                of_high = up;
                low = omega (arith, q.low, figs.a, z.low, o.low);
                high = omega (arith, up, figs.lt there, z.high, now.0);
                at_once = λ y. (there, now.0, now.1);
              }

  -- what comes after an end comes in a later beat
  later_beat : (t u y : ℕ) → beats t ≡ Some true → HasEnd f a t u → what.comes y → u < y → t + f.le + g2 ≤ y
  later_beat t u y p e k l =
      let q = keeps.caused y k in
      elim (cases_lt t q.beat) [
        | inl x ↦ (let w = spaced.apart t q.beat true q.end p q.is x in omega (arith, w, figs.ge, q.low, sound_f.tuples_last, sound_f.end_last))
        | inr x ↦ elim (cases_lt q.beat t) [
          | inl z ↦ absurd (let w = spaced.apart q.beat t q.end true q.is p z in let v = short q.end in omega (arith, w, v, q.high, e.low, l))
          | inr z ↦ absurd (let g : q.beat ≡ t = omega (arith, x, z) in keeps.after t u y p e l (omega (arith, q.high, last_high q.end, g)) k)
        ]
      ]

  -- the visits of earlier beats are over where a beat's begin
  before_beat : (t : ℕ) (e : Bool) → beats t ≡ Some e → (v k : ℕ) → who v ≡ Some k → v < t + f.a + 1 → v + (s.le + 1) ≤ t + f.a + 1 + s.a
  before_beat t e p v k w l = by (cases_Bool (a.ends o.of))
    where
      o : Origin turns g1 (stride_of s) a what v
      o = rot.origin v k w

      by : ((a.ends o.of ≡ true) ⊎ (a.ends o.of ≡ false)) → v + (s.le + 1) ≤ t + f.a + 1 + s.a
      by (inl x) = let y = (rested t e p).over o.of x (omega (arith, o.low, l)) in omega (arith, y, o.high, all_turns, sound_s.tuples_last, sound_s.end_last)
      by (inr x) =
          let now = o.at_once x in
          let q = keeps.caused o.of o.comes in
          elim (cases_lt q.beat t) [
            | inl m ↦ (let y = spaced.apart q.beat t q.end e q.is p m in let g = far q.end in omega (arith, y, g, q.high, now.0, now.1, last_low q.end, sound_s.tuples_last, sound_s.end_last))
            | inr m ↦ absurd (omega (arith, q.low, o.low, l, m))
          ]
        where
          far : (d : Bool) → last f d - f.a + stride_of s ≤ gap h d
          far true = let z = (o.at_once x).1 in omega (arith, figs.ge, figs.flush, all_turns)
          far false = let z = (o.at_once x).1 in omega (arith, figs.gt, z)

  -- the back is one cycle late
  rows_back : (n c : ℕ) → rows b (suc c) n ≡ rows (all_of outs count) c n
  rows_back zero c = refl
  rows_back (suc n) c =
      let e : c + 1 ≡ suc c = omega arith in
      let here : b.tuple (suc c) ≡ tuple_of_any outs count c = ap b.tuple (sym e) ∙ back.tuples c in
      rw (here, rows_back n (suc c)) refl

  abbrev Over : ℕ → ℕ → Type 0
  Over c n = Apart s (λ u xs ys. length ys ≤ s.ne) count who ins outs rot.schedules.apart near few_rows c n

  over_rows : (x n : ℕ) → Over (suc x) n → length (rows b (suc (suc x) + s.a) (n + (s.le - s.a))) ≤ length (visits who ins (suc x) n) * s.ne
  over_rows x n o =
      let e : suc (suc x) + s.a ≡ suc (suc x + s.a) = omega arith in
      let j = joined s (λ u xs ys. length ys ≤ s.ne) count who ins outs rot.schedules.apart near few_rows n n (suc x) (omega arith) (omega (arith, sound_s.tuples_last, sound_s.end_last)) o in
      rw (e, rows_back (n + (s.le - s.a)) (suc x + s.a)) (length-joined s.ne (visits who ins (suc x) n) _ j)

  few_false : (t : ℕ) → beats t ≡ Some false → length (rows b (t + h.a) (suc h.lt - h.a)) ≤ h.nt
  few_false t p = elim (some_or_none b (suc h.lt - h.a) (t + h.a)) [
    | inl none ↦ omega (arith, none)
    | inr (i, r, l, m, e) ↦
        let z = traced i r e in
        let same = same_beat f h beats spaced sound z.beat t i z.end false z.is p z.low z.high l (omega (arith, l, m, sound.tuples_last)) in
        let mine : z.end ≡ false = (let g = ap beats same in let y = z.is in cc (g, y, p)) in
        let now = z.at_once mine in
        let lt : h.lt ≡ f.lt + s.le + 2 = figs.lt now.0 in
        let quiet : NoEnd a (t + f.a) (t + f.a + (f.lt - f.a + 1)) = record { none = λ x v w. calm x v w (a.ends x) refl } in
        let over : Over (suc (t + f.a)) (f.lt - f.a + 1) = record {
          before = λ v k y w. (let g = before_beat t false p v k y (omega (arith, w)) in omega (arith, g));
          after = λ v k y w. after now.2 v k y (omega (arith, w, sound_f.tuples_last));
        } in
        let bound = over_rows (t + f.a) (f.lt - f.a + 1) over in
        let at : suc (suc (t + f.a)) + s.a ≡ t + h.a = omega (arith, figs.a) in
        let len : f.lt - f.a + 1 + (s.le - s.a) ≡ suc h.lt - h.a = omega (arith, figs.a, lt, sound_f.tuples_last, sound_s.tuples_last, sound_s.end_last) in
        let visited = rot.few_visits (t + f.a) (f.lt - f.a + 1) (rested t false p) quiet in
        let whole : f.lt - f.a + 1 ≡ suc f.lt - f.a = omega (arith, sound_f.tuples_last) in
        let most_units : what.units (t + f.a) (f.lt - f.a + 1) ≤ f.nt = rw whole (keeps.few t false p) in
        let more = figs.few_more _ f.nt most_units in
        let product : length (visits who ins (suc (t + f.a)) (f.lt - f.a + 1)) * s.ne ≤ few f.nt * s.ne = mul-le-mul_right s.ne (omega (arith, visited, more)) in
        let there : length (rows b (t + h.a) (suc h.lt - h.a)) ≤ length (visits who ins (suc (t + f.a)) (f.lt - f.a + 1)) * s.ne = rw (sym at, sym len) bound in
        omega (arith, there, product, figs.nt)
  ]
    where
      calm : (x : ℕ) → t + f.a ≤ x → x < t + f.a + (f.lt - f.a + 1) → (e : Bool) → a.ends x ≡ e → a.ends x ≡ false
      calm x l m false e = e
      calm x l m true e =
          let q = fits.ends x e in
          elim (cases_lt q.beat t) [
            | inl y ↦ absurd (let w = spaced.apart q.beat t true false q.is p y in omega (arith, w, figs.ge, figs.flush, q.high, l, sound_f.tuples_last, sound_f.end_last))
            | inr y ↦ elim (cases_lt t q.beat) [
              | inl z ↦ absurd (let w = spaced.apart t q.beat false true p q.is z in omega (arith, w, figs.keeps, sound_f.tuples_gap, q.low, m, sound_f.tuples_last))
              | inr z ↦ absurd (let g : q.beat ≡ t = omega (arith, y, z) in let i = ap beats g in let j = q.is in cc (i, j, p))
            ]
          ]

      after : stride_of s ≤ g1 → (v k : ℕ) → who v ≡ Some k → t + f.lt + 2 ≤ v → suc (t + f.a) + (f.lt - f.a + 1) + s.le ≤ v + s.a
      after wide v k w l =
          let o = rot.origin v k w in
          let q = keeps.caused o.of o.comes in
          elim (cases_lt q.beat t) [
            | inl y ↦ (let g = before_beat t false p v k w (early o (cases_Bool (a.ends o.of)) q y) in absurd (omega (arith, early o (cases_Bool (a.ends o.of)) q y, l, sound_f.tuples_last)))
            | inr y ↦ elim (cases_lt t q.beat) [
              | inl z ↦ (let x = spaced.apart t q.beat false q.end p q.is z in omega (arith, x, figs.gt, q.low, o.low, wide, sound_f.tuples_last, sound_s.tuples_last, sound_s.end_last))
              | inr z ↦ absurd (mine o q (omega (arith, y, z)) (cases_Bool (a.ends o.of)))
            ]
          ]
        where
          early : (o : Origin turns g1 (stride_of s) a what v) → ((a.ends o.of ≡ true) ⊎ (a.ends o.of ≡ false)) → (q : Caused f beats o.of) → q.beat < t → v < t + f.a + 1
          early o (inl x) q y =
              let gone : o.of < t + f.a = (let w = spaced.apart q.beat t q.end false q.is p y in let g = short q.end in omega (arith, w, g, q.high, last_low q.end)) in
              let z = (rested t false p).over o.of x gone in omega (arith, z, o.high, all_turns)
          early o (inr x) q y =
              let gone : o.of < t + f.a = (let w = spaced.apart q.beat t q.end false q.is p y in let g = short q.end in omega (arith, w, g, q.high, last_low q.end)) in
              let z = (o.at_once x).0 in omega (arith, z, gone)

          mine : (o : Origin turns g1 (stride_of s) a what v) (q : Caused f beats o.of) → q.beat ≡ t → ((a.ends o.of ≡ true) ⊎ (a.ends o.of ≡ false)) → ⊥
          mine o q g (inl x) =
              let y = fits.ends o.of x in
              let low : t + f.a ≤ o.of = omega (arith, q.low, g) in
              let d : q.end ≡ false = (let i = ap beats g in let j = q.is in cc (i, j, p)) in
              let up : o.of ≤ q.beat + f.lt = rw d at q.high in
              let z = calm o.of low (omega (arith, up, g, sound_f.tuples_last)) (a.ends o.of) refl in cc (x, z)
          mine o q g (inr x) =
              let d : q.end ≡ false = (let i = ap beats g in let j = q.is in cc (i, j, p)) in
              let up : o.of ≤ q.beat + f.lt = rw d at q.high in
              let z = (o.at_once x).0 in omega (arith, z, up, g, l)

  few_true : (t : ℕ) → beats t ≡ Some true → length (rows b (t + h.a) (suc h.le - h.a)) ≤ h.ne
  few_true t p =
      let o = fits.end t p in
      let quiet : NoEnd a (t + f.a) o.at = record { none = λ x v w. calm x v w (a.ends x) refl } in
      let over : Over (suc (t + f.a)) (f.le - f.a + turns + 2) = record {
        before = λ v k y w. (let g = before_beat t true p v k y (omega (arith, w)) in omega (arith, g));
        after = λ v k y w. after v k y (omega (arith, w, sound_f.tuples_last, sound_f.end_last));
      } in
      let bound = over_rows (t + f.a) (f.le - f.a + turns + 2) over in
      let at : suc (suc (t + f.a)) + s.a ≡ t + h.a = omega (arith, figs.a) in
      let len : f.le - f.a + turns + 2 + (s.le - s.a) ≡ suc h.le - h.a = omega (arith, figs.a, figs.le, sound_f.tuples_last, sound_f.end_last, sound_s.tuples_last, sound_s.end_last) in
      let visited = rot.many_visits (t + f.a) o.at (f.le - f.a + turns + 2) (rested t true p) o.here.low (omega (arith, o.here.high, sound_f.tuples_last, sound_f.end_last)) quiet o.here.is (λ y l m k. silent y k l (omega (arith, m, sound_f.tuples_last, sound_f.end_last))) in
      let part = keeps.part (t + f.a) (suc f.le - f.a) (t + f.a) (suc (o.at - (t + f.a))) (omega arith) (omega (arith, o.here.low, o.here.high)) in
      let most_units : what.units (t + f.a) (suc f.le - f.a) ≤ f.ne = keeps.few t true p in
      let more = figs.many_more (what.units (t + f.a) (suc (o.at - (t + f.a)))) f.ne (omega (arith, part, most_units)) in
      let product : length (visits who ins (suc (t + f.a)) (f.le - f.a + turns + 2)) * s.ne ≤ many f.ne * s.ne = mul-le-mul_right s.ne (omega (arith, visited, more)) in
      let there : length (rows b (t + h.a) (suc h.le - h.a)) ≤ length (visits who ins (suc (t + f.a)) (f.le - f.a + turns + 2)) * s.ne = rw (sym at, sym len) bound in
      omega (arith, there, product, figs.ne)
    where
      calm : (x : ℕ) → t + f.a ≤ x → x < (fits.end t p).at → (e : Bool) → a.ends x ≡ e → a.ends x ≡ false
      calm x l m false e = e
      calm x l m true e = absurd (let o = fits.end t p in let z = o.only x (record { is = e; low = l; high = omega (arith, m, o.here.high) }) in omega (arith, z, m))

      silent : (y : ℕ) → what.comes y → (fits.end t p).at < y → y < t + f.le + turns + 2 → ⊥
      silent y k l m = let z = later_beat t (fits.end t p).at y p (fits.end t p).here k l in omega (arith, z, m, figs.flush, all_turns)

      after : (v k : ℕ) → who v ≡ Some k → t + f.le + turns + 3 ≤ v → suc (t + f.a) + (f.le - f.a + turns + 2) + s.le ≤ v + s.a
      after v k w l =
          let o = rot.origin v k w in
          let e = fits.end t p in
          let z = later_beat t e.at o.of p e.here o.comes (omega (arith, o.high, l, e.here.high)) in
          omega (arith, z, o.low, figs.flush, all_turns, sound_f.tuples_last, sound_f.end_last, sound_s.tuples_last, sound_s.end_last)

  -- the whole's ends
  late_end : (u : ℕ) → b.ends (u + delay) ≡ a.ends u
  late_end u =
      let e : u + delay ≡ u + (s.le + turns + 2) + 1 = omega arith in
      ap b.ends e ∙ back.ends (u + (s.le + turns + 2)) ∙ closes u

  end_from : (c : ℕ) → b.ends c ≡ true → (u : ℕ) × (c ≡ u + delay) × (a.ends u ≡ true)
  end_from c e = elim (cases_lt c delay) [
    | inl l ↦ absurd (early c l e)
    | inr l ↦ (let i : c ≡ (c - delay) + delay = omega (arith, l) in (c - delay, i, sym (late_end (c - delay)) ∙ ap b.ends (sym i) ∙ e))
  ]
    where
      early : (c : ℕ) → c < delay → b.ends c ≡ true → ⊥
      early zero l e = let z = back.no_end 0 (omega arith) in cc (z, e)
      early (suc x) l e =
          let i : x + 1 ≡ suc x = omega arith in
          let z : b.ends (suc x) ≡ close x = ap b.ends (sym i) ∙ back.ends x in
          let y = close_first x (omega (arith, l)) in cc (z, y, e)

  one_end : (t : ℕ) → beats t ≡ Some true → OneEnd h b t
  one_end t p =
      let o = fits.end t p in
      record {
        at = o.at + delay;
        here = record { is = late_end o.at ∙ o.here.is; low = omega (arith, o.here.low, figs.a, sound_s.tuples_last, sound_s.end_last); high = omega (arith, o.here.high, figs.le) };
        only = λ c e. let x = end_from c e.is in let q = fits.ends x.0 x.2 in
            let same = same_beat f h beats spaced sound q.beat t c true true q.is p (omega (arith, q.low, x.1, figs.a, sound_s.tuples_last, sound_s.end_last)) (omega (arith, q.high, x.1, figs.le)) e.low e.high in
            let z = o.only x.0 (record { is = x.2; low = omega (arith, q.low, same); high = omega (arith, q.high, same) }) in
            omega (arith, x.1, z);
        after = λ c l m. none c l m (b.tuple c) refl;
      }
    where
      none : (c : ℕ) → (fits.end t p).at + delay < c → c ≤ t + h.le → (x : Option Row) → b.tuple c ≡ x → b.tuple c ≡ None
      none c l m None e = e
      none c l m (Some r) e =
          let o = fits.end t p in
          let z = traced c r e in
          let of = z.origin in
          let up = z.of_cause in
          let k = later_beat t o.at of.of p o.here of.comes (omega (arith, l, up.high, of.high)) in
          let same = same_beat f h beats spaced sound z.beat t c z.end true z.is p z.low z.high (omega (arith, l, o.here.low, figs.a, sound_s.tuples_last, sound_s.end_last)) m in
          absurd (omega (arith, k, same, z.of_high, last_high z.end, figs.flush))

  whole_fits : Fits h beats b
  whole_fits = record {
    tuples = λ c r e. let z = traced c r e in record { beat = z.beat; end = z.end; is = z.is; low = z.low; high = z.high };
    ends = λ c e. let x = end_from c e in let q = fits.ends x.0 x.2 in record { beat = q.beat; is = q.is; low = omega (arith, q.low, x.1, figs.a, sound_s.tuples_last, sound_s.end_last); high = omega (arith, q.high, x.1, figs.le) };
    few = λ t e p. by t e p;
    end = one_end;
  }
    where
      by : (t : ℕ) (e : Bool) → beats t ≡ Some e → length (rows b (t + h.a) (suc (last h e) - h.a)) ≤ most h e
      by t true p = few_true t p
      by t false p = few_false t p

  pub whole_is : IsWhole s h count rounds beats a who outs b
  whole_is = record {
    fit = whole_fits;
    cause_of = cause;
    rows_of = rows_back;
    end_of = late_end;
    from_end = end_from;
    turned = all_turns;
  }
