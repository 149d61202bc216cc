-- A front that rotates, copies that serve a closing body, and the back of one cycle: what the whole serves, with its lines.
use Rattle.std.proofs.Common.{◌≡◌, ℕ, suc, ◌+◌, ◌-◌, ◌*◌, ◌<◌, ◌≤◌, List, [], ◌++◌, Option, Some, None, Bool, true, false, refl, sym, ap, ◌∙◌, subst, arith, inl, inr}
use Rattle.std.specs.Prelude.{option_to_list, if◌then◌else◌}
use Rattle.std.proofs.lemmas.Bool.{cases_lt}
use Rattle.std.proofs.lemmas.List.{append-nil}
use Rattle.gl_algebra.specs.declared.figures.Figures.{Figures}
use Rattle.gl_algebra.specs.FigureTable.{IsSound, stride_of}
use Rattle.gl_values.specs.Results.{Row, Results, AreJoined}
use Rattle.gl_wire.specs.Apart.{an_end}
use Rattle.gl_wire.specs.Beats.{Beats, beats_of, Spaced, Ends}
use Rattle.gl_wire.specs.Wire.{Carried, pending, stream, rows}
use Rattle.gl_wire.specs.Serves.{HasEnd, Fits}
use Rattle.gl_wire.specs.Serving.{Serving}
use Rattle.gl_wire.specs.Shapes.{IsDelayed}
use Rattle.gl_wire.specs.Spills.{Lines, ServedWithLines}
use Rattle.gl_wire.proofs.FurtherLemmas.{end_of, has_end_of, is_end_of}
use Rattle.gl_wire.proofs.RowsLemmas.{rows-quiet, pending-rows}
use Rattle.gl_wire.specs.Lift.{Visits, visits, tuple_of_any, all_of, LiftedWithLines}
use Rattle.gl_wire.specs.Coming.{Coming, KeepsBeats, by_tuples}
use Rattle.gl_wire.specs.Timed.{Begins, at_first, after_end, Origin, Timed}
use Rattle.gl_wire.specs.Rotates.{Rotates, OverCopies, lines_of_all, turns_of, delay_of_whole}
use Rattle.gl_wire.proofs.AnyLemmas.{any_false, any_true, some_line}
use Rattle.gl_wire.proofs.LiftLemmas.{joined, Apart}
use Rattle.gl_wire.proofs.SpillLemmas.{any_spill, are_joined, spilling, spilt, wire_ends}
use Rattle.gl_wire.proofs.TimeLemmas.{next_for, tuples_keep}
use Rattle.gl_wire.proofs.WholeFits.{whole_is}
use Rattle.gl_wire.proofs.WholeTime.{IsWhole}

module _ (f s h : Figures) (count rounds g1 g2 : ℕ) (few many : ℕ → ℕ) {Part : Type 0} (of : ℕ × List Row → Part) (parts : ℕ → List Part) (figs : OverCopies f s h rounds g1 g2 few many)
    (sound_f : IsSound f) (sound_s : IsSound s) (beats : Beats) (spaced : Spaced h beats) (a : Carried) (fits : Fits f beats a) (what : Coming) (keeps : KeepsBeats f beats a what) (timed : Timed g1 g2 a what)
    (who : Visits) (ins outs : ℕ → Carried) (rot : Rotates s count rounds g1 few many of a what parts who ins) (b : Carried) (whole : IsWhole s h count rounds beats a who outs b)
    (OfPart : Part → Results) (lines : ℕ → Lines) (lifted : LiftedWithLines s (λ u xs. OfPart (of (u, xs))) count who lines ins outs) where
  abbrev turns : ℕ
  turns = turns_of rounds s

  abbrev delay : ℕ
  delay = delay_of_whole rounds s

  from_low : (d : ℕ) → a.ends d ≡ true → rot.from d ≤ d + turns + 2
  from_low d p = by (rot.begins d p)
    where
      by : Begins (rounds * stride_of s) a (rot.from d) d → rot.from d ≤ d + turns + 2
      by (at_first z none) = omega (arith, z)
      by (after_end u e l z none) = let y = timed.after u d e (keeps.carried d (an_end p)) l in omega (arith, y, z, figs.flush)

  after_stream : (d v k : ℕ) → a.ends d ≡ true → who v ≡ Some k → d + turns + 2 ≤ v → d + turns + 2 + s.le + 1 ≤ v + s.a
  after_stream d v k p w l =
      let o = rot.origin v k w in
      let y = timed.after d o.of p o.comes (omega (arith, o.high, l)) in
      omega (arith, y, o.low, figs.flush, whole.turned, sound_s.tuples_last, sound_s.end_last)

  abbrev Whole : ℕ → ℕ → Type 0
  Whole c n = Apart s (λ u xs ys. OfPart (of (u, xs)) ys (lifted.spill u)) count who ins outs rot.schedules.apart lifted.lifted.near lifted.lifted.visit c n

  around : (d : ℕ) (p : a.ends d ≡ true) → Whole (rot.from d) (d + turns + 2 - rot.from d)
  around d p = record {
    before = λ v k w l. before v k w l (rot.begins d p);
    after = λ v k w l. let y = after_stream d v k p w (omega (arith, l, from_low d p)) in omega (arith, y, from_low d p);
  }
    where
      before : (v k : ℕ) → who v ≡ Some k → v < rot.from d → Begins (rounds * stride_of s) a (rot.from d) d → v + (s.le + 1) ≤ rot.from d + s.a
      before v k w l (at_first z none) = absurd (omega (arith, z, l))
      before v k w l (after_end u e n z none) =
          let o = rot.origin v k w in
          elim (cases_lt u o.of) [
            | inl y ↦ absurd (let x = timed.after u o.of e o.comes y in omega (arith, x, z, figs.flush, o.low, l))
            | inr y ↦ omega (arith, y, o.high, z, whole.turned, sound_s.tuples_last, sound_s.end_last)
          ]

  -- the whole's stream is all that came from the first to the last visit
  whole_stream : (d : ℕ) → a.ends d ≡ true → stream b (d + delay) ≡ rows (all_of outs count) (rot.from d + s.a) (d + turns + 2 - rot.from d + (s.le - s.a))
  whole_stream d p =
      let n : (suc (rot.from d + s.a)) + (d + turns + 2 - rot.from d + (s.le - s.a)) ≡ d + delay = omega (arith, from_low d p, sound_s.tuples_last, sound_s.end_last) in
      ap (λ z. pending b (d + delay) ++ option_to_list z) (last_none (b.tuple (d + delay)) refl)
      ∙ append-nil (pending b (d + delay))
      ∙ ap (pending b) (sym n)
      ∙ pending-rows b (d + turns + 2 - rot.from d + (s.le - s.a)) (suc (rot.from d + s.a)) (λ c l q. calm c l (omega (arith, q, n)) (b.ends c) refl (rot.begins d p))
      ∙ ap (λ z. z ++ rows b (suc (rot.from d + s.a)) (d + turns + 2 - rot.from d + (s.le - s.a))) (first (rot.begins d p))
      ∙ whole.rows_of (d + turns + 2 - rot.from d + (s.le - s.a)) (rot.from d + s.a)
    where
      last_none : (x : Option Row) → b.tuple (d + delay) ≡ x → b.tuple (d + delay) ≡ None
      last_none None e = e
      last_none (Some r) e = let z = whole.cause_of (d + delay) r e in absurd (let y = after_stream d z.v z.k p z.visit (omega (arith, z.high)) in omega (arith, y, z.low))

      calm : (c : ℕ) → suc (rot.from d + s.a) ≤ c → c < d + delay → (e : Bool) → b.ends c ≡ e → Begins (rounds * stride_of s) a (rot.from d) d → b.ends c ≡ false
      calm c l q false e g = e
      calm c l q true e (at_first z none) = let x = whole.from_end c e in absurd (none x.0 (omega (arith, x.1, q)) x.2)
      calm c l q true e (after_end u y n z none) = let x = whole.from_end c e in elim (cases_lt u x.0) [
        | inl w ↦ absurd (none x.0 w (omega (arith, x.1, q)) x.2)
        | inr w ↦ absurd (omega (arith, x.1, w, z, l, whole.turned, sound_s.tuples_last, sound_s.end_last))
      ]

      early : (c : ℕ) → c < s.a + 1 → (x : Option Row) → b.tuple c ≡ x → b.tuple c ≡ None
      early c l None e = e
      early c l (Some r) e = absurd (let z = whole.cause_of c r e in omega (arith, z.low, l))

      no_end_early : (c : ℕ) → c < s.a + 1 → (x : Bool) → b.ends c ≡ x → b.ends c ≡ false
      no_end_early c l false e = e
      no_end_early c l true e = absurd (let x = whole.from_end c e in omega (arith, x.1, l, sound_s.tuples_last, sound_s.end_last))

      first : Begins (rounds * stride_of s) a (rot.from d) d → pending b (suc (rot.from d + s.a)) ≡ []
      first (at_first z none) =
          let e : suc (rot.from d + s.a) ≡ 0 + (s.a + 1) = omega (arith, z) in
          ap (pending b) e ∙ pending-rows b (s.a + 1) 0 (λ c l q. no_end_early c (omega (arith, q)) (b.ends c) refl)
          ∙ rows-quiet b (s.a + 1) 0 (λ c l q. early c (omega (arith, q)) (b.tuple c) refl)
      first (after_end u y n z none) =
          let e : suc (rot.from d + s.a) ≡ suc (u + delay) = omega (arith, z, whole.turned, sound_s.tuples_last, sound_s.end_last) in
          let x : b.ends (u + delay) ≡ true = whole.end_of u ∙ y in
          ap (pending b) e ∙ ap (λ (q : Bool). if q then [] else pending b (u + delay) ++ option_to_list (b.tuple (u + delay))) x

  abbrev spill_of : ℕ → Bool
  spill_of d = any_spill lifted.spill (visits who ins (rot.from d) (d + turns + 2 - rot.from d))

  result_of : (d : ℕ) → a.ends d ≡ true → AreJoined OfPart (parts d) (stream b (d + delay)) (spill_of d)
  result_of d p =
      let j = joined s (λ u xs ys. OfPart (of (u, xs)) ys (lifted.spill u)) count who ins outs rot.schedules.apart lifted.lifted.near lifted.lifted.visit (d + turns + 2 - rot.from d) (d + turns + 2 - rot.from d) (rot.from d) (omega arith) (omega (arith, sound_s.tuples_last, sound_s.end_last)) (around d p) in
      let r = are_joined lifted.spill of OfPart (visits who ins (rot.from d) (d + turns + 2 - rot.from d)) (rows (all_of outs count) (rot.from d + s.a) (d + turns + 2 - rot.from d + (s.le - s.a))) j in
      subst (λ ys. AreJoined OfPart (parts d) ys (spill_of d)) (sym (whole_stream d p)) (subst (λ ps. AreJoined OfPart ps (rows (all_of outs count) (rot.from d + s.a) (d + turns + 2 - rot.from d + (s.le - s.a))) (spill_of d)) (rot.parted d p) r)

  at_delay : (t d e : ℕ) → beats t ≡ Some true → HasEnd f a t d → HasEnd h b t e → e ≡ d + delay
  at_delay t d e p hd he =
      let o = whole.fit.end t p in
      let here : HasEnd h b t (d + delay) = record { is = whole.end_of d ∙ hd.is; low = omega (arith, hd.low, figs.a, sound_s.tuples_last, sound_s.end_last); high = omega (arith, hd.high, figs.le) } in
      o.only e he ∙ sym (o.only (d + delay) here)

  pub no_later : (t d e : ℕ) → beats t ≡ Some true → HasEnd f a t d → HasEnd h b t e → d ≤ e
  no_later t d e p hd he = omega (arith, at_delay t d e p hd he)

  -- ---- the lines

  -- where the beats end, the first end at or after what came
  next_end : Ends beats → (x : ℕ) → what.comes x → (d : ℕ) × (x ≤ d) × (a.ends d ≡ true) × ((j : ℕ) → x ≤ j → j < d → a.ends j ≡ false)
  next_end en x k = next_for f h beats a what sound_f (omega (arith, sound_f.tuples_gap, figs.keeps)) (omega (arith, figs.ge, figs.flush)) spaced fits keeps en x k

  -- a visit belongs to the stream of the first end after what let it end
  in_stream : (v k d : ℕ) → who v ≡ Some k → (o : Origin turns g1 (stride_of s) a what v) → o.of ≤ d → a.ends d ≡ true → ((j : ℕ) → o.of ≤ j → j < d → a.ends j ≡ false) → (rot.from d ≤ v) × (v < d + turns + 2)
  in_stream v k d w o l p none = (low (rot.begins d p), omega (arith, o.high, l))
    where
      low : Begins (rounds * stride_of s) a (rot.from d) d → rot.from d ≤ v
      low (at_first z g) = omega (arith, z)
      low (after_end u e n z g) = elim (cases_lt u o.of) [
        | inl y ↦ (let x = timed.after u o.of e o.comes y in omega (arith, x, z, o.low, figs.flush))
        | inr y ↦ absurd (let x = none u y n in cc (x, e))
      ]

  -- where the beats end, each copy's do
  copies_end : Ends beats → (k : ℕ) → k < count → Ends (beats_of (ins k))
  copies_end en k l = wire_ends (ins k) (λ t r h n.
      let x = rot.caused k t r l h n in
      let e = next_end en x.0 x.2 in
      record { at = e.0 + turns + 2; behind = omega (arith, x.1, e.1); none = rot.empties e.0 k e.2 l })

  -- what ends for a beat is joined of the parts of the stream that ends in its interval
  pub serving : Serving h (λ t. AreJoined OfPart (parts (end_of f beats a fits t))) (lines_of_all lines count) beats b
  serving = record {
    fits = whole.fit;
    spill = λ t. spill_of (end_of f beats a fits t);
    right = λ t e p he.
        let hd = has_end_of f beats a fits t p in
        subst (λ z. AreJoined OfPart (parts (end_of f beats a fits t)) (stream b z) (spill_of (end_of f beats a fits t))) (sym (at_delay t (end_of f beats a fits t) e p hd he)) (result_of (end_of f beats a fits t) hd.is);
    low = λ c. any_false (λ k. (lines k).passed c) count (λ k l. lifted.low k c l);
    told = λ en t p e.
        let v = spilling lifted.spill who ins (end_of f beats a fits t + turns + 2 - rot.from (end_of f beats a fits t)) (rot.from (end_of f beats a fits t)) e in
        let x = lifted.told (copies_end en) v.0 v.1 v.2 v.3 in
        (x.1, any_true (λ k. (lines k).further x.1) count x.0 x.2 x.3);
    so = λ en c e.
        let k = some_line (λ i. (lines i).further c) count e in
        let v = lifted.so (copies_end en) k.0 c k.1 k.2 in
        let o = rot.origin v.0 k.0 v.1 in
        let d = next_end en o.of o.comes in
        let i = in_stream v.0 k.0 d.0 v.1 o d.1 d.2 d.3 in
        let q = fits.ends d.0 d.2 in
        let same = is_end_of f beats a fits q.beat d.0 q.is (record { is = d.2; low = q.low; high = q.high }) in
        let at : spill_of (end_of f beats a fits q.beat) ≡ spill_of d.0 = ap spill_of same in
        (q.beat, q.is, at ∙ spilt lifted.spill who ins (d.0 + turns + 2 - rot.from d.0) (rot.from d.0) v.0 k.0 v.1 i.0 (omega (arith, i.0, i.1)) v.2);
    late = λ en c e.
        let k = some_line (λ i. (lines i).further c) count e in
        let v = lifted.late (copies_end en) k.0 c k.1 k.2 in
        let o = rot.origin v.0 k.0 v.1 in
        let d = next_end en o.of o.comes in
        (d.0 + delay, omega (arith, v.2, o.high, d.1), whole.end_of d.0 ∙ d.2);
  }

-- the law of a whole: a front that rotates over a source that is in time, copies that are lifted, and a back of one cycle with the end
-- that much later, serve what the body makes of each part, joined
module _ (f s h : Figures) (count rounds g1 g2 : ℕ) (few many : ℕ → ℕ) {Part : Type 0} (of : ℕ × List Row → Part) (figs : OverCopies f s h rounds g1 g2 few many)
    (sound_f : IsSound f) (sound_s : IsSound s) (sound : IsSound h) (some : 1 ≤ rounds) (beats : Beats) (spaced : Spaced h beats) (a : Carried) (fits : Fits f beats a)
    (who : Visits) (ins outs : ℕ → Carried) (OfPart : Part → Results) (lines : ℕ → Lines) (lifted : LiftedWithLines s (λ u xs. OfPart (of (u, xs))) count who lines ins outs)
    (b : Carried) (close : ℕ → Bool) (back : IsDelayed 1 (record { tuple = tuple_of_any outs count; ends = close }) b)
    (first : (c : ℕ) → c < s.le + turns_of rounds s + 2 → close c ≡ false) (closes : (c : ℕ) → close (c + (s.le + turns_of rounds s + 2)) ≡ a.ends c) where
  -- whatever comes, in the words of the beats
  pub whole_serving : (what : Coming) (parts : ℕ → List Part) (keeps : KeepsBeats f beats a what) → Timed g1 g2 a what → Rotates s count rounds g1 few many of a what parts who ins
      → Serving h (λ t. AreJoined OfPart (parts (end_of f beats a fits t))) (lines_of_all lines count) beats b
  whole_serving what parts keeps timed rot =
      serving f s h count rounds g1 g2 few many of parts figs sound_f sound_s beats spaced a fits what keeps timed who ins outs rot b
      (whole_is f s h count rounds g1 g2 few many of parts figs sound_f sound_s sound some beats spaced a fits what keeps timed who ins outs rot lifted.lifted.near lifted.lifted.few b close back first closes) OfPart lines lifted

  -- where tuples and ends come, and the parts are those of the stream that ends, in the words of streams
  pub whole_lines : (parts : List Row → List Part) → Timed g1 g2 a (by_tuples a) → Rotates s count rounds g1 few many of a (by_tuples a) (λ u. parts (stream a u)) who ins
      → ServedWithLines f h (λ xs ys p. AreJoined OfPart (parts xs) ys p) (lines_of_all lines count) beats a b
  whole_lines parts timed rot = record {
    spill = given.spill;
    served = record {
      fits = given.fits;
      results = λ t d e p hd he. subst (λ z. AreJoined OfPart (parts (stream a z)) (stream b e) (given.spill t)) (is_end_of f beats a fits t d p hd) (given.right t e p he);
      later = no_later f s h count rounds g1 g2 few many of (λ u. parts (stream a u)) figs sound_f sound_s beats spaced a fits (by_tuples a) keeps timed who ins outs rot b whole OfPart lines lifted;
    };
    low = given.low;
    told = given.told;
    so = given.so;
    late = given.late;
  }
    where
      keeps : KeepsBeats f beats a (by_tuples a)
      keeps = tuples_keep f beats a fits

      whole : IsWhole s h count rounds beats a who outs b
      whole = whole_is f s h count rounds g1 g2 few many of (λ u. parts (stream a u)) figs sound_f sound_s sound some beats spaced a fits (by_tuples a) keeps timed who ins outs rot lifted.lifted.near lifted.lifted.few b close back first closes

      given : Serving h (λ t. AreJoined OfPart (parts (stream a (end_of f beats a fits t)))) (lines_of_all lines count) beats b
      given = whole_serving (by_tuples a) (λ u. parts (stream a u)) keeps timed rot
