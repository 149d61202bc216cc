-- Sides that take turns serve their order of arrival, and so one of the interleavings.
use Rattle.std.proofs.Common.{◌≡◌, ℕ, suc, ◌+◌, List, Some, None, true, false, refl, sym, ap, ◌∙◌, subst, arith}
use Rattle.gl_algebra.specs.declared.figures.Figures.{Figures}
use Rattle.gl_algebra.specs.FigureTable.{IsSound, delayed}
use Rattle.gl_algebra.proofs.SoundLemmas.{delayed_sound}
use Rattle.gl_values.specs.Lists.{IsInterleaving}
use Rattle.gl_values.specs.Results.{Row}
use Rattle.gl_wire.specs.Beats.{Beats, Spaced}
use Rattle.gl_wire.specs.Serves.{Fits, HasEnd}
use Rattle.gl_wire.specs.Shapes.{IsDelayed}
use Rattle.gl_wire.specs.Wire.{Carried, stream}
use Rattle.gl_wire.proofs.DelayLemmas.{delayed_fits, has_end_before}
use Rattle.gl_wire.proofs.SideLemmas.{none_unless}
use Rattle.gl_queue.specs.Merging.{first_of}
use Rattle.gl_arrival.specs.Arrival.{by_arrival}
use Rattle.gl_arrival.specs.Places.{Placed, rows_of}
use Rattle.gl_arrival.proofs.ResultLemmas.{rows_interleave}
use Rattle.gl_turns.specs.Dates.{stream_at_beats}
use Rattle.gl_turns.specs.TurnFigures.{in_turn, left_wait, right_wait, turn_figures}
use Rattle.gl_turns.specs.Turns.{ArrivalsInterleave, LeaveNext, ServesInTurn, TurnsLeaveNext, TurnsServe, together}
use Rattle.gl_turns.proofs.DateLemmas.{stream_later, stream_without}
use Rattle.gl_turns.proofs.TurnFits.{fits_together, same_end, together_figures}
use Rattle.gl_turns.proofs.TurnOrder.{in_order_at}
use Rattle.gl_turns.proofs.TurnTimes as times

pub turns_serve : TurnsServe
turns_serve p q a b o sound_p sound_q behind d beats spaced fits_a fits_b =
    let f : Figures = together_figures p q in
    let s : Carried = together a b in
    let ended : (t e x : ℕ) → beats t ≡ Some true → HasEnd q b t e → HasEnd (in_turn p q) o t x → x ≡ e + 1 =
    λ t e x h j k.
    let z = has_end_before 1 s o d f t x k in
    z.1 ∙ ap (λ (n : ℕ). n + 1) (same_end p q a b beats sound_p sound_q behind spaced fits_a fits_b t z.0 e h z.2 j) in
    record {
      fits = delayed_fits 1 s o d f beats (fits_together p q a b beats sound_p sound_q behind spaced fits_a fits_b);
      in_order = λ t c e x h i j k.
          ap (stream_at_beats (p.a + 1) beats o) (ended t e x h j k) ∙ stream_later 1 s o d p.a beats e
          ∙ in_order_at p q a b beats sound_p sound_q behind spaced fits_a fits_b t c e h i j;
      later = λ t c x h i k.
          let o' = (fits_b.end t h).here in
          let e = ended t (fits_b.end t h).at x h o' k in
          let high = i.high in
          let low = o'.low in
          omega (arith, e, high, low, behind);
      later2 = λ t e x h j k. let z = ended t e x h j k in omega (arith, z);
    }

pub turns_leave_next : TurnsLeaveNext
turns_leave_next p q a b o beats sound_p sound_q behind d spaced fits_a fits_b = record {
  left = λ c r e. let n : suc c ≡ c + 1 = omega arith in ap o.tuple n ∙ d.tuples c ∙ ap (λ l. first_of l (b.tuple c)) e;
  right = λ c r e.
      let n : suc c ≡ c + 1 = omega arith in
      let none : a.tuple c ≡ None = none_unless (a.tuple c) (λ x g. times.never_both p q beats sound_p sound_q behind spaced c (fits_a.tuples c x g) (fits_b.tuples c r e)) in
      ap o.tuple n ∙ d.tuples c ∙ ap (λ l. first_of l (b.tuple c)) none ∙ e;
  end = λ c. let n : suc c ≡ c + 1 = omega arith in ap o.ends n ∙ d.ends c;
}

-- ---- sides that wait first

module _ (p q : Figures) (a b a' b' o : Carried) (sound_p : IsSound p) (sound_q : IsSound q) (da : IsDelayed (left_wait p q) a a') (db : IsDelayed (right_wait p q) b b') (d : IsDelayed 1 (together a' b') o) where
  abbrev p' : Figures
  p' = delayed (left_wait p q) p

  abbrev q' : Figures
  q' = delayed (right_wait p q) q

  behind : p'.le + 1 ≡ q'.a
  behind = omega arith

  pub waiting_serve : TurnsServe → ServesInTurn p q (turn_figures p q) a b o
  waiting_serve serves beats spaced fits_a fits_b =
      let w = serves p' q' a' b' o (delayed_sound (left_wait p q) p sound_p) (delayed_sound (right_wait p q) q sound_q) behind d beats spaced
      (delayed_fits (left_wait p q) a a' da p beats fits_a) (delayed_fits (right_wait p q) b b' db q beats fits_b) in
      let at_left : (t c : ℕ) → HasEnd p a t c → HasEnd p' a' t (c + left_wait p q) =
      λ t c h. record { is = da.ends c ∙ h.is; low = (let l = h.low in omega (arith, l)); high = (let l = h.high in omega (arith, l)) } in
      let at_right : (t c : ℕ) → HasEnd q b t c → HasEnd q' b' t (c + right_wait p q) =
      λ t c h. record { is = db.ends c ∙ h.is; low = (let l = h.low in omega (arith, l)); high = (let l = h.high in omega (arith, l)) } in
      record {
        fits = w.fits;
        in_order = λ t c e x h i j k.
            w.in_order t (c + left_wait p q) (e + right_wait p q) x h (at_left t c i) (at_right t e j) k
            ∙ ap (λ l. by_arrival l (stream_at_beats q'.a beats b' (e + right_wait p q))) (stream_later (left_wait p q) a a' da p.a beats c)
            ∙ ap (by_arrival (stream_at_beats p.a beats a c)) (stream_later (right_wait p q) b b' db q.a beats e);
        later = λ t c x h i k. let l = w.later t (c + left_wait p q) x h (at_left t c i) k in omega (arith, l);
        later2 = λ t e x h j k. let l = w.later2 t (e + right_wait p q) x h (at_right t e j) k in omega (arith, l);
      }

  pub waiting_leave_next : TurnsLeaveNext → (beats : Beats) → Spaced (turn_figures p q) beats → Fits p beats a → Fits q beats b → LeaveNext a' b' o
  waiting_leave_next next beats spaced fits_a fits_b =
      next p' q' a' b' o beats (delayed_sound (left_wait p q) p sound_p) (delayed_sound (right_wait p q) q sound_q) behind d spaced
      (delayed_fits (left_wait p q) a a' da p beats fits_a) (delayed_fits (right_wait p q) b b' db q beats fits_b)

-- ---- one of the interleavings

pub arrivals_interleave : ArrivalsInterleave
arrivals_interleave f g h a b o serves beats spaced fits_a fits_b c =
    let w = serves beats spaced fits_a fits_b in
    record {
      spill = λ t. false;
      served = record {
        fits = w.fits;
        results = λ t d e x is i j k.
            let xs : List (Placed Row) = stream_at_beats f.a beats a d in
            let ys : List (Placed Row) = stream_at_beats g.a beats b e in
            let zs : List (Placed Row) = stream_at_beats h.a beats o x in
            let rows : IsInterleaving (rows_of xs) (rows_of ys) (rows_of zs) =
            subst (λ (l : List (Placed Row)). IsInterleaving (rows_of xs) (rows_of ys) (rows_of l)) (sym (w.in_order t d e x is i j k)) (rows_interleave xs ys) in (
              subst (λ (l : List Row). IsInterleaving l (stream b e) (stream o x)) (stream_without f.a beats a d)
                  (subst (λ (l : List Row). IsInterleaving (rows_of xs) l (stream o x)) (stream_without g.a beats b e)
                  (subst (IsInterleaving (rows_of xs) (rows_of ys)) (stream_without h.a beats o x) rows)),
              refl,
            );
        later = w.later;
        later2 = w.later2;
      };
      low = λ x. refl;
      told = λ en t is e. absurd (cc);
      so = λ en x e. absurd (cc);
      late = λ en x e. absurd (cc);
    }
